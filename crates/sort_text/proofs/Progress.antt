-- Reading goes on: every token but the end and a bad one takes its bytes, so an operand or a sort takes at least one byte of the
-- line. By the clauses of the definitions. Assumes nothing.
use mathlib.Core.Path.{◌≡◌, refl, ap, subst}
use mathlib.Core.Bool.{Bool, true, false, cond}
use mathlib.Core.List.{List, [], ◌∷◌}
use Prim.Native.Nat.{ℕ, zero, suc, ◌+◌, ◌≤◌, ◌<◌}
use native.Mathlib.Omega.{arith}
use lib.ListN.{length, length-append}
use lib.Dec.{eqb}
use Rattle.resolved_sort.specs.Tree.{Tree, no_args, arg}
use Rattle.sort_text.specs.Tokens.{is_letter, NextToken, end, word, open_bracket, close_bracket, hash, arrow}
use Rattle.sort_text.specs.Tokens.{bad, run, past, skip, dash, start, next_at, next}
use Rattle.sort_text.specs.Parse.{Parsed, parsed, stuck, ◌then-read◌, WordMeaning, basic, operator, unknown}
use Rattle.sort_text.specs.Parse.{meaning, bracketed, operand_of, operand_at, operand, rest, sort_to, sort, left}
use Rattle.sort_text.specs.Parse.{Leaves}
use Rattle.sort_text.proofs.Suffix.{after, suffix_length, skip_suffix, next_suffix, run_past, bracketed_suffix, rest_suffix, sort_to_suffix}

-- the bytes of a token, and 1 for a token that is there
abbrev pub width : NextToken → ℕ
width end = 0
width (word w bs) = length w
width (open_bracket bs) = 1
width (close_bracket bs) = 1
width (hash bs) = 1
width (arrow bs) = 2
width bad = 0

abbrev pub there : NextToken → ℕ
there end = 0
there (word w bs) = 1
there (open_bracket bs) = 1
there (close_bracket bs) = 1
there (hash bs) = 1
there (arrow bs) = 1
there bad = 0

-- a token at the front of n bytes takes its bytes of them
abbrev pub Takes : ℕ → List ℕ → NextToken → Type 0
Takes k at n = (length (after at n) + width n ≤ k) × (there n ≤ width n)

dash_takes : (b : ℕ) (bs : List ℕ) → Takes (suc (length bs)) (b ∷ bs) (dash bs)
dash_takes b [] = omega arith
dash_takes b (c ∷ bs) = go (eqb c 62)
  where
    go : (t : Bool) → Takes (suc (suc (length bs))) (b ∷ c ∷ bs) (cond t (arrow bs) bad)
    go true = omega arith
    go false = omega arith

start_takes : (p : ℕ → Bool) (b : ℕ) (bs : List ℕ) → Takes (suc (length bs)) (b ∷ bs) (start p b bs)
unfolding start
start_takes p b bs = go (p b) (eqb b 40) (eqb b 41) (eqb b 35) (eqb b 45)
  where
    go : (l o c h d : Bool)
        → Takes (suc (length bs)) (b ∷ bs) (cond l (word (b ∷ run p bs) (past p bs)) (cond o (open_bracket bs)
        (cond c (close_bracket bs) (cond h (hash bs) (cond d (dash bs) bad)))))
    go true o c h d = (omega (arith, simp length-append at (ap length (run_past p bs))), omega arith)
    go false true c h d = omega arith
    go false false true h d = omega arith
    go false false false true d = omega arith
    go false false false false true = dash_takes b bs
    go false false false false false = omega arith

next_at_takes : (p : ℕ → Bool) (bs : List ℕ) → Takes (length bs) bs (next_at p bs)
next_at_takes p [] = omega arith
next_at_takes p (b ∷ bs) = start_takes p b bs

pub next_takes : (p : ℕ → Bool) (bs : List ℕ) → Takes (length bs) (skip bs) (next p bs)
unfolding next
next_takes p bs =
    let h = next_at_takes p (skip bs) in
    (omega (arith, h.0, suffix_length (skip bs) bs (skip_suffix bs)), h.1)

next_is : (p : ℕ → Bool) (bs : List ℕ) (n : NextToken) → next p bs ≡ n → Takes (length bs) (skip bs) n
next_is p bs n e = subst (Takes (length bs) (skip bs)) e (next_takes p bs)

-- Every token but the end and a bad one takes at least one byte.
pub word_takes : (p : ℕ → Bool) (bs w cs : List ℕ) → next p bs ≡ word w cs → (length cs + length w ≤ length bs) × (0 < length w)
word_takes p bs w cs e = next_is p bs (word w cs) e

pub open_bracket_takes : (p : ℕ → Bool) (bs cs : List ℕ) → next p bs ≡ open_bracket cs → length cs + 1 ≤ length bs
open_bracket_takes p bs cs e = (next_is p bs (open_bracket cs) e).0

pub close_bracket_takes : (p : ℕ → Bool) (bs cs : List ℕ) → next p bs ≡ close_bracket cs → length cs + 1 ≤ length bs
close_bracket_takes p bs cs e = (next_is p bs (close_bracket cs) e).0

pub hash_takes : (p : ℕ → Bool) (bs cs : List ℕ) → next p bs ≡ hash cs → length cs + 1 ≤ length bs
hash_takes p bs cs e = (next_is p bs (hash cs) e).0

pub arrow_takes : (p : ℕ → Bool) (bs cs : List ℕ) → next p bs ≡ arrow cs → length cs + 2 ≤ length bs
arrow_takes p bs cs e = (next_is p bs (arrow cs) e).0

-- what holds of the tree and of what is left, if there is a tree
abbrev pub IfRead : (Tree → List ℕ → Type 0) → Parsed → Type 0
IfRead P (parsed t cs) = P t cs
IfRead P (stuck cs) = Unit {0}

pub then_if_read : (P Q : Tree → List ℕ → Type 0) (p : Parsed) (k : Tree → List ℕ → Parsed) → IfRead P p
    → ((t : Tree) (cs : List ℕ) → P t cs → IfRead Q (k t cs)) → IfRead Q (p then-read k)
then_if_read P Q (parsed t cs) k h f = f t cs h
then_if_read P Q (stuck cs) k h f = tt

pub read : (P : Tree → List ℕ → Type 0) (p : Parsed) (t : Tree) (cs : List ℕ) → IfRead P p → p ≡ parsed t cs → P t cs
read P p t cs h e = subst (IfRead P) e h

abbrev Fewer : ℕ → Tree → List ℕ → Type 0
Fewer n t cs = length cs < n

-- what is left by a reader is no longer than what it is given
if_read_left : (p : Parsed) (n : ℕ) → length (left p) < n → IfRead (Fewer n) p
if_read_left (parsed t cs) n h = h
if_read_left (stuck cs) n h = tt

module _ (f : List ℕ → Parsed) (g : Leaves f) where
  operand_of_fewer : (at bs cs : List ℕ) (m : WordMeaning) → length cs < length bs → IfRead (Fewer (length bs)) (operand_of f at m cs)
  unfolding operand_of
  operand_of_fewer at bs cs (basic s) h = h
  operand_of_fewer at bs cs (operator o) h =
      let p = bracketed f o (skip cs) (next is_letter cs) in
      if_read_left p (length bs) (omega (
        arith,
        suffix_length (left p) cs (bracketed_suffix f g o (skip cs) cs
            (next is_letter cs) (skip_suffix cs) (next_suffix is_letter cs)),
      ))
  operand_of_fewer at bs cs unknown h = tt

  operand_at_fewer : (at bs : List ℕ) (n : NextToken) → next is_letter bs ≡ n → IfRead (Fewer (length bs)) (operand_at f at n)
  unfolding operand_at
  operand_at_fewer at bs (word w cs) e = let h = word_takes is_letter bs w cs e in operand_of_fewer at bs cs (meaning w) (omega (arith, h.0, h.1))
  operand_at_fewer at bs end e = tt
  operand_at_fewer at bs (open_bracket cs) e = tt
  operand_at_fewer at bs (close_bracket cs) e = tt
  operand_at_fewer at bs (hash cs) e = tt
  operand_at_fewer at bs (arrow cs) e = tt
  operand_at_fewer at bs bad e = tt

  operand_fewer : (bs : List ℕ) → IfRead (Fewer (length bs)) (operand f bs)
  unfolding operand
  operand_fewer bs = operand_at_fewer (skip bs) bs (next is_letter bs) refl

  pub operand_takes : (bs cs : List ℕ) (t : Tree) → operand f bs ≡ parsed t cs → length cs < length bs
  operand_takes bs cs t e = read (Fewer (length bs)) (operand f bs) t cs (operand_fewer bs) e

  step_fewer : (bs : List ℕ) → IfRead (Fewer (length bs)) (operand f bs then-read (λ t cs. rest f 15 (arg t no_args) cs))
  step_fewer bs =
      then_if_read (Fewer (length bs)) (Fewer (length bs)) (operand f bs) _ (operand_fewer bs)
      (λ t cs h. if_read_left (rest f 15 (arg t no_args) cs) (length bs) (omega (arith, h, suffix_length _ cs (rest_suffix f g 15 (arg t no_args) cs))))

-- A sort takes at least one byte.
pub sort_to_takes : (d : ℕ) (bs cs : List ℕ) (t : Tree) → sort_to d bs ≡ parsed t cs → length cs < length bs
unfolding sort_to
sort_to_takes zero bs cs t e = let z : ◌≡◌ {A = ℕ} 0 1 = cc in absurd (omega arith)
sort_to_takes (suc d) bs cs t e = read (Fewer (length bs)) _ t cs (step_fewer (sort_to d) (sort_to_suffix d) bs) e

pub sort_takes : (bs cs : List ℕ) (t : Tree) → sort bs ≡ parsed t cs → length cs < length bs
unfolding sort
sort_takes bs cs t e = sort_to_takes (suc (length bs)) bs cs t e
