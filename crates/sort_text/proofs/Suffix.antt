-- What reading leaves is an end of the line: each token, operand and sort takes bytes from the front. By the clauses of the
-- definitions, and by induction on the depth. Assumes nothing.
use mathlib.Core.Path.{◌≡◌, refl, sym, ◌∙◌, ap, ap₂, subst}
use mathlib.Core.Bool.{Bool, true, false, cond}
use mathlib.Core.List.{List, [], ◌∷◌, ◌++◌, append_assoc, append-nil}
use Prim.Native.Nat.{ℕ, zero, suc, ◌-◌, ◌≤◌}
use native.Mathlib.Omega.{arith}
use lib.ListN.{length, drop, length-append}
use lib.Seq.{drop-append_seam}
use lib.Dec.{eqb}
use Rattle.resolved_sort.specs.declared.ComplexSort.{ComplexSort}
use Rattle.resolved_sort.specs.Tree.{Tree, Trees, no_args, arg}
use Rattle.sort_text.specs.Tokens.{is_letter, NextToken, end, word, open_bracket, close_bracket, hash, arrow}
use Rattle.sort_text.specs.Tokens.{bad, run, past, skip, dash, start, next_at, next}
use Rattle.sort_text.specs.Parse.{Parsed, parsed, stuck, ◌then-read◌, WordMeaning, basic, operator, unknown}
use Rattle.sort_text.specs.Parse.{meaning, closing, in_brackets, bracketed, operand_of, operand_at, operand, snoc, alone}
use Rattle.sort_text.specs.Parse.{rest_at, rest, sort_to, sort, ending, line, Suffix, left, Leaves}

pub suffix_refl : (bs : List ℕ) → Suffix bs bs
suffix_refl bs = record { front = []; whole = refl }

pub suffix_trans : (ds cs bs : List ℕ) → Suffix ds cs → Suffix cs bs → Suffix ds bs
suffix_trans ds cs bs p q =
    record { front = q.front ++ p.front; whole = q.whole ∙ (ap (λ es. q.front ++ es) p.whole ∙ sym (append_assoc q.front p.front ds)) }

pub suffix_cons : (b : ℕ) (cs bs : List ℕ) → Suffix cs bs → Suffix cs (b ∷ bs)
suffix_cons b cs bs p = record { front = b ∷ p.front; whole = ap (λ es. b ∷ es) p.whole }

pub suffix_nil : (bs : List ℕ) → Suffix [] bs
suffix_nil bs = record { front = bs; whole = sym (append-nil bs) }

pub suffix_length : (cs bs : List ℕ) → Suffix cs bs → length cs ≤ length bs
suffix_length cs bs p = omega (arith, simp length-append at (ap length p.whole))

-- tokens
past_by : (p : ℕ → Bool) (b : ℕ) (bs : List ℕ) (t : Bool) → Suffix (past p bs) bs → Suffix (cond t (past p bs) (b ∷ bs)) (b ∷ bs)
past_by p b bs true h = suffix_cons b (past p bs) bs h
past_by p b bs false h = suffix_refl (b ∷ bs)

pub past_suffix : (p : ℕ → Bool) (bs : List ℕ) → Suffix (past p bs) bs
unfolding past
past_suffix p [] = suffix_refl []
past_suffix p (b ∷ bs) = past_by p b bs (p b) (past_suffix p bs)

pub skip_suffix : (bs : List ℕ) → Suffix (skip bs) bs
unfolding skip
skip_suffix bs = past_suffix (eqb 32) bs

-- a run and what follows it make the list
split_by : (p : ℕ → Bool) (b : ℕ) (bs : List ℕ) (t : Bool) → bs ≡ run p bs ++ past p bs → b ∷ bs ≡ cond t (b ∷ run p bs) [] ++ cond t (past p bs) (b ∷ bs)
split_by p b bs true h = ap (λ es. b ∷ es) h
split_by p b bs false h = refl

pub run_past : (p : ℕ → Bool) (bs : List ℕ) → bs ≡ run p bs ++ past p bs
unfolding run past
run_past p [] = refl
run_past p (b ∷ bs) = split_by p b bs (p b) (run_past p bs)

-- the bytes after a token; where there is none, the bytes given
abbrev pub after : List ℕ → NextToken → List ℕ
after at end = at
after at (word w bs) = bs
after at (open_bracket bs) = bs
after at (close_bracket bs) = bs
after at (hash bs) = bs
after at (arrow bs) = bs
after at bad = at

dash_suffix : (bs : List ℕ) → (b : ℕ) → Suffix (after (b ∷ bs) (dash bs)) (b ∷ bs)
dash_suffix [] b = suffix_refl (b ∷ [])
dash_suffix (c ∷ bs) b = go (eqb c 62)
  where
    go : (t : Bool) → Suffix (after (b ∷ c ∷ bs) (cond t (arrow bs) bad)) (b ∷ c ∷ bs)
    go true = suffix_cons b bs (c ∷ bs) (suffix_cons c bs bs (suffix_refl bs))
    go false = suffix_refl (b ∷ c ∷ bs)

pub start_suffix : (p : ℕ → Bool) (b : ℕ) (bs : List ℕ) → Suffix (after (b ∷ bs) (start p b bs)) (b ∷ bs)
unfolding start
start_suffix p b bs = go (p b) (eqb b 40) (eqb b 41) (eqb b 35) (eqb b 45)
  where
    one : Suffix bs (b ∷ bs)
    one = suffix_cons b bs bs (suffix_refl bs)

    go : (l o c h d : Bool)
        → Suffix (after (b ∷ bs) (cond l (word (b ∷ run p bs) (past p bs)) (cond o (open_bracket bs)
        (cond c (close_bracket bs) (cond h (hash bs) (cond d (dash bs) bad)))))) (b ∷ bs)
    go true o c h d = suffix_cons b (past p bs) bs (past_suffix p bs)
    go false true c h d = one
    go false false true h d = one
    go false false false true d = one
    go false false false false true = dash_suffix bs b
    go false false false false false = suffix_refl (b ∷ bs)

next_at_suffix : (p : ℕ → Bool) (bs : List ℕ) → Suffix (after bs (next_at p bs)) bs
next_at_suffix p [] = suffix_refl []
next_at_suffix p (b ∷ bs) = start_suffix p b bs

pub next_suffix : (p : ℕ → Bool) (bs : List ℕ) → Suffix (after (skip bs) (next p bs)) bs
unfolding next
next_suffix p bs = suffix_trans (after (skip bs) (next_at p (skip bs))) (skip bs) bs (next_at_suffix p (skip bs)) (skip_suffix bs)

pub then_suffix : (p : Parsed) (k : Tree → List ℕ → Parsed) (bs : List ℕ) → Suffix (left p) bs
    → ((t : Tree) (cs : List ℕ) → Suffix (left (k t cs)) cs) → Suffix (left (p then-read k)) bs
then_suffix (parsed t cs) k bs h f = suffix_trans (left (k t cs)) cs bs (f t cs) h
then_suffix (stuck cs) k bs h f = h

-- the readers, each from what its token leaves
closing_suffix : (t : Tree) (at bs : List ℕ) (n : NextToken) → Suffix at bs → Suffix (after at n) bs → Suffix (left (closing t at n)) bs
unfolding closing
closing_suffix t at bs (close_bracket cs) h k = k
closing_suffix t at bs end h k = h
closing_suffix t at bs (word w cs) h k = h
closing_suffix t at bs (open_bracket cs) h k = h
closing_suffix t at bs (hash cs) h k = h
closing_suffix t at bs (arrow cs) h k = h
closing_suffix t at bs bad h k = h

ending_suffix : (t : Tree) (at bs : List ℕ) (n : NextToken) → Suffix at bs → Suffix (left (ending t at n)) bs
unfolding ending
ending_suffix t at bs end h = suffix_nil bs
ending_suffix t at bs (close_bracket cs) h = h
ending_suffix t at bs (word w cs) h = h
ending_suffix t at bs (open_bracket cs) h = h
ending_suffix t at bs (hash cs) h = h
ending_suffix t at bs (arrow cs) h = h
ending_suffix t at bs bad h = h

alone_suffix : (ts : Trees) (at bs : List ℕ) → Suffix at bs → Suffix (left (alone ts at bs)) bs
unfolding alone
alone_suffix no_args at bs h = h
alone_suffix (arg t no_args) at bs h = suffix_refl bs
alone_suffix (arg t (arg u us)) at bs h = h

module _ (f : List ℕ → Parsed) (g : Leaves f) where
  in_brackets_suffix : (bs : List ℕ) → Suffix (left (in_brackets f bs)) bs
  unfolding in_brackets
  in_brackets_suffix bs =
      then_suffix (f bs) _ bs (g bs) (λ t ds. closing_suffix t (skip ds) ds (next is_letter ds) (skip_suffix ds) (next_suffix is_letter ds))

  pub bracketed_suffix : (o : ComplexSort) (at bs : List ℕ) (n : NextToken) → Suffix at bs → Suffix (after at n) bs → Suffix (left (bracketed f o at n)) bs
  unfolding bracketed
  bracketed_suffix o at bs (open_bracket cs) h k =
      then_suffix (in_brackets f cs) _ bs (suffix_trans (left (in_brackets f cs)) cs bs (in_brackets_suffix cs) k) (λ t ds. suffix_refl ds)
  bracketed_suffix o at bs end h k = h
  bracketed_suffix o at bs (word w cs) h k = h
  bracketed_suffix o at bs (close_bracket cs) h k = h
  bracketed_suffix o at bs (hash cs) h k = h
  bracketed_suffix o at bs (arrow cs) h k = h
  bracketed_suffix o at bs bad h k = h

  operand_of_suffix : (at bs cs : List ℕ) (m : WordMeaning) → Suffix at bs → Suffix cs bs → Suffix (left (operand_of f at m cs)) bs
  unfolding operand_of
  operand_of_suffix at bs cs (basic s) h k = k
  operand_of_suffix at bs cs (operator o) h k =
      suffix_trans _ cs bs (bracketed_suffix o (skip cs) cs (next is_letter cs) (skip_suffix cs) (next_suffix is_letter cs)) k
  operand_of_suffix at bs cs unknown h k = h

  operand_at_suffix : (at bs : List ℕ) (n : NextToken) → Suffix at bs → Suffix (after at n) bs → Suffix (left (operand_at f at n)) bs
  unfolding operand_at
  operand_at_suffix at bs (word w cs) h k = operand_of_suffix at bs cs (meaning w) h k
  operand_at_suffix at bs end h k = h
  operand_at_suffix at bs (open_bracket cs) h k = h
  operand_at_suffix at bs (close_bracket cs) h k = h
  operand_at_suffix at bs (hash cs) h k = h
  operand_at_suffix at bs (arrow cs) h k = h
  operand_at_suffix at bs bad h k = h

  pub operand_suffix : (bs : List ℕ) → Suffix (left (operand f bs)) bs
  unfolding operand
  operand_suffix bs = operand_at_suffix (skip bs) bs (next is_letter bs) (skip_suffix bs) (next_suffix is_letter bs)

  rest_at_suffix : (ts : Trees) (at bs : List ℕ) (m : List ℕ → Parsed) (n : NextToken) → Suffix at bs → Suffix (after at n) bs
      → ((cs : List ℕ) → Suffix cs bs → Suffix (left (m cs)) bs) → Suffix (left (rest_at f ts at bs m n)) bs
  unfolding rest_at
  rest_at_suffix ts at bs m (hash cs) h k l = l cs k
  rest_at_suffix ts at bs m (arrow cs) h k l = then_suffix (f cs) _ bs (suffix_trans (left (f cs)) cs bs (g cs) k) (λ r ds. suffix_refl ds)
  rest_at_suffix ts at bs m end h k l = alone_suffix ts at bs h
  rest_at_suffix ts at bs m (word w cs) h k l = alone_suffix ts at bs h
  rest_at_suffix ts at bs m (open_bracket cs) h k l = alone_suffix ts at bs h
  rest_at_suffix ts at bs m (close_bracket cs) h k l = alone_suffix ts at bs h
  rest_at_suffix ts at bs m bad h k l = alone_suffix ts at bs h

  pub rest_suffix : (k : ℕ) (ts : Trees) (bs : List ℕ) → Suffix (left (rest f k ts bs)) bs
  unfolding rest
  rest_suffix zero ts bs =
      rest_at_suffix ts (skip bs) bs _ (next is_letter bs) (skip_suffix bs) (next_suffix is_letter bs) (λ cs h. skip_suffix bs)
  rest_suffix (suc k) ts bs =
      rest_at_suffix ts (skip bs) bs _ (next is_letter bs) (skip_suffix bs) (next_suffix is_letter bs)
      (λ cs h. suffix_trans _ cs bs (then_suffix (operand f cs) _ cs (operand_suffix cs) (λ t ds. rest_suffix k (snoc ts t) ds)) h)

pub sort_to_suffix : (d : ℕ) → Leaves (sort_to d)
unfolding sort_to
sort_to_suffix zero bs = suffix_refl bs
sort_to_suffix (suc d) bs =
    then_suffix (operand (sort_to d) bs) _ bs (operand_suffix (sort_to d) (sort_to_suffix d) bs) (λ t cs. rest_suffix
    (sort_to d) (sort_to_suffix d) 15 (arg t no_args) cs)

pub sort_suffix : Leaves sort
unfolding sort
sort_suffix bs = sort_to_suffix (suc (length bs)) bs

-- The unread end of a line is an end of it.
pub line_suffix : Leaves line
unfolding line
line_suffix bs = then_suffix (sort bs) _ bs (sort_suffix bs) (λ t cs. ending_suffix t (skip cs) cs (next is_letter cs) (skip_suffix cs))

-- The unread end is what is left of the line from its place on.
pub suffix_drop : (cs bs : List ℕ) → Suffix cs bs → drop (length bs - length cs) bs ≡ cs
suffix_drop cs bs p =
    let e : length bs - length cs ≡ length p.front = omega (arith, simp length-append at (ap length p.whole)) in
    ap₂ drop e p.whole ∙ drop-append_seam p.front cs

pub unread_end : (bs cs : List ℕ) → line bs ≡ stuck cs → drop (length bs - length cs) bs ≡ cs
unread_end bs cs e = suffix_drop cs bs (subst (λ p. Suffix (left p) bs) e (line_suffix bs))
