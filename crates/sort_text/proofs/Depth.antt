-- The length of a line is depth enough: each call of the reader is made on fewer bytes, so readers that agree on shorter lists
-- make the same of a line, and `sort` satisfies its own equation. By the clauses of the definitions. Assumes nothing.
use mathlib.Core.Path.{◌≡◌, refl, ◌∙◌, ap}
use mathlib.Core.List.{List}
use Prim.Native.Nat.{ℕ, zero, suc, ◌≤◌, ◌<◌}
use native.Mathlib.Omega.{arith}
use lib.ListN.{length}
use Rattle.resolved_sort.specs.declared.ComplexSort.{ComplexSort}
use Rattle.resolved_sort.specs.Tree.{Tree, container, function, Trees, no_args, arg}
use Rattle.sort_text.specs.Tokens.{is_letter, NextToken, end, word, open_bracket, close_bracket, hash, arrow, bad, skip, next}
use Rattle.sort_text.specs.Parse.{Parsed, parsed, stuck, ◌then-read◌, WordMeaning, basic, operator, unknown}
use Rattle.sort_text.specs.Parse.{meaning, closing, in_brackets, bracketed, operand_of, operand_at, operand, snoc, rest_at}
use Rattle.sort_text.specs.Parse.{rest, sort_to, sort, left, Leaves}
use Rattle.sort_text.proofs.Suffix.{suffix_length, operand_suffix, sort_to_suffix}
use Rattle.sort_text.proofs.Progress.{word_takes, open_bracket_takes, hash_takes, arrow_takes}

-- two ways to go on that agree on what is left
pub then_same : (p : Parsed) (k l : Tree → List ℕ → Parsed) (n : ℕ) → length (left p) ≤ n → ((t : Tree) (cs : List ℕ)
    → length cs ≤ n → k t cs ≡ l t cs) → (p then-read k) ≡ (p then-read l)
then_same (parsed t cs) k l n h e = e t cs h
then_same (stuck cs) k l n h e = refl

-- readers that agree on lists shorter than n
abbrev pub Agree : ℕ → (List ℕ → Parsed) → (List ℕ → Parsed) → Type 0
Agree n f g = (cs : List ℕ) → length cs < n → f cs ≡ g cs

module _ (f g : List ℕ → Parsed) (n : ℕ) (a : Agree n f g) where
  in_brackets_same : (cs : List ℕ) → length cs < n → in_brackets f cs ≡ in_brackets g cs
  unfolding in_brackets
  in_brackets_same cs h = ap (λ p. p then-read (λ t ds. closing t (skip ds) (next is_letter ds))) (a cs h)

  bracketed_same : (o : ComplexSort) (at bs : List ℕ) (m : NextToken) → next is_letter bs ≡ m → length bs ≤ n → bracketed f o at m ≡ bracketed g o at m
  unfolding bracketed
  bracketed_same o at bs (open_bracket cs) e h =
      ap (λ p. p then-read (λ t ds. parsed (container o t) ds)) (in_brackets_same cs (omega (arith, open_bracket_takes is_letter bs cs e)))
  bracketed_same o at bs end e h = refl
  bracketed_same o at bs (word w cs) e h = refl
  bracketed_same o at bs (close_bracket cs) e h = refl
  bracketed_same o at bs (hash cs) e h = refl
  bracketed_same o at bs (arrow cs) e h = refl
  bracketed_same o at bs bad e h = refl

  operand_of_same : (at cs : List ℕ) (m : WordMeaning) → length cs ≤ n → operand_of f at m cs ≡ operand_of g at m cs
  unfolding operand_of
  operand_of_same at cs (basic s) h = refl
  operand_of_same at cs (operator o) h = bracketed_same o (skip cs) cs (next is_letter cs) refl h
  operand_of_same at cs unknown h = refl

  operand_at_same : (at bs : List ℕ) (m : NextToken) → next is_letter bs ≡ m → length bs ≤ n → operand_at f at m ≡ operand_at g at m
  unfolding operand_at
  operand_at_same at bs (word w cs) e h = operand_of_same at cs (meaning w) (omega (arith, (word_takes is_letter bs w cs e).0))
  operand_at_same at bs end e h = refl
  operand_at_same at bs (open_bracket cs) e h = refl
  operand_at_same at bs (close_bracket cs) e h = refl
  operand_at_same at bs (hash cs) e h = refl
  operand_at_same at bs (arrow cs) e h = refl
  operand_at_same at bs bad e h = refl

  -- An operand calls the reader on fewer bytes only.
  pub operand_same : (bs : List ℕ) → length bs ≤ n → operand f bs ≡ operand g bs
  unfolding operand
  operand_same bs h = operand_at_same (skip bs) bs (next is_letter bs) refl h

  rest_at_same : (ts : Trees) (at bs : List ℕ) (k l : List ℕ → Parsed) (m : NextToken) → next is_letter bs ≡ m → length bs ≤ n
      → ((cs : List ℕ) → length cs ≤ n → k cs ≡ l cs) → rest_at f ts at bs k m ≡ rest_at g ts at bs l m
  unfolding rest_at
  rest_at_same ts at bs k l (hash cs) e h i = i cs (omega (arith, hash_takes is_letter bs cs e))
  rest_at_same ts at bs k l (arrow cs) e h i = ap (λ p. p then-read (λ r ds. parsed (function ts r) ds)) (a cs (omega (arith, arrow_takes is_letter bs cs e)))
  rest_at_same ts at bs k l end e h i = refl
  rest_at_same ts at bs k l (word w cs) e h i = refl
  rest_at_same ts at bs k l (open_bracket cs) e h i = refl
  rest_at_same ts at bs k l (close_bracket cs) e h i = refl
  rest_at_same ts at bs k l bad e h i = refl

  module _ (c : Leaves f) where
    pub rest_same : (k : ℕ) (ts : Trees) (bs : List ℕ) → length bs ≤ n → rest f k ts bs ≡ rest g k ts bs
    unfolding rest
    rest_same zero ts bs h = rest_at_same ts (skip bs) bs _ _ (next is_letter bs) refl h (λ cs i. refl)
    rest_same (suc k) ts bs h =
        rest_at_same ts (skip bs) bs _ _ (next is_letter bs) refl h
        (λ cs i. then_same (operand f cs) _ _ n (omega (
          arith,
          suffix_length (left (operand f cs)) cs
              (operand_suffix f c cs),
        )) (λ t ds j. rest_same k (snoc ts t) ds j)
        ∙ ap (λ p. p then-read (λ t ds. rest g k (snoc ts t) ds)) (operand_same cs i))

    -- So does a sort.
    pub step_same : (bs : List ℕ) → length bs ≤ n → (operand f bs then-read (λ t cs. rest f 15 (arg t no_args) cs)) ≡
        (operand g bs then-read (λ t cs. rest g 15 (arg t no_args) cs))
    step_same bs h =
        then_same (operand f bs) _ _ n (omega (arith, suffix_length (left (operand f bs)) bs (operand_suffix f c bs)))
        (λ t ds j. rest_same 15 (arg t no_args) ds j)
        ∙ ap (λ p. p then-read (λ t cs. rest g 15 (arg t no_args) cs)) (operand_same bs h)

-- Any depth above the length of the line reads the same.
pub depth_enough : (d e : ℕ) (bs : List ℕ) → length bs < d → length bs < e → sort_to d bs ≡ sort_to e bs
unfolding sort_to
depth_enough zero e bs h i = absurd (omega arith)
depth_enough (suc d) zero bs h i = absurd (omega arith)
depth_enough (suc d) (suc e) bs h i =
    step_same (sort_to d) (sort_to e) (length bs) (λ cs j. depth_enough d e cs (omega arith) (omega arith)) (sort_to_suffix d) bs (omega arith)

pub sort_to_is_sort : (d : ℕ) (bs : List ℕ) → length bs < d → sort_to d bs ≡ sort bs
unfolding sort
sort_to_is_sort d bs h = depth_enough d (suc (length bs)) bs h (omega arith)

sort_at : (bs : List ℕ) → sort bs ≡ (operand (sort_to (length bs)) bs then-read (λ t cs. rest (sort_to (length bs)) 15 (arg t no_args) cs))
unfolding sort sort_to
sort_at bs = refl

-- `sort` by itself: an operand, and what may follow it, with `sort` for the sorts within.
pub sort_is : (bs : List ℕ) → sort bs ≡ (operand sort bs then-read (λ t cs. rest sort 15 (arg t no_args) cs))
sort_is bs = sort_at bs ∙ step_same (sort_to (length bs)) sort (length bs) (λ cs h. sort_to_is_sort (length bs) cs h) (sort_to_suffix (length bs)) bs (omega arith)
