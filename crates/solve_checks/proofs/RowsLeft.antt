-- Rows one after another: what is left from row i on, and what a sum or a test over rows is of those. Assumes nothing.
use mathlib.Core.Path.{◌≡◌, refl, sym, ap, ap₂, ◌∙◌}
use mathlib.Core.Bool.{Bool, ◌&&◌, and-true, and_assoc}
use mathlib.Core.List.{List, [], ◌∷◌}
use Prim.Native.Nat.{ℕ, zero, suc, ◌+◌, ◌-◌, ◌<◌, ◌≤◌}
use native.Mathlib.Omega.{arith}
use lib.ListN.{length}
use Rattle.std.specs.List.{sum_by}
use Rattle.std.proofs.lemmas.List.Sums.{sum_by-cons}
use Rattle.resolved_sort.specs.Checks.{all_below}
use Rattle.inference.specs.declared.Constraint.{Constraint}
use Rattle.inference.specs.declared.Constraint.TheVariants.{Sub, Lit, Disjunction, Comprehension, Join}
use Rattle.inference.specs.Constraints.{rows_from}
use Rattle.inference.specs.SolveChecks.{has_sources, joins_fine, components_of, components, disjunction_for, disjunctions}
use Rattle.inference.proofs.Members.{rows_one_left, rows_none_left}

module _ {A : Type 0} (row : ℕ → A) (n : ℕ) where
  abbrev pub left : ℕ → List A
  left i = rows_from row i (n - i)

  pub one_left : (i : ℕ) → i < n → left i ≡ row i ∷ left (i + 1)
  one_left = rows_one_left row n

  pub none_left : (i : ℕ) → n ≤ i → left i ≡ []
  none_left = rows_none_left row n

-- a sum f of rows, each of which adds a
module _ (f : List Constraint → ℕ) (a : Constraint → ℕ) (empty : f [] ≡ 0) (more : (c : Constraint)
    (cs : List Constraint) → f (c ∷ cs) ≡ a c + f cs) (row : ℕ → Constraint) (n : ℕ) where
  pub record Summed (i sum : ℕ) : Type 0 where
    pub within : i ≤ n
    pub left_over : sum + f (left row n i) ≡ f (rows_from row 0 n)

  module _ (i sum : ℕ) (p : Summed i sum) where
    pub one_summed : i < n → (c : Constraint) → c ≡ row i → (x : ℕ) → x ≡ a c → Summed (i + 1) (sum + x)
    one_summed l c e x y =
        record { within = omega (arith, l); left_over = omega (arith, p.left_over, ap f (one_left row n i l), more (row i) (left row n (i + 1)), y, ap a e) }

    pub all_summed : n ≤ i → sum ≡ f (rows_from row 0 n)
    all_summed l = omega (arith, p.left_over, ap f (none_left row n i l), empty)

-- a sum over rows, and the two there are
module _ (a : Constraint → ℕ) (row : ℕ → Constraint) (n : ℕ) where
  pub sum_more : (c : Constraint) (cs : List Constraint) → sum_by a (c ∷ cs) ≡ a c + sum_by a cs
  sum_more = sum_by-cons a

  abbrev pub SummedBy : ℕ → ℕ → Type 0
  SummedBy = Summed (sum_by a) a refl sum_more row n

  pub summed_more : (i sum : ℕ) → SummedBy i sum → i < n → (c : Constraint) → c ≡ row i → (x : ℕ) → x ≡ a c → SummedBy (i + 1) (sum + x)
  summed_more = one_summed (sum_by a) a refl sum_more row n

  pub summed : (i sum : ℕ) → SummedBy i sum → n ≤ i → sum ≡ sum_by a (rows_from row 0 n)
  summed = all_summed (sum_by a) a refl sum_more row n

pub components_sum : (cs : List Constraint) → sum_by components_of cs ≡ components cs
unfolding components
components_sum [] = refl
components_sum (c ∷ cs) = sum_by-cons components_of c cs ∙ ap (λ (n : ℕ). components_of c + n) (components_sum cs)

abbrev pub disjunctions_of : Constraint → ℕ
disjunctions_of c = length (disjunction_for c [])

choices_more : (c : Constraint) (xs : List ℕ) → length (disjunction_for c xs) ≡ disjunctions_of c + length xs
choices_more (Sub l r) xs = omega arith
choices_more (Lit p kind) xs = omega arith
choices_more (Disjunction x p run) xs = omega arith
choices_more (Comprehension body node element) xs = omega arith
choices_more (Join run t) xs = omega arith

pub choices_sum : (cs : List Constraint) → sum_by disjunctions_of cs ≡ length (disjunctions cs)
unfolding disjunctions
choices_sum [] = refl
choices_sum (c ∷ cs) = omega (arith, sum_by-cons disjunctions_of c cs, choices_sum cs, choices_more c (disjunctions cs))

-- no Join without sources: a test of every row from the first on
below_first : (n : ℕ) (p : ℕ → Bool) → all_below (suc n) p ≡ (p 0 && all_below n (λ k. p (suc k)))
unfolding all_below
below_first zero p = sym (and-true (p 0))
below_first (suc n) p = ap (λ z. z && p (suc n)) (below_first n p) ∙ and_assoc (p 0) (all_below n (λ k. p (suc k))) (p (suc n))

pub each_joins : (row : ℕ → Constraint) (n : ℕ) (i : ℕ) → all_below n (λ k. has_sources (row (i + k))) ≡ joins_fine (rows_from row i n)
unfolding all_below joins_fine rows_from
each_joins row zero i = refl
each_joins row (suc n) i =
    let here : i + 0 ≡ i = omega arith in
    let next : (k : ℕ) → i + suc k ≡ i + 1 + k = λ k. omega arith in
    below_first n (λ k. has_sources (row (i + k)))
    ∙ ap₂ (λ (a b : Bool). a && b) (ap (λ k. has_sources (row k)) here)
    (ap (all_below n) (λ j k. has_sources (row (next k j))) ∙ each_joins row n (i + 1))
