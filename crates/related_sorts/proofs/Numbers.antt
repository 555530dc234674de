-- The numbers of places, read and set one by one. Assumes nothing.
use mathlib.Core.Path.{◌≡◌, refl, ap, sym, ◌∙◌}
use mathlib.Core.List.{List, [], ◌∷◌, ◌++◌}
use Prim.Native.Nat.{ℕ, zero, suc}
use native.Mathlib.Omega.{arith}
use lib.ListN.{length, get_or, set, take}
use lib.Seq.{take-append_seam}
use Rattle.unification.specs.declared.InferSortId.{InferSortId}
use Rattle.related_sorts.specs.Listed.{numbers}

pub length_numbers : (ps : List InferSortId) → length (numbers ps) ≡ length ps
length_numbers [] = refl
length_numbers (p ∷ ps) = ap suc (length_numbers ps)

pub get_or_numbers : (ps : List InferSortId) (i : ℕ) → (get_or ps i (record { 0 = 0 })).0 ≡ get_or (numbers ps) i 0
get_or_numbers [] i = refl
get_or_numbers (p ∷ ps) zero = refl
get_or_numbers (p ∷ ps) (suc i) = get_or_numbers ps i

pub set_numbers : (ps : List InferSortId) (i : ℕ) (p : InferSortId) → numbers (set ps i p) ≡ set (numbers ps) i p.0
set_numbers [] i p = refl
set_numbers (x ∷ ps) zero p = refl
set_numbers (x ∷ ps) (suc i) p = ap (λ l. x.0 ∷ l) (set_numbers ps i p)

pub append_numbers : (ps qs : List InferSortId) → numbers (ps ++ qs) ≡ numbers ps ++ numbers qs
append_numbers [] qs = refl
append_numbers (p ∷ ps) qs = ap (λ l. p.0 ∷ l) (append_numbers ps qs)

-- the front of a list that begins with these
pub front_numbers : (ps qs xs : List InferSortId) → xs ≡ ps → take (length ps) (numbers (xs ++ qs)) ≡ numbers ps
front_numbers ps qs xs e =
    ap (λ (ys : List InferSortId). take (length ps) (numbers (ys ++ qs))) e
    ∙ (ap (take (length ps)) (append_numbers ps qs)
    ∙ (ap (λ (n : ℕ). take n (numbers ps ++ numbers qs)) (sym (length_numbers ps)) ∙ take-append_seam (numbers ps) (numbers qs)))

-- each of three
pub three_numbers : (ps : List InferSortId) → length ps ≡ 3 → (n : ℕ)
    → take n ((get_or ps 0 (record { 0 = 0 })).0 ∷ (get_or ps 1 (record { 0 = 0 })).0 ∷ (get_or ps 2 (record { 0 = 0 })).0 ∷ []) ≡ take n (numbers ps)
three_numbers (p ∷ q ∷ r ∷ []) e n = refl
three_numbers [] e n = absurd (omega (arith, e))
three_numbers (p ∷ []) e n = absurd (omega (arith, e))
three_numbers (p ∷ q ∷ []) e n = absurd (omega (arith, e))
three_numbers (p ∷ q ∷ r ∷ s ∷ ps) e n = absurd (omega (arith, e))
