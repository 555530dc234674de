-- Words one by one: what holds of all holds of each, and what a loop has passed of them. By induction on the list. Assumes nothing.
use mathlib.Core.Path.{◌≡◌, sym, ◌∙◌, ap}
use mathlib.Core.List.{List, [], ◌∷◌, ◌++◌}
use Prim.Native.Nat.{ℕ, zero, suc, ◌+◌, ◌<◌}
use native.Mathlib.Omega.{arith}
use native.Mathlib.Numerals.{add-one}
use lib.ListN.{length, get_or, take, drop, set}
use lib.Seq.{drop-cons, take-suc-set}
use Rattle.resolved_sort.specs.declared.SortId.{SortId}
use Rattle.resolved_sort.specs.Rows.{AllBelow}
use Rattle.resolved_sort.specs.Inner.Storage.{sort_numbers}
use Rattle.resolved_sort.proofs.SortNumbers.{length_sort_numbers}

pub below_at : (n : ℕ) (xs : List ℕ) → AllBelow n xs → (i : ℕ) → i < length xs → get_or xs i 0 < n
unfolding AllBelow
below_at n [] a i l = absurd (omega (arith, l))
below_at n (x ∷ xs) a zero l = a.0
below_at n (x ∷ xs) a (suc i) l = below_at n xs a.1 i (omega (arith, l))

-- the first of those left
pub one_left : (xs : List ℕ) (i : ℕ) → i < length xs → drop i xs ≡ get_or xs i 0 ∷ drop (i + 1) xs
one_left xs i h = drop-cons xs i 0 h ∙ ap (λ (j : ℕ). get_or xs i 0 ∷ drop j xs) (sym (add-one i))

-- one more word stored
pub one_more : (ids : List ℕ) (i x : ℕ) → i < length ids → take (i + 1) (set ids i x) ≡ take i ids ++ (x ∷ [])
one_more ids i x l = ap (λ (j : ℕ). take j (set ids i x)) (add-one i) ∙ take-suc-set ids i x l

-- sorts by their numbers
pub inside : (ids : List SortId) {i : ℕ} → i < length ids → i < length (sort_numbers ids)
inside ids h = omega (arith, h, length_sort_numbers ids)
