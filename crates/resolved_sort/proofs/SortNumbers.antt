-- The numbers of an array of sort numbers, read and set one by one. Assumes nothing.
use mathlib.Core.Path.{◌≡◌, refl, ap}
use mathlib.Core.List.{List, [], ◌∷◌}
use Prim.Native.Nat.{ℕ, zero, suc}
use lib.ListN.{length, get_or, set, take, drop, replicate}
use Rattle.resolved_sort.specs.declared.SortId.{SortId}
use Rattle.resolved_sort.specs.Inner.Storage.{sort_numbers}

pub length_sort_numbers : (ss : List SortId) → length (sort_numbers ss) ≡ length ss
unfolding sort_numbers
length_sort_numbers [] = refl
length_sort_numbers (s ∷ ss) = ap suc (length_sort_numbers ss)

pub get_d_sort_numbers : (ss : List SortId) (i : ℕ) → (get_or ss i (record { 0 = 0 })).0 ≡ get_or (sort_numbers ss) i 0
unfolding sort_numbers
get_d_sort_numbers [] i = refl
get_d_sort_numbers (s ∷ ss) zero = refl
get_d_sort_numbers (s ∷ ss) (suc i) = get_d_sort_numbers ss i

pub set_sort_numbers : (ss : List SortId) (i : ℕ) (s : SortId) → sort_numbers (set ss i s) ≡ set (sort_numbers ss) i s.0
unfolding sort_numbers
set_sort_numbers [] i s = refl
set_sort_numbers (x ∷ ss) zero s = refl
set_sort_numbers (x ∷ ss) (suc i) s = ap (λ l. x.0 ∷ l) (set_sort_numbers ss i s)

pub take_sort_numbers : (n : ℕ) (ss : List SortId) → sort_numbers (take n ss) ≡ take n (sort_numbers ss)
unfolding sort_numbers
take_sort_numbers zero ss = refl
take_sort_numbers (suc n) [] = refl
take_sort_numbers (suc n) (s ∷ ss) = ap (λ l. s.0 ∷ l) (take_sort_numbers n ss)

pub drop_sort_numbers : (n : ℕ) (ss : List SortId) → sort_numbers (drop n ss) ≡ drop n (sort_numbers ss)
unfolding sort_numbers
drop_sort_numbers zero ss = refl
drop_sort_numbers (suc n) [] = refl
drop_sort_numbers (suc n) (s ∷ ss) = drop_sort_numbers n ss

pub zeros_sort_numbers : (n : ℕ) → sort_numbers (replicate n (record { 0 = 0 })) ≡ replicate n 0
unfolding sort_numbers
zeros_sort_numbers zero = refl
zeros_sort_numbers (suc n) = ap (λ l. 0 ∷ l) (zeros_sort_numbers n)
