-- The sorts strictly wider (up true) or strictly narrower (up false) than a sort, nearest first:
-- "numbers nearest first, the infinite container, a function by its range. Strictly narrower
-- likewise." "Bool, List, unit, Def and TypeVar have an empty one."
use Rattle.std.specs.Prelude.{Bool, true, false, List, [], ◌∷◌, ℕ, zero, suc}
use Rattle.std.proofs.Math.Option.{Option, none, some}
use Rattle.resolved_sort.specs.declared.Sort.{Sort}
use Rattle.resolved_sort.specs.declared.ComplexSort.{ComplexSort}
use Rattle.resolved_sort.specs.Tree.{Flat, unit, primitive, def, typevar, Tree, flat, container, function}

unfoldable pub related_numbers : Bool → Sort → List Sort
related_numbers up Sort.Bool = []
related_numbers true Sort.Pos = Sort.Nat ∷ Sort.Int ∷ Sort.Real ∷ []
related_numbers true Sort.Nat = Sort.Int ∷ Sort.Real ∷ []
related_numbers true Sort.Int = Sort.Real ∷ []
related_numbers true Sort.Real = []
related_numbers false Sort.Pos = []
related_numbers false Sort.Nat = Sort.Pos ∷ []
related_numbers false Sort.Int = Sort.Nat ∷ Sort.Pos ∷ []
related_numbers false Sort.Real = Sort.Int ∷ Sort.Nat ∷ Sort.Pos ∷ []

unfoldable pub related_container : Bool → ComplexSort → Option ComplexSort
related_container up ComplexSort.List = none
related_container true ComplexSort.Set = none
related_container true ComplexSort.FSet = some ComplexSort.Set
related_container true ComplexSort.Bag = none
related_container true ComplexSort.FBag = some ComplexSort.Bag
related_container false ComplexSort.Set = some ComplexSort.FSet
related_container false ComplexSort.FSet = none
related_container false ComplexSort.Bag = some ComplexSort.FBag
related_container false ComplexSort.FBag = none

abbrev pub each : {A B : Type 0} → (A → B) → List A → List B
each f [] = []
each f (x ∷ xs) = f x ∷ each f xs

abbrev pub related_flat : Bool → Flat → List Tree
related_flat up unit = []
related_flat up (primitive s) = each (λ r. flat (primitive r)) (related_numbers up s)
related_flat up (def n) = []
related_flat up (typevar n) = []

abbrev pub over_part : Option ComplexSort → Tree → List Tree
over_part none s = []
over_part (some o) s = container o s ∷ []

-- Only the head is varied, and of a function that of its range: the language converts nothing else. Nat has wider
-- sorts, List(Nat) has none.
unfoldable pub related : Bool → Tree → List Tree
related up (flat a) = related_flat up a
related up (container o s) = over_part (related_container up o) s
related up (function ts r) = each (function ts) (related up r)

-- u is the i-th of a list, from 0
pub data Member {A : Type 0} : A → ℕ → List A → Type 0 where
  first : {u : A} {xs : List A} → Member u zero (u ∷ xs)
  later : {u x : A} {i : ℕ} {xs : List A} → Member u i xs → Member u (suc i) (x ∷ xs)
