-- A number that differs from each of the first n is n or more; a row whose kind is none of the table's first 13 is a TypeVar. Assumes nothing.
use mathlib.Core.Path.{◌≡◌}
use Prim.Native.Nat.{ℕ, zero, suc, ◌≤◌}
use native.Mathlib.Omega.{arith}
use Rattle.std.proofs.Common.{[], ◌∷◌, sym}
use Rattle.std.proofs.Math.ListN.{get_or-eq_default}
use Rattle.resolved_sort.specs.declared.Sort.{Sort}
use Rattle.resolved_sort.specs.declared.ComplexSort.{ComplexSort}
use Rattle.resolved_sort.specs.declared.Run.{Run}
use Rattle.resolved_sort.specs.declared.ResolvedSort.TheVariants.{Unit as UnitSort, Primitive, Container, Function, Def, TypeVar}
use Rattle.resolved_sort.specs.Storage.{resolved}

abbrev pub NoneBelow : ℕ → ℕ → Type 0
NoneBelow k zero = Unit {0}
NoneBelow k (suc n) = NoneBelow k n × (k ≡ n → ⊥)

pub none_below : (k n : ℕ) → NoneBelow k n → n ≤ k
none_below k zero d = omega arith
none_below k (suc n) d = let h : n ≤ k = none_below k n d.0 in let z : k ≡ n → ⊥ = d.1 in omega arith

pub typevar_past : (kind part : ℕ) (run : Run) → 13 ≤ kind → TypeVar part ≡ resolved kind part run
unfolding resolved
typevar_past kind part run h =
    sym
    (get_or-eq_default
    (UnitSort ∷ Primitive Sort.Bool ∷ Primitive Sort.Pos ∷ Primitive Sort.Nat ∷ Primitive Sort.Int ∷ Primitive Sort.Real
    ∷ Container ComplexSort.List (record { 0 = part }) ∷ Container ComplexSort.Set (record { 0 = part }) ∷ Container ComplexSort.FSet (record { 0 = part })
    ∷ Container ComplexSort.Bag (record { 0 = part }) ∷ Container ComplexSort.FBag (record { 0 = part })
    ∷ Function run (record { 0 = part }) ∷ Def part ∷ [])
    (TypeVar part) {n = kind} h)
