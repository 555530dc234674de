-- Heads are equal exactly if their kinds and numbers are: a head is read back from the two. Assumes nothing.
use mathlib.Core.Path.{◌≡◌, refl, sym, ◌∙◌, ap₂}
use mathlib.Core.Bool.{true, and-eq-true_iff}
use mathlib.Core.List.{[], ◌∷◌}
use Prim.Native.Nat.{ℕ}
use lib.ListN.{get_or}
use lib.Dec.{eqb}
use borrow.Author.Tests.{eqb-true, eq-eqb}
use Rattle.resolved_sort.specs.declared.Sort.{Sort}
use Rattle.resolved_sort.specs.declared.ComplexSort.{ComplexSort}
use Rattle.resolved_sort.specs.Tree.{unit, primitive, def, typevar}
use Rattle.resolved_sort.specs.Storage.{kind_flat, part_flat, kind_op}
use Rattle.unification.specs.Term.{Head, flat_head, container_head, function_head, stray_head, kind_head, number_head, same_head}

head_of : ℕ → ℕ → Head
head_of kind number =
    get_or
    (flat_head unit ∷ flat_head (primitive Sort.Bool) ∷ flat_head (primitive Sort.Pos) ∷ flat_head (primitive Sort.Nat) ∷ flat_head (primitive Sort.Int)
    ∷ flat_head (primitive Sort.Real) ∷ container_head ComplexSort.List ∷ container_head ComplexSort.Set ∷ container_head ComplexSort.FSet
    ∷ container_head ComplexSort.Bag ∷ container_head ComplexSort.FBag ∷ function_head number ∷ flat_head (def number) ∷ flat_head (typevar number) ∷ [])
    kind (stray_head number)

read_back : (h : Head) → head_of (kind_head h) (number_head h) ≡ h
unfolding head_of kind_head number_head kind_flat part_flat kind_op
read_back (flat_head unit) = refl
read_back (flat_head (primitive Sort.Bool)) = refl
read_back (flat_head (primitive Sort.Pos)) = refl
read_back (flat_head (primitive Sort.Nat)) = refl
read_back (flat_head (primitive Sort.Int)) = refl
read_back (flat_head (primitive Sort.Real)) = refl
read_back (flat_head (def n)) = refl
read_back (flat_head (typevar n)) = refl
read_back (container_head ComplexSort.List) = refl
read_back (container_head ComplexSort.Set) = refl
read_back (container_head ComplexSort.FSet) = refl
read_back (container_head ComplexSort.Bag) = refl
read_back (container_head ComplexSort.FBag) = refl
read_back (function_head n) = refl
read_back (stray_head n) = refl

pub same_head_true : (h g : Head) → same_head h g ≡ true → h ≡ g
unfolding same_head
same_head_true h g e =
    let b = (and-eq-true_iff (eqb (kind_head h) (kind_head g)) (eqb (number_head h) (number_head g))).0 e in
    sym (read_back h) ∙ (ap₂ head_of (eqb-true (kind_head h) (kind_head g) b.0) (eqb-true (number_head h) (number_head g) b.1) ∙ read_back g)

pub same_head_refl : (h : Head) → same_head h h ≡ true
unfolding same_head
same_head_refl h = rw (eq-eqb (kind_head h) (kind_head h) refl, eq-eqb (number_head h) (number_head h) refl)
