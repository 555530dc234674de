-- Materializable is a partial order inside "equal to or below", and how far a materializable pair is apart. The test is read
-- as a relation with a rule for each kind of sort. Assumes nothing.
use mathlib.Core.Path.{◌≡◌, refl, sym, ap}
use mathlib.Core.Bool.{true, false, and-eq-true_iff, false≢true}
use mathlib.Core.Option.{some}
use mathlib.Core.Logic.{◌↔◌}
use Prim.Native.Nat.{ℕ, ◌-◌}
use native.Mathlib.Omega.{arith}
use Rattle.resolved_sort.specs.declared.Sort.{Sort}
use Rattle.resolved_sort.specs.declared.ComplexSort.{ComplexSort}
use Rattle.resolved_sort.specs.Tree.{Flat, primitive, Tree, flat, container, function, Trees, no_args, arg, family, level, family_op, level_op, same}
use Rattle.resolved_sort.specs.Order.{le_flat, le_op, le, Steps, all_steps, distance, materializable, is_function}
use Rattle.resolved_sort.proofs.Heads.{head_refl, head_trans}
use Rattle.resolved_sort.proofs.Same.{same_exactly, sames_exactly}
use Rattle.resolved_sort.proofs.Order.{Le, Le.flats, Le.containers, Le.functions, Le-refl, Les-refl, le_exactly, le_antisym}
use Rattle.resolved_sort.proofs.Distance.{distance_exists_exactly, distance_of_equal, distances_of_equal, steps}

pub data Materializes : Tree → Tree → Type 0 where
  number : {a b : Flat} → le_flat true a b ≡ true → Materializes (flat a) (flat b)
  operator : {o p : ComplexSort} {s : Tree} → le_op true o p ≡ true → Materializes (container o s) (container p s)
  range : {ss : Trees} {r u : Tree} → Materializes r u → Materializes (function ss r) (function ss u)

to_materializes : (s t : Tree) → materializable s t ≡ true → Materializes s t
unfolding materializable
to_materializes (flat a) (flat b) e = number e
to_materializes (flat a) (container p t) e = absurd (false≢true e)
to_materializes (flat a) (function ts u) e = absurd (false≢true e)
to_materializes (container o s) (flat b) e = absurd (false≢true e)
to_materializes (container o s) (container p t) e = let h = (and-eq-true_iff _ _).0 e in rw ((same_exactly s t).0 h.1) (operator h.0)
to_materializes (container o s) (function ts u) e = absurd (false≢true e)
to_materializes (function ss r) (flat b) e = absurd (false≢true e)
to_materializes (function ss r) (container p t) e = absurd (false≢true e)
to_materializes (function ss r) (function ts u) e = let h = (and-eq-true_iff _ _).0 e in rw ((sames_exactly ss ts).0 h.0) (range (to_materializes r u h.1))

from_materializes : {s t : Tree} → Materializes s t → materializable s t ≡ true
unfolding materializable
from_materializes (number h) = h
from_materializes (operator {s = s} h) = (and-eq-true_iff _ _).1 (h, (same_exactly s s).1 refl)
from_materializes (range {ss = ss} p) = (and-eq-true_iff _ _).1 ((sames_exactly ss ss).1 refl, from_materializes p)

pub materializable_exactly : (s t : Tree) → (materializable s t ≡ true) ↔ Materializes s t
materializable_exactly s t = (to_materializes s t, from_materializes)

reflexive : (s : Tree) → Materializes s s
reflexive (flat a) = number (head_refl family level true a)
reflexive (container o s) = operator (head_refl family_op level_op true o)
reflexive (function ss r) = range (reflexive r)

transitive : {s t u : Tree} → Materializes s t → Materializes t u → Materializes s u
transitive (number h) (number k) = number (head_trans family level true _ _ _ h k)
transitive (operator h) (operator k) = operator (head_trans family_op level_op true _ _ _ h k)
transitive (range p) (range q) = range (transitive p q)

below : {s t : Tree} → Materializes s t → Le true s t
below (number h) = flats h
below (operator {s = s} h) = containers h (Le-refl true s)
below (range {ss = ss} p) = functions (Les-refl false ss) (below p)

pub materializable_refl : (s : Tree) → materializable s s ≡ true
materializable_refl s = from_materializes (reflexive s)

pub materializable_trans : (s t u : Tree) → materializable s t ≡ true → materializable t u ≡ true → materializable s u ≡ true
materializable_trans s t u e f = from_materializes (transitive (to_materializes s t e) (to_materializes t u f))

pub materializable_below : (s t : Tree) → materializable s t ≡ true → le true s t ≡ true
materializable_below s t e = (le_exactly true s t).1 (below (to_materializes s t e))

pub materializable_antisym : (s t : Tree) → materializable s t ≡ true → materializable t s ≡ true → s ≡ t
materializable_antisym s t e f = le_antisym true s t (materializable_below s t e) (materializable_below t s f)

interior_zero : {s t : Tree} → is_function s ≡ false → Materializes s t → (h : ℕ) × (distance true s t ≡ some (record { head = h; interior = 0 }))
unfolding distance
interior_zero i (number {a} {b} h) = (level b - level a, rw h)
interior_zero i (operator {o} {p} {s} h) = (level_op p - level_op o, rw (h, distance_of_equal true s))
interior_zero i (range p) = absurd (false≢true (sym i))

interior_of_range : {ss ts : Trees} {r u : Tree} → Materializes (function ss r) (function ts u)
    → (d : Steps) × (distance true r u ≡ some d) × (distance true (function ss r) (function ts u) ≡ some (record { head = 0; interior = all_steps d }))
unfolding distance
interior_of_range (range {ss} {r} {u} p) =
    let h = (distance_exists_exactly true r u).1 ((le_exactly true r u).1 (below p)) in
    (h.0, h.1, rw (distances_of_equal false ss, h.1) (ap some (steps refl (omega arith))))

-- Flat sorts and containers: no interior steps.
pub materializable_interior_zero : (s t : Tree) → is_function s ≡ false → materializable s t ≡ true
    → (h : ℕ) × (distance true s t ≡ some (record { head = h; interior = 0 }))
materializable_interior_zero s t i e = interior_zero i (to_materializes s t e)

-- Functions: the range's head and interior steps together.
pub materializable_interior_of_range : (ss ts : Trees) (r u : Tree) → materializable (function ss r) (function ts u) ≡ true
    → (d : Steps) × (distance true r u ≡ some d) × (distance true (function ss r) (function ts u) ≡ some (record { head = 0; interior = all_steps d }))
materializable_interior_of_range ss ts r u e = interior_of_range (to_materializes _ _ e)

-- So the interior of a materializable pair of functions need not be 0: Bool -> Pos and Bool -> Nat.
abbrev pub bool_to : Sort → Tree
bool_to a = function (arg (flat (primitive Sort.Bool)) no_args) (flat (primitive a))

pub interior_of_functions_one : (materializable (bool_to Sort.Pos) (bool_to Sort.Nat) ≡ true) ×
    (distance true (bool_to Sort.Pos) (bool_to Sort.Nat) ≡ some (record { head = 0; interior = 1 }))
unfolding materializable distance same family level
interior_of_functions_one = (refl, refl)
