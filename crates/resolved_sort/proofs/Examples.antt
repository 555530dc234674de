-- Document 01's pair examples and further ones of the lattice, computed from the definitions: one test over a
-- list of cases. Assumes nothing.
use mathlib.Core.Path.{◌≡◌, refl}
use mathlib.Core.Bool.{Bool, true, false}
use mathlib.Core.List.{List, [], ◌∷◌, ◌++◌, map}
use mathlib.Core.Option.{Option, none, some}
use Prim.Native.Nat.{ℕ}
use Rattle.resolved_sort.specs.declared.Sort.{Sort}
use Rattle.resolved_sort.specs.declared.ComplexSort.{ComplexSort}
use Rattle.resolved_sort.specs.Order.{PartialOrder}
use Rattle.resolved_sort.specs.Order.{Unrelated, Equal, Below, Above}
use Rattle.resolved_sort.specs.Tree
use Rattle.resolved_sort.specs.Tree.{Flat, unit, primitive, def, typevar, Tree, flat, container, function, Trees, no_args, arg}
use Rattle.resolved_sort.specs.Order
use Rattle.resolved_sort.specs.Order.{order, bound, Steps, distance, materializable}
use Rattle.resolved_sort.specs.Interning.{Outcome, nothing, full, make, makes, intern, member, need}

abbrev bool : Tree
bool = flat (primitive Sort.Bool)

abbrev pos : Tree
pos = flat (primitive Sort.Pos)

abbrev nat : Tree
nat = flat (primitive Sort.Nat)

abbrev int : Tree
int = flat (primitive Sort.Int)

abbrev real : Tree
real = flat (primitive Sort.Real)

abbrev set : Tree → Tree
set = container ComplexSort.Set

abbrev fset : Tree → Tree
fset = container ComplexSort.FSet

abbrev to : Tree → Tree → Tree
to s t = function (arg s no_args) t

record Case : Type 0 where
  first : Tree
  second : Tree

record Answers : Type 0 where
  sign : PartialOrder
  upper : Option Tree
  lower : Option Tree
  steps : Option Steps
  converts : Bool

abbrev pair : Tree → Tree → Case
pair s t = record { first = s; second = t }

abbrev answer : PartialOrder → Option Tree → Option Tree → Option Steps → Bool → Answers
answer s u l d m = record { sign = s; upper = u; lower = l; steps = d; converts = m }

abbrev far : ℕ → ℕ → Option Steps
far h i = some (record { head = h; interior = i })

abbrev answers : Case → Answers
answers c =
    answer (order c.first c.second) (bound true c.first c.second) (bound false c.first c.second)
    (distance true c.first c.second) (materializable c.first c.second)

pairs_are_answered : map answers (
    pair (fset pos) (set nat)
    ∷ pair (to nat pos) (to pos nat)
    ∷ pair pos real
    ∷ pair nat pos
    ∷ pair bool nat
    ∷ pair (fset nat) (set pos)
    ∷ pair (fset nat) (set nat)
    ∷ pair (to bool pos) (to bool nat)
    ∷ pair (function no_args nat) (function no_args int)
    ∷ pair (flat (def 7)) (flat (def 7))
    ∷ pair (flat (def 7)) (flat (typevar 7))
    ∷ [])
    ≡ answer Below (some (set nat)) (some (fset pos)) (far 1 1) false
    ∷ answer Below (some (to pos nat)) (some (to nat pos)) (far 0 2) false
    ∷ answer Below (some real) (some pos) (far 3 0) true
    ∷ answer Above (some nat) (some pos) none false
    ∷ answer Unrelated none none none false
    ∷ answer Unrelated (some (set nat)) (some (fset pos)) none false
    ∷ answer Below (some (set nat)) (some (fset nat)) (far 1 0) true
    ∷ answer Below (some (to bool nat)) (some (to bool pos)) (far 0 1) true
    ∷ answer Below (some (function no_args int)) (some (function no_args nat)) (far 0 1) true
    ∷ answer Equal (some (flat (def 7))) (some (flat (def 7))) (far 0 0) true
    ∷ answer Unrelated none none none false
    ∷ []
unfolding order Order.le Order.les bound Order.bounds Order.bound_flat Order.bound_op distance Order.distances
    materializable Tree.same Tree.sames Tree.family Tree.level Tree.family_op Tree.level_op
pairs_are_answered = refl

-- What join makes, in order, also where the answer is none: FSet(Pos) on the way to FSet(Nat) # Bool -> Bool and
-- Set(Pos) # Pos -> Bool, which have no join; with no room for it the answer is "no room".
abbrev given : List Tree
given = flat unit ∷ bool ∷ pos ∷ nat ∷ int ∷ real ∷ fset nat ∷ set pos ∷ []

abbrev two : Tree → Tree → Tree
two s t = function (arg s (arg t no_args)) bool

abbrev made_by_join : ℕ → Outcome Tree
made_by_join room = make true (two (fset nat) bool) (two (set pos) pos) (record { trees = given; rows = room; entries = 0 })

making_keeps_what_none_made : made_by_join 1 ≡ nothing (record { trees = given ++ (fset pos ∷ []); rows = 0; entries = 0 })
unfolding make makes intern member need Order.bound_flat Order.bound_op Tree.same Tree.sames Tree.family Tree.level Tree.family_op Tree.level_op Tree.arity
making_keeps_what_none_made = refl

room_ends_before_none_is_known : made_by_join 0 ≡ full (record { trees = given; rows = 0; entries = 0 })
unfolding make makes intern member need Order.bound_flat Order.bound_op Tree.same Tree.sames Tree.family Tree.level Tree.family_op Tree.level_op Tree.arity
room_ends_before_none_is_known = refl
