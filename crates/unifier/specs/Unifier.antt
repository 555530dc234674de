-- A unifier, and what a call of it leaves.
use Rattle.std.specs.Prelude.{◌≡◌, Bool, ℕ, length}
use Rattle.unification.specs.Term.{Shape}
use Rattle.unification.specs.Nodes.{Binds, binds_of}
use Rattle.unification.specs.Checked.{graph_of}
use Rattle.unification.specs.Unify.{Unifies}
use Rattle.unification.specs.Trail.{UnifyLeaves}
use Rattle.unifier.specs.Inner.Trying.{Trying, Free}
use Rattle.unifier.specs.declared.Unifier.{Unifier}

abbrev pub graph : Unifier → ℕ → Shape
graph U = graph_of U.places.sorts.now U.places.nodes.now U.places.lengths

abbrev pub bindings : Unifier → Binds
bindings U = binds_of U.binds.now U.places.lengths.variables

-- checked lists and bindings, and room on the trail
abbrev pub CanTry : Unifier → Type 0
CanTry U = Trying U.places.sorts.now U.places.nodes.now U.binds.now U.trail.now U.places.lengths U.count

-- a free variable of the list
abbrev pub IsFree : Unifier → ℕ → Type 0
IsFree U v = Free U.binds.now U.places.lengths v

-- V is of the places of U, and has the same lent memory for the bindings and the trail
abbrev pub Keeps : Unifier → Unifier → Type 0
Keeps U V =
    (V.places ≡ U.places)
    × (V.binds.ghost_name ≡ U.binds.ghost_name) × (V.trail.ghost_name ≡ U.trail.ghost_name)
    × (length V.binds.now ≡ length U.binds.now) × (length V.trail.now ≡ length U.trail.now)

-- a try from U that answers r leaves V, where the definition says X
abbrev pub Leaves : Unifies → Unifier → Unifier → Bool → Type 0
Leaves X U V r =
    UnifyLeaves U.places.sorts.now U.places.nodes.now U.places.lengths X U.binds.now U.trail.now U.count V.binds.now
    V.trail.now V.count r
