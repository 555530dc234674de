-- Free variables times a weight, plus the rank of the left side, falls. The loop's invariant: what the parts that are left come to is what all come to.
-- Assumes nothing.
use Rattle.std.proofs.Common.{◌≡◌, length, ◌+◌, ◌*◌}
use Rattle.unification.specs.Unify.{unify_shapes, unify as unifyOf, deep}
use Rattle.unification.specs.Nodes.{binds_of}
use Rattle.infer_nodes.specs.Places.{graph as graph_at}
use Rattle.unifier.proofs.Steps.{Unifying, work_of}
use Rattle.unifier.proofs.Unifier.+unify_unify_parts.Given as goal

abbrev pub decreases-unify : goal.decreases-unify
decreases-unify l = work_of l.self.now.places.sorts.now l.self.now.places.nodes.now l.self.now.binds.now l.self.now.places.lengths l.lhs.0 * 2 + 1

abbrev pub decreases-unify_parts : goal.decreases-unify_parts
decreases-unify_parts l = work_of l.self.now.places.sorts.now l.self.now.places.nodes.now l.self.now.binds.now l.self.now.places.lengths l.l.0 * 2

abbrev pub invariant-unify_parts-loop-i : goal.invariant-unify_parts-loop-i
invariant-unify_parts-loop-i l =
    ((l.self.places ≡ l.initial.self.places) × (l.self.binds.ghost_name ≡ l.initial.self.binds.ghost_name) × (l.self.trail.ghost_name ≡ l.initial.self.trail.ghost_name)
    × (length l.self.binds.now ≡ length l.initial.self.binds.now) × (length l.self.trail.now ≡ length l.initial.self.trail.now))
    × Unifying l.initial.self.places.sorts.now l.initial.self.places.nodes.now l.initial.self.places.lengths l.fn.l.0 l.fn.r.0 l.i-end
    (unify_shapes (graph_at l.initial.self.places) deep (unifyOf (graph_at l.initial.self.places)) (binds_of l.initial.self.binds.now l.initial.self.places.lengths.variables)
    l.fn.l.0 (graph_at l.initial.self.places l.fn.l.0) l.fn.r.0 (graph_at l.initial.self.places l.fn.r.0))
    l.initial.self.binds.now l.initial.self.trail.now l.initial.self.count l.self.binds.now l.self.trail.now l.self.count l.i
