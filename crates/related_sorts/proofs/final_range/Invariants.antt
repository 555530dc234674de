-- The functions passed are noted; the rank of the place that was reached falls. Assumes nothing.
use Rattle.std.proofs.Common.{◌≡◌, length}
use Rattle.unification.specs.Term.{kind_head}
use Rattle.unification.specs.Inner.Term.{head_of}
use Rattle.unification.specs.Unify.{deep}
use Rattle.unification.proofs.Rank.{rank}
use Rattle.infer_nodes.specs.Places.{IsRow, graph, bindings}
use Rattle.related_sorts.proofs.Ranges.{Descending}
use Rattle.related_sorts.proofs.final_range.Given as goal

abbrev pub invariant-loop-row : goal.invariant-loop-row
invariant-loop-row l =
    Descending l.bindings.places.sorts.now l.bindings.places.nodes.now l.bindings.binds.now l.bindings.places.lengths l.initial.range.0 l.functions l.range.0 l.count
    (kind_head (head_of (graph l.bindings.places l.range.0))) × (length l.functions ≡ length l.initial.functions)
    × IsRow l.row (graph l.bindings.places l.range.0)

abbrev pub decreases-loop-row : goal.decreases-loop-row
decreases-loop-row l = rank (graph l.bindings.places) deep (bindings l.bindings) l.range.0
