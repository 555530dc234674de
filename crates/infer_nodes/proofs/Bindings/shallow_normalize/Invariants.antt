-- The invariant: bindings were followed so far. The measure is the rank of the place that was reached. Assumes nothing.
use Rattle.unification.specs.Unify.{deep}
use Rattle.unification.proofs.Rank.{rank}
use Rattle.infer_nodes.specs.Places.{graph, bindings}
use Rattle.infer_nodes.proofs.Ways.{Following}
use Rattle.infer_nodes.proofs.Bindings.shallow_normalize.Given as goal

abbrev pub invariant-loop-next : goal.invariant-loop-next
invariant-loop-next l = Following (graph l.self.places) (bindings l.self) l.self.places.lengths l.initial.end.0 l.end.0

abbrev pub decreases-loop-next : goal.decreases-loop-next
decreases-loop-next l = rank (graph l.self.places) deep (bindings l.self) l.end.0
