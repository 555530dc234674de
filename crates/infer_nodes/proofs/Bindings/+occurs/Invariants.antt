-- The measure is the rank of the place. The loop's invariant: the arguments before the i-th do not hold the variable. Assumes nothing.
use Rattle.unification.specs.Unify.{deep}
use Rattle.unification.proofs.Rank.{rank}
use Rattle.infer_nodes.specs.Places.{graph, bindings}
use Rattle.infer_nodes.proofs.Ways.{Searching}
use Rattle.infer_nodes.proofs.Bindings.+occurs.Given as goal

abbrev pub decreases-occurs : goal.decreases-occurs
decreases-occurs l = rank (graph l.self.now.places) deep (bindings l.self.now) l.id.0

abbrev pub invariant-loop-i : goal.invariant-loop-i
invariant-loop-i l = Searching (graph l.self.places) (bindings l.self) l.self.places.nodes.now l.self.places.lengths l.var.0 l.domain.start l.domain.count l.i
