-- A pair counts by its numbers; and the steps so far with those that are left are the steps of all. Assumes nothing.
use Rattle.std.proofs.Common.{◌+◌}
use Rattle.sort_order.proofs.Distances.{StepsLeft}
use Rattle.sort_order.proofs.+widening_distance.Given as goal

abbrev pub decreases-widening_distance : goal.decreases-widening_distance
decreases-widening_distance l = l.from.0 + l.to.0

abbrev pub invariant-loop-k : goal.invariant-loop-k
invariant-loop-k l =
    StepsLeft l.sorts.words.now l.sorts.counts.sorts l.from_domain.start l.to_domain.start l.from_domain.count l.k l.interior
