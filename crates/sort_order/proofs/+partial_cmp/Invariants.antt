-- A pair counts by its numbers; and what the arguments so far and those that are left come to is the whole.
-- Assumes nothing.
use Rattle.std.proofs.Common.{◌+◌}
use Rattle.sort_order.proofs.Orders.{LeftOf}
use Rattle.sort_order.proofs.+partial_cmp.Given as goal

abbrev pub decreases-partial_cmp : goal.decreases-partial_cmp
decreases-partial_cmp l = l.lhs.0 + l.rhs.0

abbrev pub invariant-loop-k : goal.invariant-loop-k
invariant-loop-k l =
    LeftOf l.sorts.words.now l.sorts.counts.sorts l.lhs_domain.start l.rhs_domain.start l.lhs_domain.count l.k l.ordering
