-- A pair counts by its numbers: bound goes to smaller ones, against to join and meet, and these to bound. And before
-- the k-th arguments the list has grown, its index with it, and the rest comes to the whole. Assumes nothing.
use Rattle.std.proofs.Common.{◌≡◌, ◌+◌, ◌*◌}
use Rattle.resolved_sort.specs.Index.{Indexed}
use Rattle.sort_bounds.proofs.Ways.{GoingAndGrown}
use Rattle.sort_bounds.proofs.+join_meet.Given as goal

abbrev pub decreases-bound : goal.decreases-bound
decreases-bound l = 3 * (l.lhs.0 + l.rhs.0)

abbrev pub decreases-join : goal.decreases-join
decreases-join l = 3 * (l.lhs.0 + l.rhs.0) + 1

abbrev pub decreases-meet : goal.decreases-meet
decreases-meet l = 3 * (l.lhs.0 + l.rhs.0) + 1

abbrev pub decreases-against : goal.decreases-against
decreases-against l = 3 * (l.lhs.0 + l.rhs.0) + 2

abbrev pub invariant-bound-loop-k : goal.invariant-bound-loop-k
invariant-bound-loop-k l =
    (l.sorts.words.ghost_name ≡ l.initial.sorts.words.ghost_name)
    × (l.sorts.index.ghost_name ≡ l.initial.sorts.index.ghost_name)
    × Indexed l.sorts.words.now l.sorts.counts.sorts l.sorts.index.now
    × GoingAndGrown l.up l.initial.sorts.words.now l.initial.sorts.counts l.fn.lhs.0 l.fn.rhs.0 l.lhs_domain l.rhs_domain
    l.sorts.words.now l.sorts.counts l.k l.domain
