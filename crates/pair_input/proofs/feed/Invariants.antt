-- The invariant: the bytes taken so far have left what is held and put. Assumes nothing.
use Rattle.pair_input.proofs.Ways.{FeedingTo}
use Rattle.pair_input.proofs.feed.Given as goal

abbrev pub invariant-loop-used : goal.invariant-loop-used
invariant-loop-used l = FeedingTo l.fn.memory l.fn.held l.bytes l.initial.to l.memory l.held l.to l.used
