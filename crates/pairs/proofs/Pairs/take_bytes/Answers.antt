-- Nothing is taken at first, and each turn takes a part, at least a byte of it, and writes what it prints. Assumes nothing.
use Rattle.std.proofs.Common.{arith, ap}
use Rattle.pair_input.specs.HeldIn.{held_in}
use Rattle.pairs.proofs.Runs as law
use Rattle.pairs.proofs.Pairs.take_bytes.Goals as goal

pub loop-from-init : goal.loop-from-init
loop-from-init g c = law.none_taken_yet _ _ _ _ (omega arith)

pub loop-from-smaller : goal.loop-from-smaller
loop-from-smaller g c = law.less_left _ _ _ _ _ _ _ _ c.loop-from.invariant c.loop-from-test.true _ _ _ _ _ c.feed-fed.ensures.feeds

pub loop-from-preserved : goal.loop-from-preserved
loop-from-preserved g c =
    law.part_taken _ _ _ _ _ _ _ _ c.loop-from.invariant c.loop-from-test.true _ _ _ _ _ c.feed-fed.ensures.feeds
    _ (ap held_in c.write.ensures.kept.0) _ c.write.ensures.kept.1 _ c.in_ok-write.ensures.written
