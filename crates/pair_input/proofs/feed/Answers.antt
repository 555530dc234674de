-- No byte is taken at first, then the buffer is full or a byte more is taken, up to the last. Assumes nothing.
use Rattle.std.proofs.Common.{rules, refl, arith}
use Rattle.pair_input.proofs.Ways as law
use Rattle.pair_input.proofs.feed.Goals as goal

pub loop-used-init : goal.loop-used-init
loop-used-init c = law.none_fed_to _ _ _ _ refl c.requires

pub returns-then-room-to-lt-LINE_ROOM : goal.returns-then-room-to-lt-LINE_ROOM
returns-then-room-to-lt-LINE_ROOM c =
    law.fed_to _ _ _ _ _ _ _ _ c.loop-used.invariant _ (search rules)
    (law.fed_full _ _ _ _ _ _ _ _ _ c.loop-used.invariant.feeding c.loop-used-test.true
    (omega (arith, c.if-room-to-lt-LINE_ROOM.true, c.loop-used.invariant.feeding.out_long)))

pub loop-used-preserved : goal.loop-used-preserved
loop-used-preserved c =
    law.byte_fed_to _ _ _ _ _ _ _ _ c.loop-used.invariant c.loop-used-test.true c.if-room-to-lt-LINE_ROOM.false _ _ _
    c.take_byte-held.ensures.kept c.take_byte-held.ensures.put

pub returns : goal.returns
returns c =
    law.fed_to _ _ _ _ _ _ _ _ c.loop-used.invariant _ (search rules)
    (law.all_fed_as _ _ _ _ _ _ _ _ _ c.loop-used.invariant.feeding c.loop-used-test.false)
