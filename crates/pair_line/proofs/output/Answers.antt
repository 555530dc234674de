-- 14 for a short buffer; else the line, which has room. Assumes nothing.
use Rattle.std.proofs.Common.{rules, arith}
use Rattle.text_out.proofs.Outs as put
use Rattle.pair_line.proofs.Ways as law
use Rattle.pair_line.proofs.output.Goals as goal

pub returns-then-out-lt-LINE_ROOM : goal.returns-then-out-lt-LINE_ROOM
returns-then-out-lt-LINE_ROOM c = law.buffer_short _ _ c.if-out-lt-LINE_ROOM.true

pub returns : goal.returns
returns c =
    law.line_left _ _ c.if-out-lt-LINE_ROOM.false (law.printed_has_room c.args.lines)
    (put.left_whole _ _ (omega (arith, law.printed_has_room c.args.lines, c.if-out-lt-LINE_ROOM.false)) c.put_line.ensures (search rules))
