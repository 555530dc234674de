-- What is said where not all was read or complete, and at last how many. Assumes nothing.
use Rattle.std.proofs.Common.{◌∙◌, ap, subst}
use Rattle.std.specs.Io.KnownBytes.{Appends}
use Rattle.replay.specs.Said.{counted_unless, read_said, last_said, checked_said, end_said}
use Rattle.replay.proofs.Replaying as law
use Rattle.replay.proofs.finish.Goals as goal

pub returns : goal.returns
returns g c =
    let before = g.W.Write.contents c.args.out.now in
    let left = g.W.Write.contents c.writeln.new.self in
    law.on_ok c.writeln.result {P = Appends (g.W.Write.contents c.finish_unless-2.new.out) left (checked_said c.in_ok-tally-2.tally)}
    {Q = Appends before left (end_said c.args.tally c.args.read c.args.complete)}
    (λ a. law.appends_more before (g.W.Write.contents c.finish_unless.new.out) left (read_said c.args.read) _ c.in_ok-tally.ensures.said
    (law.appends_more (g.W.Write.contents c.finish_unless.new.out) (g.W.Write.contents c.finish_unless-2.new.out) left
    (last_said c.args.complete) (checked_said (counted_unless c.args.complete (counted_unless c.args.read c.args.tally))) c.in_ok-tally-2.ensures.said
    (subst (λ t. Appends (g.W.Write.contents c.finish_unless-2.new.out) left (checked_said t)) (c.in_ok-tally-2.ensures.counted ∙ ap (counted_unless c.args.complete) c.in_ok-tally.ensures.counted) a)))
    c.writeln.ensures.bytes
