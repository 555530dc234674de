-- Nothing is read yet, so the bytes of the reader are all that lines are read from. Assumes nothing.
use Rattle.std.proofs.Common.{ℕ, ap, subst, arith, length, List, OnOk}
use Rattle.std.specs.Prelude.{Option}
use Rattle.replay.specs.Replays.{known_input, Replayed}
use Rattle.replay.proofs.Replaying as law
use Rattle.replay.proofs.run.Goals as goal

pub returns : goal.returns
returns g c =
    let buffer_long = ap (λ m. length m.now) c.new.ensures.same_memory.0 in
    let line_long = ap (λ m. length m.now) c.new.ensures.same_memory.1 in
    subst
    (λ (k : Option (List ℕ)). OnOk c.replay_all.result (Replayed g.R.Source.shows c.args.reader.now c.replay_all.new.reader
    g.T.Recorded.step g.T.Recorded.complete 257 c.args.recorded.now c.replay_all.new.recorded k
    (g.W.Write.contents c.args.out.now) (g.W.Write.contents c.replay_all.new.out)))
    (law.known_from_the_start c.new.result _ c.new.ensures.nothing_read.0 c.new.ensures.nothing_read.1 (omega (arith, buffer_long))
    (omega (arith, line_long)))
    (subst
    (λ (n : ℕ). OnOk c.replay_all.result (Replayed g.R.Source.shows c.args.reader.now c.replay_all.new.reader
    g.T.Recorded.step g.T.Recorded.complete n c.args.recorded.now c.replay_all.new.recorded
    (known_input c.new.result (g.R.Source.remaining c.args.reader.now))
    (g.W.Write.contents c.args.out.now) (g.W.Write.contents c.replay_all.new.out)))
    {x = length c.new.result.line.bytes.now} (omega (arith, line_long)) (law.without_the_calls _ _ _ _ _ _ _ _ _ _ _ _ _ _ _ c.replay_all.ensures.replayed))
