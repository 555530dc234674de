-- The loop's invariant: what is said of the lines so far is written, what is held and counted is what they leave, and of an input whose
-- bytes are known they are its first lines; each turn has taken one by a call, and no read has failed. Assumes nothing.
use Rattle.std.proofs.Common.{length, ◌≡◌, ◌≤◌}
use Rattle.line_input.specs.Lines.{SameMemory}
use Rattle.replay.specs.Replays.{known_input}
use Rattle.replay.specs.Ending.{ReadsMade, most_lines}
use Rattle.replay.specs.Reading.{LinesRead}
use Rattle.replay.proofs.Replaying.{Replaying, not_taken}
use Rattle.replay.proofs.replay_all.Given as goal

abbrev pub invariant-loop : goal.invariant-loop
invariant-loop g l =
    record {
      replaying : Replaying g.T.Recorded.step l.most l.fn.recorded (known_input l.fn.lines (g.R.Source.remaining l.fn.reader)) (g.W.Write.contents l.fn.out)
          l.counter l.recorded l.tally (not_taken l.lines) (g.R.Source.remaining l.reader) (g.W.Write.contents l.out)
          (λ taken. LinesRead g.R.Source.shows g.R.Source.remaining l.fn.reader l.fn.lines taken l.reader l.lines);
      reads_made : ReadsMade g.R.Source.shows l.fn.reader l.reader;
      turns : l.counter ≤ most_lines;
      most_is : l.most ≡ length l.fn.lines.line.bytes.now;
      same_memory : SameMemory l.fn.lines l.lines;
    }
