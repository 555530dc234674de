-- The invariant: of the bytes that the reader had, what is printed for the lines so far is written, and what is left is
-- printed from the next line on.
use Rattle.std.proofs.Common.{◌≡◌, ℕ, ◌<◌, List, length}
use Rattle.std.specs.Prelude.{Some}
use Rattle.line_input.specs.Found.{Nothing}
use Rattle.line_input.specs.Answers.{unread}
use Rattle.line_input.specs.Lines.{seen}
use Rattle.solve_lists.proofs.Runs.{Solving}
use Rattle.solve_lists.proofs.solve_all.Given as goal

abbrev pub invariant-loop-number : goal.invariant-loop-number
invariant-loop-number g l =
    record {
      buffer_long : length l.lines.buffer.now ≡ length l.fn.buffer;
      line_long : length l.lines.line.bytes.now ≡ length l.fn.line;
      solving : (xs : List ℕ) → g.R.Read.remaining l.initial.reader ≡ Some xs → 0 < length l.fn.buffer → 0 < length l.fn.line
          → Solving xs (length l.lines.line.bytes.now) (g.R.Read.remaining l.reader) (g.W.Write.contents l.initial.to)
          (g.W.Write.contents l.to) l.initial.list.words l.list.words (unread l.lines.buffer.now (seen l.lines Nothing)) l.number;
    }
