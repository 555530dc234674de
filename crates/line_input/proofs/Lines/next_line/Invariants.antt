-- The loop's invariant: so many reads have brought no line to its end. Assumes nothing.
use Rattle.line_input.proofs.Reading.{ReadingOn}
use Rattle.line_input.proofs.Lines.next_line.Given as goal

abbrev pub invariant-loop : goal.invariant-loop
invariant-loop g l =
    ReadingOn g.R.Source.shows l.fn.self l.initial.self l.self l.counter l.fn.reader l.reader (g.R.Source.remaining l.fn.reader)
    (g.R.Source.remaining l.reader)
