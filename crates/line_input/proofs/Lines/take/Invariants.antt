-- The loop's invariant: what is left of the bytes comes to what the whole comes to. Assumes nothing.
use Rattle.line_input.proofs.Reading.{TakingOn}
use Rattle.line_input.proofs.Lines.take.Given as goal

abbrev pub invariant-loop-at : goal.invariant-loop-at
invariant-loop-at l = TakingOn l.fn.self l.self l.at
