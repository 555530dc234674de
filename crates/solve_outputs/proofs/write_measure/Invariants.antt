-- The loop's invariant: storing the components that are left comes to storing all. Assumes nothing.
use Rattle.solve_outputs.proofs.Over.{MeasureLeft}
use Rattle.solve_outputs.proofs.write_measure.Given as goal

abbrev pub invariant-loop-i : goal.invariant-loop-i
invariant-loop-i l = MeasureLeft l.search.scratch.now l.initial.measure l.i-end l.measure l.i
