-- Comparing what is left comes to comparing all. Assumes nothing.
use Rattle.std.proofs.Common.{◌≡◌, ◌+◌, drop}
use Rattle.recorded_solve.specs.Inner.Lines.{compared_from}
use Rattle.recorded_solve.proofs.compare.Given as goal

abbrev pub invariant-loop-i : goal.invariant-loop-i
invariant-loop-i l = compared_from l.left l.start l.recorded ≡ compared_from l.left (l.start + l.i) (drop l.i l.recorded)
