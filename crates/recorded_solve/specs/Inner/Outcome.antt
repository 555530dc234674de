-- The outcome of a call of the solver, packed.
use Rattle.inference.specs.SolveChecks.{Call}
use Rattle.inference.specs.SolveEntry.{solve_entry}
use Rattle.solve_outputs.specs.Packed.{PackedSolve, pack_solve_left}

unfoldable pub solved : Call → PackedSolve
solved I = pack_solve_left (solve_entry I)
