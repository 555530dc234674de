-- The loop's invariant: storing the rows of what is left comes to storing all. Assumes nothing.
use Rattle.solve_outputs.proofs.Naming.{SortsLeft}
use Rattle.solve_outputs.proofs.write_sorts.Given as goal

abbrev pub invariant-loop-x : goal.invariant-loop-x
invariant-loop-x l = SortsLeft l.scratch l.initial.typing l.exprs l.typing l.x
