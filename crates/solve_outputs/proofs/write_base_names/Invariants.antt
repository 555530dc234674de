-- The loop's invariant: the base names from the i-th on are stored. Assumes nothing.
use Rattle.solve_outputs.proofs.Naming.{BaseLeft}
use Rattle.solve_outputs.proofs.write_base_names.Given as goal

abbrev pub invariant-loop-i : goal.invariant-loop-i
invariant-loop-i l = BaseLeft l.names.words.now l.initial.typing l.exprs l.names.count l.typing l.i

abbrev pub decreases-loop-i : goal.decreases-loop-i
decreases-loop-i l = l.i
