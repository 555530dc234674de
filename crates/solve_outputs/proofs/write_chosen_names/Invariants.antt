-- The loop's invariant: the names by the choices from the k-th on are stored. Assumes nothing.
use Rattle.solve_outputs.proofs.Naming.{NamesLeft}
use Rattle.solve_outputs.proofs.write_chosen_names.Given as goal

abbrev pub invariant-loop-i : goal.invariant-loop-i
invariant-loop-i l = NamesLeft l.search.scratch.now l.initial.typing l.search.lists.now l.search.sizes l.typing l.k l.i

abbrev pub decreases-loop-i : goal.decreases-loop-i
decreases-loop-i l = l.i
