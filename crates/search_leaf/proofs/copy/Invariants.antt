-- The loop by the laws of copying. Assumes nothing.
use Rattle.search_leaf.proofs.Copies.{Copying}
use Rattle.search_leaf.proofs.copy.Given as goal

abbrev pub invariant-loop-i : goal.invariant-loop-i
invariant-loop-i l = Copying l.from l.to l.n l.initial.scratch l.scratch l.i
