-- The invariant: undoing what is left comes to undoing all. Assumes nothing.
use Rattle.unifier.proofs.Tries.{Undoing}
use Rattle.unifier.proofs.undo.Given as goal

abbrev pub invariant-loop-i : goal.invariant-loop-i
invariant-loop-i l = Undoing l.trail l.base l.count l.initial.binds l.binds l.i
