-- The loop's invariant: storing the slots of what is left comes to storing all. Assumes nothing.
use Rattle.solve_outputs.proofs.Choosing.{SlotsLeft}
use Rattle.solve_outputs.proofs.store_slots.Given as goal

abbrev pub invariant-loop-i : goal.invariant-loop-i
invariant-loop-i l = SlotsLeft l.initial.slots l.search.lists.now l.i-end l.slots l.k l.i
