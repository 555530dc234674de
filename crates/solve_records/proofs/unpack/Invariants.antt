-- The loop's invariant: storing the records that are left comes to storing all. Assumes nothing.
use Rattle.solve_records.proofs.Unpacked.{RecordsLeft}
use Rattle.solve_records.proofs.unpack.Given as goal

abbrev pub invariant-loop-i : goal.invariant-loop-i
invariant-loop-i l = RecordsLeft l.records l.words l.i
