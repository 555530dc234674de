-- The loop's invariant: appending what is left comes to appending all. Assumes nothing.
use Rattle.list_reader.proofs.Rows as law
use Rattle.list_reader.proofs.List.append_run.Given as goal

abbrev pub invariant-loop-i : goal.invariant-loop-i
invariant-loop-i l = law.Running l.fn.self.words l.run.table l.t l.run.from l.run.to l.self.words l.i
