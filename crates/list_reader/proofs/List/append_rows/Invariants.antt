-- The loop's invariant: appending what is left comes to appending all. Assumes nothing.
use Rattle.list_reader.proofs.Rows as law
use Rattle.list_reader.proofs.List.append_rows.Given as goal

abbrev pub invariant-loop-i : goal.invariant-loop-i
invariant-loop-i l = law.Adding l.rows.times l.fn.self.words l.rows.table l.rows.step l.rows.row l.self.words l.row l._i
