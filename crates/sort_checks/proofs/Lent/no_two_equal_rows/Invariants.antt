-- No two of the rows passed are the same, and the index is theirs. Assumes nothing.
use Rattle.std.proofs.Common.{◌≡◌, true}
use Rattle.resolved_sort.specs.Rows.{rows_differ}
use Rattle.resolved_sort.specs.Index.{Indexed}
use Rattle.sort_checks.proofs.Lent.no_two_equal_rows.Given as goal

abbrev pub invariant-loop-j : goal.invariant-loop-j
invariant-loop-j l = (rows_differ l.self.words.now l.j ≡ true) × Indexed l.self.words.now l.j l.index
