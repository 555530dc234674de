-- The rows left come to all.
use Rattle.std.proofs.Common.{◌-◌}
use Rattle.list_verdict.specs.Text.{rows_text, new_line}
use Rattle.list_verdict.proofs.Rows.{RowsLeft}
use Rattle.list_verdict.proofs.put_new_sorts.Given as goal

abbrev pub invariant-loop-i : goal.invariant-loop-i
invariant-loop-i l =
    let row = new_line l.sorts in
    RowsLeft row (rows_text row (l.count - l.given) l.given) l.count l.initial.out l.out l.i
