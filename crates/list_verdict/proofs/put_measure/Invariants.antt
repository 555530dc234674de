-- The rows left come to all.
use Rattle.list_verdict.specs.Text.{rows_text, component}
use Rattle.list_verdict.proofs.Rows.{RowsLeft}
use Rattle.list_verdict.proofs.put_measure.Given as goal

abbrev pub invariant-loop-i : goal.invariant-loop-i
invariant-loop-i l =
    let row = component l.typing.measure.now in
    RowsLeft row (rows_text row l.typing.components 0) l.typing.components l.initial.out l.out l.i
