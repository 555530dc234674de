-- The rows left come to all.
use Rattle.list_verdict.specs.Text.{rows_text, expr_line}
use Rattle.list_verdict.proofs.Rows.{RowsLeft}
use Rattle.list_verdict.proofs.put_typing.Given as goal

abbrev pub invariant-loop-i : goal.invariant-loop-i
invariant-loop-i l =
    let row = expr_line l.fn.sorts.words.now l.fn.sorts.counts.sorts l.typing.rows.now in
    RowsLeft row (rows_text row l.typing.exprs 0) l.typing.exprs l.initial.out l.out l.i
