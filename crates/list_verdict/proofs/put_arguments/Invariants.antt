-- The rows left come to all.
use Rattle.std.proofs.Common.{◌+◌}
use Rattle.list_verdict.specs.Text.{rows_text, argument_text}
use Rattle.list_verdict.proofs.Rows.{RowsLeft}
use Rattle.list_verdict.proofs.put_arguments.Given as goal

abbrev pub invariant-loop-i : goal.invariant-loop-i
invariant-loop-i l =
    let row = argument_text l.sorts in
    RowsLeft row (rows_text row l.fn.domain.count l.fn.domain.start) (l.fn.domain.start + l.fn.domain.count) l.initial.out l.out l.i
