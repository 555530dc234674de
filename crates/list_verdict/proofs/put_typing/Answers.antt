-- One line more. Assumes nothing.
use Rattle.list_verdict.proofs.Rows as rows
use Rattle.list_verdict.proofs.put_typing.Goals as goal

pub loop-i-preserved : goal.loop-i-preserved
loop-i-preserved c = rows.one_row_more _ _ _ _ _ _ c.loop-i.invariant c.loop-i-test.true c.put_expr.ensures
