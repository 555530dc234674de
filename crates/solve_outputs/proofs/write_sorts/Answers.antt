-- An expression more stores its row. Assumes nothing.
use Rattle.std.proofs.Common.{arith}
use Rattle.solve_outputs.proofs.Naming.{sorts_end, sorts_go_on}
use Rattle.solve_outputs.proofs.write_sorts.Goals as goal

pub loop-x-preserved : goal.loop-x-preserved
loop-x-preserved c =
    let a = c.args in
    let l = c.loop-x in
    sorts_go_on a.scratch.now a.typing.now a.exprs l.typing l.x l.invariant c.requires c.loop-x-test.true _ _ _ _
    c.word.ensures c.put.ensures c.put-in-loop-x.ensures c.put-in-loop-x-2.ensures

pub returns : goal.returns
returns c =
    let a = c.args in
    let l = c.loop-x in
    sorts_end a.scratch.now a.typing.now a.exprs l.typing l.x l.invariant (omega arith)
