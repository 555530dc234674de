-- A base name more is stored. Assumes nothing.
use Rattle.solve_outputs.proofs.Naming.{base_begin, base_go_on}
use Rattle.solve_outputs.proofs.write_base_names.Goals as goal

pub loop-i-init : goal.loop-i-init
loop-i-init c = base_begin c.args.names.now.words.now c.args.typing.now c.args.exprs c.args.names.now.count

pub loop-i-preserved : goal.loop-i-preserved
loop-i-preserved c =
    let a = c.args in
    let l = c.loop-i in
    base_go_on a.names.now.words.now a.typing.now a.exprs a.names.now.count l.typing l.i l.invariant c.loop-i-test.true _ _ _ _ _
    c.word.ensures c.word-kind.ensures c.word-sort.ensures c.name_target.ensures c.put_name.ensures
