-- Where the arguments are settled, the range decides. Assumes nothing.
use Rattle.node_checks.proofs.Settling as law
use Rattle.node_checks.proofs.node_settled.Goals as goal

pub returns-then-arguments_settled : goal.returns-then-arguments_settled
returns-then-arguments_settled c =
    let a = c.args in
    law.range_decides a.nodes.now a.vars.now a.flags.now a.id.0 _ c.node.ensures _ _ c.in-Function.is _
    c.arguments_settled.ensures c.if-arguments_settled.true _ c.place_settled-then-arguments_settled.ensures
