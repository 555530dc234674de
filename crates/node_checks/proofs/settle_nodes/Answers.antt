-- One node more is one step of the definition. Assumes nothing.
use Rattle.std.proofs.Common.{arith, length-set, refl, ◌∙◌}
use Rattle.node_checks.proofs.Settling as law
use Rattle.node_checks.proofs.settle_nodes.Goals as goal

pub loop-i-init : goal.loop-i-init
loop-i-init c = (omega arith, refl, law.none_of_nodes c.args.nodes.now c.args.vars.now c.args.flags.now)

pub loop-i-preserved : goal.loop-i-preserved
loop-i-preserved c =
    let a = c.args in
    let l = c.loop-i in (
      omega arith,
      length-set l.flags l.i _ ∙ l.invariant.1,
      law.one_more_node a.nodes.now a.vars.now l.flags l.i (omega arith) l.invariant.2 _
          c.node_settled-settled.ensures,
    )
