-- One variable more is one step of the definition. Assumes nothing.
use Rattle.std.proofs.Common.{ap, arith, length-take-le, ◌∙◌}
use Rattle.std.proofs.lemmas.List.{take-append-le}
use Rattle.unification.specs.Acyclic.{binding_settled}
use Rattle.unification.specs.Nodes.{binding_of}
use Rattle.node_checks.proofs.Settling as law
use Rattle.node_checks.proofs.settle_vars.Goals as goal

pub loop-x-preserved : goal.loop-x-preserved
loop-x-preserved c =
    let a = c.args in
    let l = c.loop-x in
    let long = length-take-le a.v a.vars.now c.requires in
    law.one_more_var a.binds.now a.v a.flags.now l.var-items l.x (omega (arith, c.loop-x-test.true, long)) (omega (arith, l.auto.var-items, long)) l.invariant _
    (c.binding_settled.ensures ∙ ap (λ w. binding_settled a.flags.now (binding_of w)) c.word.ensures)

pub returns : goal.returns
returns c =
    let a = c.args in
    let l = c.loop-x in
    let long = length-take-le a.v a.vars.now c.requires in
    take-append-le a.v l.var-items _ (omega (arith, l.auto.var-items, long))
    ∙ law.all_vars a.binds.now a.v a.flags.now l.var-items l.x (omega (arith, c.loop-x-test.false, l.auto.x-end, long)) l.invariant
