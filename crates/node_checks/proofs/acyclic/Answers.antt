-- Where nothing is bound the bindings are acyclic; else a round of the code is a round of the definition. Assumes nothing.
use Rattle.std.proofs.Common.{arith, refl, sym, ◌∙◌}
use Rattle.unification.specs.Nodes.{binds_of}
use Rattle.unification.proofs.Passed.{length_binds}
use Rattle.node_checks.proofs.Settling as law
use Rattle.node_checks.proofs.Growing as grows
use Rattle.node_checks.proofs.Unbound as unbound
use Rattle.node_checks.proofs.acyclic.Goals as goal

pub returns-then-nothing_bound : goal.returns-then-nothing_bound
returns-then-nothing_bound c =
    let a = c.args in
    unbound.unbound_is_acyclic a.nodes.now a.m (binds_of a.binds.now a.v)
    (sym c.nothing_bound.ensures ∙ c.if-nothing_bound.true)

pub loop-round-init : goal.loop-round-init
loop-round-init c =
    let a = c.args in
    (omega arith, refl, refl, law.no_rounds a.nodes.now a.binds.now a.m a.v c.requires.1)

pub returns-then-all_set : goal.returns-then-all_set
returns-then-all_set c =
    let a = c.args in
    let l = c.loop-round in
    grows.settled_here a.nodes.now a.m (binds_of a.binds.now a.v) _ l._round a.v
    (sym (length_binds a.binds.now a.v)) c.loop-round-test.true
    (law.one_round a.nodes.now a.binds.now a.m a.v l._round l.vars _ _ l.invariant.3 c.settle_nodes.ensures
    c.settle_vars.ensures) _ c.all_set.ensures c.if-all_set.true

pub loop-round-preserved : goal.loop-round-preserved
loop-round-preserved c =
    let a = c.args in
    let l = c.loop-round in (
      omega arith,
      c.settle_vars.auto.vars ∙ l.invariant.1,
      c.settle_nodes.auto.flags ∙ l.invariant.2,
      law.one_round a.nodes.now a.binds.now a.m a.v l._round l.vars _ _ l.invariant.3 c.settle_nodes.ensures
          c.settle_vars.ensures,
    )

pub returns : goal.returns
returns c =
    let a = c.args in
    let l = c.loop-round in
    law.rounds_over a.nodes.now a.binds.now a.m a.v l._round l.vars (omega arith) l.invariant.3 _ c.all_set-2.ensures
