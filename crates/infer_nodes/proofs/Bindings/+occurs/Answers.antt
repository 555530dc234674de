-- At its end a place is the variable, another variable, or a head whose parts are asked: from the left, and the first yes ends it. Assumes nothing.
use Rattle.std.proofs.Common.{arith, refl, sym, ap, ◌∙◌}
use Rattle.unification.specs.Unify.{of_test}
use Rattle.infer_nodes.proofs.Apart as apart
use Rattle.infer_nodes.proofs.Passing.{ready_of}
use Rattle.infer_nodes.proofs.Ways as law
use Rattle.infer_nodes.proofs.Bindings.+occurs.Goals as goal

pub occurs-requires : goal.occurs-requires
occurs-requires t c = (
  omega (
    arith,
    c.decreases,
    law.subsort_lower _ _ _ _ (ready_of _ _ _ _ c.args.self.now.passed) c.args.var.0 _ _ c.requires c.shallow_normalize.ensures
        _ c.in-Node.ensures c.node.ensures _ _ c.in-Generic.is,
  ),
  law.subsort_placed _ _ _ _ (ready_of _ _ _ _ c.args.self.now.passed) c.args.var.0 _ _ c.requires c.shallow_normalize.ensures
      _ c.in-Node.ensures c.node.ensures _ _ c.in-Generic.is,
)

pub loop-i-init : goal.loop-i-init
loop-i-init t c = law.search_begins _ _ _ _ (ready_of _ _ _ _ c.args.self.now.passed) _ _ (law.run_placed _ _ _ _ (ready_of _ _ _ _ c.args.self.now.passed) c.args.var.0 _ _ c.requires c.shallow_normalize.ensures
    _ c.in-Node.ensures c.node.ensures _ _ c.in-Function.is) c.args.var.0

pub occurs-requires-in-loop-i : goal.occurs-requires-in-loop-i
occurs-requires-in-loop-i t c = (
  omega (
    arith,
    c.decreases,
    law.one_lower _ _ _ _ (ready_of _ _ _ _ c.args.self.now.passed) _ _ _ _ c.loop-i.invariant c.loop-i-test.true _ c.argument-argument.ensures,
    law.run_lower _ _ _ _ (ready_of _ _ _ _ c.args.self.now.passed) c.args.var.0 _ _ c.requires c.shallow_normalize.ensures
        _ c.in-Node.ensures c.node.ensures _ _ c.in-Function.is,
  ),
  law.one_placed _ _ _ _ (ready_of _ _ _ _ c.args.self.now.passed) _ _ _ _ c.loop-i.invariant c.loop-i-test.true _ c.argument-argument.ensures,
)

pub returns-then-occurs : goal.returns-then-occurs
returns-then-occurs t c = law.occurs_in_domain _ _ _ _ (ready_of _ _ _ _ c.args.self.now.passed) c.args.var.0 _ _ c.requires c.shallow_normalize.ensures
    _ c.in-Node.ensures c.node.ensures _ _ c.in-Function.is
    _ (law.in_one _ _ _ _ (ready_of _ _ _ _ c.args.self.now.passed) _ _ _ _ c.loop-i.invariant c.loop-i-test.true _ c.argument-argument.ensures c.occurs-in-loop-i.result c.occurs-in-loop-i.ensures c.if-occurs.true) refl

pub loop-i-preserved : goal.loop-i-preserved
loop-i-preserved t c = law.search_goes_on _ _ _ _ (ready_of _ _ _ _ c.args.self.now.passed) _ _ _ _ c.loop-i.invariant c.loop-i-test.true _ c.argument-argument.ensures c.occurs-in-loop-i.result c.occurs-in-loop-i.ensures c.if-occurs.false

pub occurs-requires-in-Function : goal.occurs-requires-in-Function
occurs-requires-in-Function t c = (
  omega (
    arith,
    c.decreases,
    law.range_lower _ _ _ _ (ready_of _ _ _ _ c.args.self.now.passed) c.args.var.0 _ _ c.requires c.shallow_normalize.ensures
        _ c.in-Node.ensures c.node.ensures _ _ c.in-Function.is,
  ),
  law.range_placed _ _ _ _ (ready_of _ _ _ _ c.args.self.now.passed) c.args.var.0 _ _ c.requires c.shallow_normalize.ensures
      _ c.in-Node.ensures c.node.ensures _ _ c.in-Function.is,
)

pub returns-in-Sort : goal.returns-in-Sort
returns-in-Sort t c = let s = apart.is_sort_lem _ _ c.in-Sort.ensures _ refl in
    law.occurs_in_sort _ _ _ _ (ready_of _ _ _ _ c.args.self.now.passed) c.args.var.0 _ _ c.requires c.shallow_normalize.ensures s.0

pub returns-in-Generic : goal.returns-in-Generic
returns-in-Generic t c = law.occurs_in_subsort _ _ _ _ (ready_of _ _ _ _ c.args.self.now.passed) c.args.var.0 _ _ c.requires c.shallow_normalize.ensures
    _ c.in-Node.ensures c.node.ensures _ _ c.in-Generic.is c.occurs.result c.occurs.ensures

pub returns-after-loop-i : goal.returns-after-loop-i
returns-after-loop-i t c = law.occurs_in_range _ _ _ _ (ready_of _ _ _ _ c.args.self.now.passed) c.args.var.0 _ _ c.requires c.shallow_normalize.ensures
    _ c.in-Node.ensures c.node.ensures _ _ c.in-Function.is
    _ c.occurs-in-Function.result (law.none_in_run _ _ _ _ (ready_of _ _ _ _ c.args.self.now.passed) _ _ _ _ c.loop-i.invariant c.loop-i-test.false) refl c.occurs-in-Function.ensures

pub returns-in-Var : goal.returns-in-Var
returns-in-Var t c = law.occurs_at_variable _ _ _ _ (ready_of _ _ _ _ c.args.self.now.passed) c.args.var.0 _ _ c.requires c.shallow_normalize.ensures
    _ c.in-Node.ensures c.node.ensures _ c.in-Var.is ∙ ap of_test (sym c.eq.ensures)
