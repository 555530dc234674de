-- Refused with the first failing check; else the question is asked of checked lists. Assumes nothing.
use Rattle.std.proofs.Common.{arith, refl, ap, ◌∙◌}
use Rattle.resolved_sort.proofs.Testing.{handed_on}
use Rattle.unification.specs.UnifyEntry.{binds_left}
use Rattle.unify_entries.proofs.Laws as law
use Rattle.unify_entries.proofs.unify.Goals as goal

pub overflow_cast-lengths : goal.overflow_cast-lengths
overflow_cast-lengths c = omega (
  arith,
  (law.sort_counts c.args.sorts.now c.args.sort_count c.args.entry_count c.args.nodes.now c.args.node_count c.args.node_entry_count
      c.args.binds.now c.args.var_count c.args.lhs.0 c.args.rhs.0 c.in_ok-test_unify.ensures).0,
)

pub overflow_cast-lengths-2 : goal.overflow_cast-lengths-2
overflow_cast-lengths-2 c = omega (
  arith,
  (law.sort_counts c.args.sorts.now c.args.sort_count c.args.entry_count c.args.nodes.now c.args.node_count c.args.node_entry_count
      c.args.binds.now c.args.var_count c.args.lhs.0 c.args.rhs.0 c.in_ok-test_unify.ensures).1,
)

pub overflow_cast-lengths-3 : goal.overflow_cast-lengths-3
overflow_cast-lengths-3 c = omega (
  arith,
  (law.node_counts c.args.sorts.now c.args.sort_count c.args.entry_count c.args.nodes.now c.args.node_count c.args.node_entry_count
      c.args.binds.now c.args.var_count c.args.lhs.0 c.args.rhs.0 c.in_ok-test_unify.ensures).0,
)

pub overflow_cast-lengths-4 : goal.overflow_cast-lengths-4
overflow_cast-lengths-4 c = omega (
  arith,
  (law.node_counts c.args.sorts.now c.args.sort_count c.args.entry_count c.args.nodes.now c.args.node_count c.args.node_entry_count
      c.args.binds.now c.args.var_count c.args.lhs.0 c.args.rhs.0 c.in_ok-test_unify.ensures).1,
)

pub overflow_cast-lengths-5 : goal.overflow_cast-lengths-5
overflow_cast-lengths-5 c = omega (
  arith,
  (law.var_counts c.args.sorts.now c.args.sort_count c.args.entry_count c.args.nodes.now c.args.node_count c.args.node_entry_count
      c.args.binds.now c.args.var_count c.args.lhs.0 c.args.rhs.0 c.in_ok-test_unify.ensures).0,
)

pub invariant_of-places : goal.invariant_of-places
invariant_of-places c = record {
  checked = (law.ready c.args.sorts.now c.args.sort_count c.args.entry_count c.args.nodes.now c.args.node_count c.args.node_entry_count
      c.args.binds.now c.args.var_count c.args.lhs.0 c.args.rhs.0
      c.in_ok-test_unify.ensures).nodes;
}

pub unify_alone-requires : goal.unify_alone-requires
unify_alone-requires c = (
  law.ready c.args.sorts.now c.args.sort_count c.args.entry_count c.args.nodes.now c.args.node_count c.args.node_entry_count
      c.args.binds.now c.args.var_count c.args.lhs.0 c.args.rhs.0 c.in_ok-test_unify.ensures,
  law.lhs_placed c.args.sorts.now c.args.sort_count c.args.entry_count c.args.nodes.now c.args.node_count c.args.node_entry_count
      c.args.binds.now c.args.var_count c.args.lhs.0 c.args.rhs.0 c.in_ok-test_unify.ensures,
  law.rhs_placed c.args.sorts.now c.args.sort_count c.args.entry_count c.args.nodes.now c.args.node_count c.args.node_entry_count
      c.args.binds.now c.args.var_count c.args.lhs.0 c.args.rhs.0 c.in_ok-test_unify.ensures,
)

pub returns-in_err-test_unify : goal.returns-in_err-test_unify
returns-in_err-test_unify c = ap (binds_left c.args.binds.now) (handed_on _ _ c.from_residual.ensures.1) ∙ law.refused c.args.sorts.now c.args.sort_count c.args.entry_count c.args.nodes.now c.args.node_count c.args.node_entry_count
    c.args.binds.now c.args.var_count c.args.lhs.0 c.args.rhs.0 _ c.in_err-test_unify.ensures _ refl

pub returns : goal.returns
returns c = law.answered c.args.sorts.now c.args.sort_count c.args.entry_count c.args.nodes.now c.args.node_count c.args.node_entry_count
    c.args.binds.now c.args.var_count c.args.lhs.0 c.args.rhs.0 _ c.in_ok-test_unify.ensures refl _ _ c.unify_alone.ensures
