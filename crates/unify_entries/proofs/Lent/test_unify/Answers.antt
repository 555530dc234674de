-- Check 1 of all lists, then the sorts, then the rest. Assumes nothing.
use Rattle.std.proofs.Common.{refl, ◌∙◌}
use Rattle.resolved_sort.proofs.Testing.{handed_on}
use Rattle.unify_entries.proofs.Laws as law
use Rattle.unify_entries.proofs.Lent.test_unify.Goals as goal

pub returns-then-not-within_lent : goal.returns-then-not-within_lent
returns-then-not-within_lent c = law.sorts_outside c.args.self.now.sorts.now c.args.self.now.sort_count c.args.self.now.entry_count c.args.self.now.nodes.now c.args.self.now.node_count c.args.self.now.node_entry_count
    c.args.self.now.binds.now c.args.self.now.var_count c.args.lhs.0 c.args.rhs.0 _ c.if-not-within_lent.ensures refl

pub returns-then-not-nodes_within_lent : goal.returns-then-not-nodes_within_lent
returns-then-not-nodes_within_lent c = law.nodes_outside c.args.self.now.sorts.now c.args.self.now.sort_count c.args.self.now.entry_count c.args.self.now.nodes.now c.args.self.now.node_count c.args.self.now.node_entry_count
    c.args.self.now.binds.now c.args.self.now.var_count c.args.lhs.0 c.args.rhs.0 _ c.if-not-within_lent.ensures refl _ c.if-not-nodes_within_lent.ensures refl

pub returns-then-not-bindings_within_lent : goal.returns-then-not-bindings_within_lent
returns-then-not-bindings_within_lent c = law.bindings_outside c.args.self.now.sorts.now c.args.self.now.sort_count c.args.self.now.entry_count c.args.self.now.nodes.now c.args.self.now.node_count c.args.self.now.node_entry_count
    c.args.self.now.binds.now c.args.self.now.var_count c.args.lhs.0 c.args.rhs.0 _ c.if-not-within_lent.ensures refl _ c.if-not-nodes_within_lent.ensures refl _ c.if-not-bindings_within_lent.ensures refl

pub test_rest-requires : goal.test_rest-requires
test_rest-requires c = law.ceilings c.args.self.now.sorts.now c.args.self.now.sort_count c.args.self.now.entry_count c.args.self.now.nodes.now c.args.self.now.node_count c.args.self.now.node_entry_count
    c.args.self.now.binds.now c.args.self.now.var_count c.args.lhs.0 c.args.rhs.0 _ c.if-not-within_lent.ensures refl _ c.if-not-nodes_within_lent.ensures refl _ c.if-not-bindings_within_lent.ensures refl

pub returns-in_err-test_sorts : goal.returns-in_err-test_sorts
returns-in_err-test_sorts c = handed_on _ _ c.from_residual.ensures.1 ∙ law.sorts_refused c.args.self.now.sorts.now c.args.self.now.sort_count c.args.self.now.entry_count c.args.self.now.nodes.now c.args.self.now.node_count c.args.self.now.node_entry_count
    c.args.self.now.binds.now c.args.self.now.var_count c.args.lhs.0 c.args.rhs.0 _ c.if-not-within_lent.ensures refl _ c.if-not-nodes_within_lent.ensures refl _ c.if-not-bindings_within_lent.ensures refl _ c.in_err-test_sorts.ensures _ refl

pub returns : goal.returns
returns c = law.rest_decides c.args.self.now.sorts.now c.args.self.now.sort_count c.args.self.now.entry_count c.args.self.now.nodes.now c.args.self.now.node_count c.args.self.now.node_entry_count
    c.args.self.now.binds.now c.args.self.now.var_count c.args.lhs.0 c.args.rhs.0 _ c.if-not-within_lent.ensures refl _ c.if-not-nodes_within_lent.ensures refl _ c.if-not-bindings_within_lent.ensures refl _ c.in_ok-test_sorts.ensures refl _ c.test_rest.ensures
