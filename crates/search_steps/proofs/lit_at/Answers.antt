-- By what stands at the end. Assumes nothing.
use Rattle.resolved_sort.specs.Storage.{row_at}
use Rattle.std.proofs.Common.{◌∙◌, ap}
use Rattle.unification.specs.Nodes.{node_at}
use Rattle.infer_nodes.proofs.Apart as apart
use Rattle.infer_nodes.proofs.Passing.{pass_of}
use Rattle.search_steps.proofs.Literals as literal
use Rattle.search_steps.proofs.lit_at.Goals as goal

pub invariant_of-bindings : goal.invariant_of-bindings
invariant_of-bindings c = record { passed = pass_of _ _ _ _ c.requires.0 }

pub returns-in-Sort : goal.returns-in-Sort
returns-in-Sort c =
    let a = c.args in
    let q = apart.is_sort_lem _ _ c.from.ensures _ c.in-Sort.is in
    literal.at_row a.sorts.now a.nodes.now a.binds.now a.lengths c.requires.0 a.kind a.id.0 c.requires.1 _
    c.shallow_normalize.ensures q.0 _ (c.get.ensures ∙ ap (row_at a.sorts.now) q.1) _ c.lit_at_row.ensures

pub returns-in-Var : goal.returns-in-Var
returns-in-Var c =
    let a = c.args in
    let n = apart.is_node _ _ c.from.ensures _ c.in-Node.is in
    literal.free_at_variable a.sorts.now a.nodes.now a.binds.now a.lengths c.requires.0 a.kind a.id.0 c.requires.1 _
    c.shallow_normalize.ensures n.0 _ (c.node.ensures ∙ ap (node_at a.nodes.now) n.1) _ c.in-Var.is

pub returns-in_default : goal.returns-in_default
returns-in_default c =
    let a = c.args in
    let n = apart.is_node _ _ c.from.ensures _ c.in-Node.is in
    literal.other_at_node a.sorts.now a.nodes.now a.binds.now a.lengths c.requires.0 a.kind a.id.0 c.requires.1 _
    c.shallow_normalize.ensures n.0 _ (c.node.ensures ∙ ap (node_at a.nodes.now) n.1) c.in_default.not-Var
