-- By what stands at the place. Assumes nothing.
use Rattle.std.proofs.Common.{◌<◌, ℕ, refl, sym, subst, ◌∙◌}
use Rattle.resolved_sort.specs.Storage.{max_sorts}
use Rattle.unification.specs.Checked.{Placed}
use Rattle.infer_nodes.proofs.Apart as apart
use Rattle.related_sorts.specs.Arena.{world}
use Rattle.related_sorts.proofs.Laws as laws
use Rattle.related_sorts.proofs.Ends as law
use Rattle.related_sorts.proofs.Arena.related_head.Goals as goal

pub related_sort-requires-clause-fine : goal.related_sort-requires-clause-fine
related_sort-requires-clause-fine c = let s = apart.is_sort_lem _ _ c.in-Sort.ensures _ refl in (
  c.requires.fine.0,
  subst (λ (p : ℕ). Placed c.args.self.now.lengths p) (sym s.1) c.requires.fine.1,
  subst (λ (p : ℕ). p < max_sorts) (sym s.1) s.0,
)

pub returns-in_err-push_generic-in-Generic-clause-lists : goal.returns-in_err-push_generic-in-Generic-clause-lists
returns-in_err-push_generic-in-Generic-clause-lists c =
    laws.listed_err _ _ _ (laws.same_err _ _ c.from_residual.ensures)
    (laws.some_as _ _ _ c.in_err-push_generic-in-Generic.was c.push_generic.ensures.lists ∙ law.node_container_related c.args.self.now.sorts.now c.args.self.now.nodes.now c.args.self.now.lengths c.requires.fine.0 c.args.up c.args.id.0 c.requires.fine.1 _ c.in-Node.ensures c.node.ensures _ _ c.in-Generic.is)

pub returns-in-Sort-clause-lists : goal.returns-in-Sort-clause-lists
returns-in-Sort-clause-lists c = let s = apart.is_sort_lem _ _ c.in-Sort.ensures _ refl in
    law.head_of_the_same (world c.args.self.now) c.args.up _ _ s.1 c.related_sort.ensures.lists

pub returns-in_ok-push_generic-in-Generic-clause-lists : goal.returns-in_ok-push_generic-in-Generic-clause-lists
returns-in_ok-push_generic-in-Generic-clause-lists c =
    laws.some_as _ _ _ c.in_ok-push_generic-in-Generic.was c.push_generic.ensures.lists ∙ law.node_container_related c.args.self.now.sorts.now c.args.self.now.nodes.now c.args.self.now.lengths c.requires.fine.0 c.args.up c.args.id.0 c.requires.fine.1 _ c.in-Node.ensures c.node.ensures _ _ c.in-Generic.is

pub returns-in-Function-clause-lists : goal.returns-in-Function-clause-lists
returns-in-Function-clause-lists c =
    law.function_node_passed c.args.self.now.sorts.now c.args.self.now.nodes.now c.args.self.now.lengths c.requires.fine.0 c.args.up c.args.id.0 c.requires.fine.1 _ c.in-Node.ensures c.node.ensures _ _ c.in-Function.is

pub returns-in-Var-clause-lists : goal.returns-in-Var-clause-lists
returns-in-Var-clause-lists c =
    law.variable_has_no_list c.args.self.now.sorts.now c.args.self.now.nodes.now c.args.self.now.lengths c.requires.fine.0 c.args.up c.args.id.0 c.requires.fine.1 _ c.in-Node.ensures c.node.ensures _ c.in-Var.is
