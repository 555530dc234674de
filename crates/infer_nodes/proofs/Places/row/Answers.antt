-- The row of the sort or of the node says what stands at the place. Assumes nothing.
use Rattle.std.proofs.Common.{arith, ◌*◌, ℕ, refl, sym, subst}
use Rattle.infer_nodes.specs.Inner.Parts.{SmallCount}
use Rattle.infer_nodes.proofs.Apart as apart
use Rattle.infer_nodes.proofs.Parts as law
use Rattle.infer_nodes.proofs.Places.row.Goals as goal

pub at-requires : goal.at-requires
at-requires c = let s = apart.is_sort_lem _ _ c.in-Sort.ensures _ refl in
    (omega arith, subst (λ (k : ℕ). SmallCount c.args.self.now.sorts.now (4 * k)) (sym s.1) (law.small_sort _ _ _ c.args.self.now.checked _ c.requires s.0), law.sort_inside _ _ _ c.args.self.now.checked _ c.requires s.0 _ s.1)

pub at-requires-in-Node : goal.at-requires-in-Node
at-requires-in-Node c = let n = apart.is_node _ _ c.in-Node.ensures _ refl in
    (omega arith, subst (λ (k : ℕ). SmallCount c.args.self.now.nodes.now (4 * k)) (sym n.1) (law.small_node _ _ _ c.args.self.now.checked _ c.requires n.0), law.node_inside _ _ _ c.args.self.now.checked _ c.requires n.0 _ n.1)

pub returns-in-Sort : goal.returns-in-Sort
returns-in-Sort c = let s = apart.is_sort_lem _ _ c.in-Sort.ensures _ refl in
    law.row_of_sort _ _ _ c.args.self.now.checked _ c.requires s.0 _ s.1 _ _ _ _ _ _ c.at.ensures

pub returns-in-Node : goal.returns-in-Node
returns-in-Node c = let n = apart.is_node _ _ c.in-Node.ensures _ refl in
    law.row_of_node _ _ _ c.args.self.now.checked _ c.requires n.0 _ n.1 _ _ _ _ _ _ c.at-in-Node.ensures
