-- A sort, or a node. Assumes nothing.
use Rattle.std.proofs.Common.{ap, ltb, ℕ, ◌∙◌}
use Rattle.infer_nodes.proofs.Apart as apart
use Rattle.node_checks.proofs.Laws as law
use Rattle.node_checks.proofs.is_place.Goals as goal

pub returns-in-Sort : goal.returns-in-Sort
returns-in-Sort c =
    let a = c.args in
    let s = apart.is_sort_lem a.p.0 _ c.from.ensures _ c.in-Sort.is in
    ap (λ (k : ℕ). ltb k a.n) s.1 ∙ law.sort_place a.n a.m a.p.0 s.0

pub returns-in-Node : goal.returns-in-Node
returns-in-Node c =
    let a = c.args in
    let n = apart.is_node a.p.0 _ c.from.ensures _ c.in-Node.is in
    ap (λ (k : ℕ). ltb k a.m) n.1 ∙ law.node_place a.n a.m a.p.0 n.0
