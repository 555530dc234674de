-- A sort, or the flag of a node. Assumes nothing.
use Rattle.std.proofs.Common.{ap, false, get_or, ℕ, ◌∙◌}
use Rattle.infer_nodes.proofs.Apart as apart
use Rattle.node_checks.proofs.Settling as law
use Rattle.node_checks.proofs.place_settled.Goals as goal

pub returns-in-Sort : goal.returns-in-Sort
returns-in-Sort c =
    let s = apart.is_sort_lem c.args.place.0 _ c.from.ensures _ c.in-Sort.is in
    law.sort_is_settled c.args.flags.now c.args.place.0 s.0

pub returns-in-Node : goal.returns-in-Node
returns-in-Node c =
    let a = c.args in
    let n = apart.is_node a.place.0 _ c.from.ensures _ c.in-Node.is in
    law.flag_settles a.flags.now a.place.0 n.0 _ (c.flag.ensures ∙ ap (λ (k : ℕ). get_or a.flags.now k false) n.1)
