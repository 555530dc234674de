-- Refused with the first failing check; else the question is asked of a checked list. Assumes nothing.
use Rattle.std.proofs.Common.{◌∙◌}
use Rattle.resolved_sort.specs.Entries.{materialized, tree_at}
use Rattle.resolved_sort.specs.Order.{materializable}
use Rattle.resolved_sort.proofs.Testing.{handed_on}
use Rattle.sort_entries.proofs.Laws as law
use Rattle.sort_entries.proofs.is_materializable.Goals as goal

pub returns-in_err-sorts : goal.returns-in_err-sorts
unfolding materialized
returns-in_err-sorts c =
    handed_on _ _ c.from_residual.ensures.1 ∙ law.refused_with _ _ _ _ _ _ _ c.in_err-sorts.ensures

pub is_materializable-requires : goal.is_materializable-requires
is_materializable-requires c = let k = law.asked _ _ _ _ _ _ c.in_ok-sorts.ensures.1 in (k.lhs, k.rhs)

pub returns : goal.returns
unfolding materialized
returns c =
    let a = c.args in
    law.answered _ _ _ _ _ _ c.in_ok-sorts.ensures.1 (λ ws n. materializable (tree_at ws n a.from.0) (tree_at ws n a.to.0)) c.in_ok-sorts.ensures.0 _ c.is_materializable.ensures
