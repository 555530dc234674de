-- Refused with the first failing check; else the question is asked of a checked list. Assumes nothing.
use Rattle.std.proofs.Common.{◌∙◌, true}
use Rattle.resolved_sort.specs.Entries.{measured, tree_at}
use Rattle.resolved_sort.specs.Order.{distance, steps_of}
use Rattle.resolved_sort.proofs.Testing.{handed_on}
use Rattle.sort_entries.proofs.Laws as law
use Rattle.sort_entries.proofs.widening_distance.Goals as goal

pub returns-in_err-sorts : goal.returns-in_err-sorts
unfolding measured
returns-in_err-sorts c =
    handed_on _ _ c.from_residual.ensures.1 ∙ law.refused_with _ _ _ _ _ _ _ c.in_err-sorts.ensures

pub widening_distance-requires : goal.widening_distance-requires
widening_distance-requires c = let k = law.asked _ _ _ _ _ _ c.in_ok-sorts.ensures.1 in (k.lhs, k.rhs)

pub returns : goal.returns
unfolding measured
returns c =
    let a = c.args in
    law.answered _ _ _ _ _ _ c.in_ok-sorts.ensures.1 (λ ws n. steps_of (distance true (tree_at ws n a.from.0) (tree_at ws n a.to.0))) c.in_ok-sorts.ensures.0 _ c.widening_distance.ensures
