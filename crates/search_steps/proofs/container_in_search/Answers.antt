-- By what interning answers. Assumes nothing.
use Rattle.std.proofs.Common.{rules, refl}
use Rattle.search_steps.proofs.Laws as law
use Rattle.search_steps.specs.Inner.Steps.{InternsContainer}
use Rattle.search_steps.proofs.container_in_search.Goals as goal

pub returns-in_err-id-clause-interned : goal.returns-in_err-id-clause-interned
returns-in_err-id-clause-interned c =
    let a = c.args in
    let k = a.search.now.lengths in
    let w = c.generic_over-id.new.words in (
      law.container_moved w _ (search rules) a.op a.element.0 a.search.now.sorts.now k k c.from_residual.result
          (law.any_error c.from_residual.result _ c.from_residual.ensures (InternsContainer a.op a.element.0 a.search.now.sorts.now k w k)
          (law.no_room_for_container a.op a.element.0 a.search.now.sorts.now k _ c.from-counts.ensures _ _ c.generic_over-id.result.0
          c.generic_over-id.ensures.interned c.requires.fine.0 _ c.in_err-id.was)),
      refl,
    )

pub returns-clause-interned : goal.returns-clause-interned
returns-clause-interned c =
    let a = c.args in
    let k = a.search.now.lengths in (
      law.container_moved c.generic_over-id.new.words _ (search rules) a.op a.element.0 a.search.now.sorts.now k _ _
          (law.container_found a.op a.element.0 a.search.now.sorts.now k _ c.from-counts.ensures _ _ c.generic_over-id.result.0
          c.generic_over-id.ensures.interned _ c.in_ok-id.was _ c.with_counts-search.ensures),
      refl,
    )
