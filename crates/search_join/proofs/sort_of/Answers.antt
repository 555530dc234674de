-- By the law of its answer. Assumes nothing.
use Rattle.std.proofs.Common.{rules, refl}
use Rattle.std.specs.Prelude.{Ok}
use Rattle.search_state.proofs.Solving.{no_room}
use Rattle.search_join.proofs.Answers as law
use Rattle.search_join.proofs.sort_of.Goals as goal

pub returns-in_err-sort-clause-resolved : goal.returns-in_err-sort-clause-resolved
returns-in_err-sort-clause-resolved c = (
  law.made_moved c.sort_over-sort.new.words _ (search rules) _ _ _ _ (rw (no_room c.from_residual.result _ c.from_residual.ensures (record {}))
      (law.sort_ends _ _ _ _ c.from-counts.ensures _ _ _ _ _ _ c.sort_over-sort.ensures.resolved _ c.in_err-sort.was _)),
  refl,
)

pub returns-clause-resolved : goal.returns-clause-resolved
returns-clause-resolved c = (
  law.made_moved c.sort_over-sort.new.words _ (search rules) _ _ (Ok c.in_ok-sort.sort) _
      (law.sort_found _ _ _ _ c.from-counts.ensures _ _ _ _ _ _ c.sort_over-sort.ensures.resolved _ c.in_ok-sort.was _ c.with_counts-search.ensures),
  refl,
)
