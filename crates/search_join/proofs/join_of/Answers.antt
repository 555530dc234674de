-- By the law of its answer, whatever the nodes are. Assumes nothing.
use Rattle.std.proofs.Common.{rules, refl}
use Rattle.std.specs.Prelude.{Ok}
use Rattle.search_state.proofs.Solving.{no_room}
use Rattle.search_join.proofs.Answers as law
use Rattle.search_join.proofs.join_of.Goals as goal

pub returns-in_err-sort-clause-joined : goal.returns-in_err-sort-clause-joined
returns-in_err-sort-clause-joined c = (
  λ ns. law.made_moved c.join_over-sort.new.words _ (search rules) _ _ _ _ (rw (no_room c.from_residual.result _ c.from_residual.ensures (record {}))
      (law.join_ends _ ns _ _ c.from-counts.ensures _ _ _ _ _ c.join_over-sort.ensures.left _ c.in_err-sort.was _)),
  refl,
)

pub returns-clause-joined : goal.returns-clause-joined
returns-clause-joined c = (
  λ ns. law.made_moved c.join_over-sort.new.words _ (search rules) _ _ (Ok c.in_ok-sort.sort) _
      (law.join_found _ ns _ _ c.from-counts.ensures _ _ _ _ _ c.join_over-sort.ensures.left _ c.in_ok-sort.was _ c.with_counts-search.ensures),
  refl,
)
