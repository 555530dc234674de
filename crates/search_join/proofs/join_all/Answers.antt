-- Each answer is a law of Joining. Assumes nothing.
use Rattle.std.proofs.Common.{refl, ap, ◌∙◌, arith}
use Rattle.std.specs.Prelude.{Ok}
use Rattle.resolved_sort.proofs.SortNumbers.{length_sort_numbers, get_d_sort_numbers}
use Rattle.search_state.proofs.Solving.{no_room, not_some}
use Rattle.search_join.proofs.Joining as law
use Rattle.search_join.proofs.Lists.{inside}
use Rattle.search_join.proofs.join_all.Goals as goal

pub loop-id-init : goal.loop-id-init
loop-id-init c = (law.start _ _ _ _ c.requires.resolved, refl, c.requires.indexed)

pub join_of-requires-clause-asked : goal.join_of-requires-clause-asked
join_of-requires-clause-asked c =
    law.asked _ _ _ _ _ _ _ _ c.loop-id.invariant.0 (inside c.args.rest.now c.loop-id-test.true) _ (get_d_sort_numbers c.args.rest.now c.loop-id.id-index)

pub returns-in_err-joined-clause-joined : goal.returns-in_err-joined-clause-joined
returns-in_err-joined-clause-joined c = (
  λ ns. rw (no_room c.from_residual.result _ c.from_residual.ensures (record {}))
      (law.ends _ _ _ _ _ _ _ _ c.loop-id.invariant.0 (inside c.args.rest.now c.loop-id-test.true) _ (get_d_sort_numbers c.args.rest.now c.loop-id.id-index) _ _
      c.join_of.result c.join_of.ensures.joined.0 _ c.in_err-joined.was ns),
  c.join_of.ensures.joined.1 ∙ c.loop-id.invariant.1,
)

pub returns-in_default-clause-joined : goal.returns-in_default-clause-joined
returns-in_default-clause-joined c = (
  law.stops _ _ _ _ _ _ _ _ c.loop-id.invariant.0 (inside c.args.rest.now c.loop-id-test.true) _ (get_d_sort_numbers c.args.rest.now c.loop-id.id-index) _ _
      c.join_of.result c.join_of.ensures.joined.0 (c.in_ok-joined.was ∙ ap Ok (not_some _ c.in_default.not-Some)),
  c.join_of.ensures.joined.1 ∙ c.loop-id.invariant.1,
)

pub loop-id-preserved : goal.loop-id-preserved
loop-id-preserved c = (
  law.next _ _ _ _ _ _ _ _ c.loop-id.invariant.0 (inside c.args.rest.now c.loop-id-test.true) _ (get_d_sort_numbers c.args.rest.now c.loop-id.id-index) _ _
      c.join_of.result c.join_of.ensures.joined.0 _ (c.in_ok-joined.was ∙ ap Ok c.in-Some.is),
  c.join_of.ensures.joined.1 ∙ c.loop-id.invariant.1,
  rw c.in_ok-joined.was at c.join_of.ensures.indexed,
)

pub returns-clause-joined : goal.returns-clause-joined
returns-clause-joined c = (
  law.all_joined _ _ _ _ _ _ _ _ c.loop-id.invariant.0 (omega (arith, c.loop-id-test.false, length_sort_numbers c.args.rest.now)) _ refl,
  c.loop-id.invariant.1,
)
