-- Each answer is a law of Resolving. Assumes nothing.
use Rattle.std.proofs.Common.{true, false, ap, ◌∙◌, arith}
use Rattle.std.specs.Prelude.{Ok}
use Rattle.resolved_sort.specs.Inner.Storage.{sort_numbers}
use Rattle.resolved_sort.proofs.SortNumbers.{length_sort_numbers, set_sort_numbers}
use Rattle.search_state.specs.Inner.Solving.{Stays}
use Rattle.search_state.proofs.Solving.{no_room, not_some}
use Rattle.search_join.proofs.Resolving as law
use Rattle.search_join.proofs.resolve_sources.Goals as goal

pub sort_of-requires-clause-ready : goal.sort_of-requires-clause-ready
sort_of-requires-clause-ready c =
    let r = law.source_ready _ _ _ _ _ _ _ _ _ _ _ _ c.loop-i.invariant.0 c.loop-i-test.true _ c.source_at-source.ensures in (r.0, tt, r.1)

pub returns-in_err-sort-clause-resolved : goal.returns-in_err-sort-clause-resolved
returns-in_err-sort-clause-resolved c =
    let k = c.loop-i.invariant.1 in (
      law.as_entered _ _ _ _ _ _ (ap (λ (x : Stays). x.nodes) k) (ap (λ (x : Stays). x.kept.binds) k) (ap (λ (x : Stays). x.kept.given.lists) k)
          _ _ _ _ _ _ _ _ (rw (no_room c.from_residual.result _ c.from_residual.ensures (record {}))
          (law.ends _ _ _ _ _ _ _ _ _ _ _ _ c.loop-i.invariant.0 c.loop-i-test.true _ c.source_at-source.ensures _ _
          c.sort_of.result c.sort_of.ensures.resolved.0 _ c.in_err-sort.was)),
      c.sort_of.ensures.resolved.1 ∙ k,
    )

pub returns-in_default-clause-resolved : goal.returns-in_default-clause-resolved
returns-in_default-clause-resolved c =
    let k = c.loop-i.invariant.1 in (
      law.as_entered _ _ _ _ _ _ (ap (λ (x : Stays). x.nodes) k) (ap (λ (x : Stays). x.kept.binds) k) (ap (λ (x : Stays). x.kept.given.lists) k)
          _ _ _ _ c.sort_of.new.search.sorts.now (sort_numbers c.loop-i.ids) c.sort_of.new.search.lengths (Ok false)
          (law.stops _ _ _ _ _ _ _ _ _ _ _ _ c.loop-i.invariant.0 c.loop-i-test.true _ c.source_at-source.ensures _ _
          c.sort_of.result c.sort_of.ensures.resolved.0 (c.in_ok-sort.was ∙ ap Ok (not_some _ c.in_default.not-Some))),
      c.sort_of.ensures.resolved.1 ∙ k,
    )

pub bounds-ids-i : goal.bounds-ids-i
bounds-ids-i c =
    omega (arith, c.loop-i-test.true, c.loop-i.invariant.0.many, c.loop-i.invariant.0.entered.room, length_sort_numbers c.loop-i.ids)

pub loop-i-preserved : goal.loop-i-preserved
loop-i-preserved c =
    let k = c.sort_of.ensures.resolved.1 in (
      law.going_as _ _ _ _ _ _ (ap (λ (x : Stays). x.nodes) k) (ap (λ (x : Stays). x.kept.binds) k) (ap (λ (x : Stays). x.kept.given.lists) k)
          _ _ _ _ _ _ _ _ _
          (law.next _ _ _ _ _ _ _ _ _ _ _ _ c.loop-i.invariant.0 c.loop-i-test.true _ c.source_at-source.ensures _ _
          c.sort_of.result c.sort_of.ensures.resolved.0 _ (c.in_ok-sort.was ∙ ap Ok c.in-Some.is) _ (set_sort_numbers c.loop-i.ids c.loop-i.i c.in-Some.sort)),
      k ∙ c.loop-i.invariant.1,
      rw c.in_ok-sort.was at c.sort_of.ensures.indexed,
    )

pub returns-clause-resolved : goal.returns-clause-resolved
returns-clause-resolved c =
    let k = c.loop-i.invariant.1 in (
      law.as_entered _ _ _ _ _ _ (ap (λ (x : Stays). x.nodes) k) (ap (λ (x : Stays). x.kept.binds) k) (ap (λ (x : Stays). x.kept.given.lists) k)
          _ _ _ _ c.loop-i.search.sorts.now (sort_numbers c.loop-i.ids) c.loop-i.search.lengths (Ok true) (law.all_made _ _ _ _ _ _ _ _ _ _ _ _ c.loop-i.invariant.0 c.loop-i-test.false),
      k,
    )
