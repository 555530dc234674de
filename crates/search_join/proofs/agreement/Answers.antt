-- Each return by a law of Agreeing. Assumes nothing.
use Rattle.std.proofs.Common.{refl, ap, ◌∙◌, sym, arith}
use Rattle.std.proofs.lemmas.Option.{MatchOption-at_none}
use Rattle.std.specs.Prelude.{Ok}
use Rattle.resolved_sort.proofs.SortNumbers.{length_sort_numbers}
use Rattle.unification.specs.Inner.Making.{lent}
use Rattle.search_state.specs.Inner.Solving.{Stays}
use Rattle.search_state.proofs.Solving.{no_room, not_some}
use Rattle.search_join.proofs.Agreeing as law
use Rattle.search_join.proofs.agreement.Goals as goal

pub returns-in_default-clause-agrees : goal.returns-in_default-clause-agrees
returns-in_default-clause-agrees c = (
  law.nothing_agrees _ _ _ _ _ _ (law.none_listed c.args.ids.now (MatchOption-at_none _ _ c.in_default.is c.split_first.ensures.cases)),
  refl,
  refl,
)

pub join_all-requires-clause-resolved : goal.join_all-requires-clause-resolved
join_all-requires-clause-resolved c =
    law.all_asked _ _ _ _ _ (law.first_listed c.args.ids.now _ _ c.in-Some.ensures.cases.0) c.args.search.now.scratch.now c.args.at 0 c.requires.resolved.0

pub returns-in_err-lub-clause-agrees : goal.returns-in_err-lub-clause-agrees
returns-in_err-lub-clause-agrees c =
    let k = c.join_all.ensures.joined.1 in (
      λ ns. law.of_scratch _ _ (ap (λ (x : Stays). x.scratch) k) _ _ _ _ _ _ _ (rw (no_room c.from_residual.result _ c.from_residual.ensures (record {}))
          (law.join_ends _ _ _ _ _ (law.first_listed c.args.ids.now _ _ c.in-Some.ensures.cases.0) _ _ _ c.requires.resolved.0 _ _ c.join_all.result
          c.join_all.ensures.joined.0 _ c.in_err-lub.was ns)),
      ap (λ (x : Stays). x.kept) k,
      ap (λ (x : Stays). x.nodes) k,
    )

pub returns-in_default-2-clause-agrees : goal.returns-in_default-2-clause-agrees
returns-in_default-2-clause-agrees c =
    let k = c.join_all.ensures.joined.1 in (
      λ ns. law.of_scratch _ _ (ap (λ (x : Stays). x.scratch) k) _ _ _ _ _ _ _
          (law.join_stops _ _ _ _ _ (law.first_listed c.args.ids.now _ _ c.in-Some.ensures.cases.0) _ _ _ c.requires.resolved.0 _ _ c.join_all.result
          c.join_all.ensures.joined.0 (c.in_ok-lub.was ∙ ap Ok (not_some _ c.in_default-2.not-Some)) ns),
      ap (λ (x : Stays). x.kept) k,
      ap (λ (x : Stays). x.nodes) k,
    )

pub invariant_of-sorts : goal.invariant_of-sorts
invariant_of-sorts c =
    let r = law.still_resolved _ _ _ _ _ (law.first_listed c.args.ids.now _ _ c.in-Some.ensures.cases.0) c.args.search.now.scratch.now c.args.at 0
    c.requires.resolved.0 _ _ c.join_all.result c.join_all.ensures.joined.0 _ (c.in_ok-lub.was ∙ ap Ok c.in-Some-2.is) in
    record { checked = rw c.from-counts.ensures r.0.checked }

pub all_materializable-requires : goal.all_materializable-requires
all_materializable-requires c =
    let r = law.still_resolved _ _ _ _ _ (law.first_listed c.args.ids.now _ _ c.in-Some.ensures.cases.0) c.args.search.now.scratch.now c.args.at 0
    c.requires.resolved.0 _ _ c.join_all.result c.join_all.ensures.joined.0 _ (c.in_ok-lub.was ∙ ap Ok c.in-Some-2.is) in
    rw c.from-counts.ensures (r.0.below, r.1)

pub returns-then-not-all_materializable-clause-agrees : goal.returns-then-not-all_materializable-clause-agrees
returns-then-not-all_materializable-clause-agrees c =
    let k = c.join_all.ensures.joined.1 in (
      λ ns. law.of_scratch _ _ (ap (λ (x : Stays). x.scratch) k) _ _ _ _ _ _ _
          (law.not_materializable _ _ _ _ _ (law.first_listed c.args.ids.now _ _ c.in-Some.ensures.cases.0) _ _ _ c.requires.resolved.0 _ _
          c.join_all.result c.join_all.ensures.joined.0 _ (c.in_ok-lub.was ∙ ap Ok c.in-Some-2.is) _
          (λ os. c.all_materializable.ensures (lent c.join_all.new.search.sorts.now os c.join_all.new.search.lengths) (refl, sym (ap (λ n. n.sorts) c.from-counts.ensures))) c.if-not-all_materializable.true ns),
      ap (λ (x : Stays). x.kept) k,
      ap (λ (x : Stays). x.nodes) k,
    )

pub put_heads-requires : goal.put_heads-requires
put_heads-requires c =
    let r = law.still_resolved _ _ _ _ _ (law.first_listed c.args.ids.now _ _ c.in-Some.ensures.cases.0) c.args.search.now.scratch.now c.args.at 0
    c.requires.resolved.0 _ _ c.join_all.result c.join_all.ensures.joined.0 _ (c.in_ok-lub.was ∙ ap Ok c.in-Some-2.is) in
    (rw c.from-counts.ensures r.0.below, rw c.from-counts.ensures r.1, omega (arith, c.requires.resolved.1))

pub returns-clause-agrees : goal.returns-clause-agrees
returns-clause-agrees c =
    let k = c.join_all.ensures.joined.1 in (
      λ ns. law.they_agree _ _ _ _ _ (law.first_listed c.args.ids.now _ _ c.in-Some.ensures.cases.0) _ _ _ c.requires.resolved.0 _ _
          c.join_all.result c.join_all.ensures.joined.0 _ (c.in_ok-lub.was ∙ ap Ok c.in-Some-2.is) _
          (λ os. c.all_materializable.ensures (lent c.join_all.new.search.sorts.now os c.join_all.new.search.lengths) (refl, sym (ap (λ n. n.sorts) c.from-counts.ensures))) c.if-not-all_materializable.false
          (length_sort_numbers c.args.ids.now) (c.args.search.now.room, c.requires.resolved.1) _
          (rw (ap (λ (x : Stays). x.scratch) k, c.from-counts.ensures) at c.put_heads.ensures) ns,
      ap (λ (x : Stays). x.kept) k,
      ap (λ (x : Stays). x.nodes) k,
    )
