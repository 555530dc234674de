-- Each return by a law of Agreeing. Assumes nothing.
use Rattle.std.proofs.Common.{ap, ◌∙◌, arith}
use Rattle.std.specs.Prelude.{Ok}
use Rattle.resolved_sort.proofs.SortNumbers.{take_sort_numbers}
use Rattle.search_state.specs.Inner.Solving.{Stays}
use Rattle.search_state.proofs.Solving.{no_room}
use Rattle.search_join.proofs.Agreeing as law
use Rattle.search_join.proofs.agreed.Goals as goal

pub resolve_sources-requires-clause-sources : goal.resolve_sources-requires-clause-sources
resolve_sources-requires-clause-sources c = law.room_for_all _ _ _ _ _ _ _ _ c.requires.agreeing

pub returns-in_err-resolve_sources-clause-agrees : goal.returns-in_err-resolve_sources-clause-agrees
returns-in_err-resolve_sources-clause-agrees c =
    let k = c.resolve_sources.ensures.resolved.1 in (
      law.of_scratch _ _ (ap (λ (x : Stays). x.scratch) k) _ _ _ _ _ _ _ (rw (no_room c.from_residual.result _ c.from_residual.ensures (record {}))
          (law.sources_end _ _ _ _ _ _ _ _ c.requires.agreeing _ _ _ c.resolve_sources.result c.resolve_sources.ensures.resolved.0 _ c.in_err-resolve_sources.was)),
      ap (λ (x : Stays). x.kept) k,
      ap (λ (x : Stays). x.nodes) k,
    )

pub returns-then-not-branch-clause-agrees : goal.returns-then-not-branch-clause-agrees
returns-then-not-branch-clause-agrees c =
    let k = c.resolve_sources.ensures.resolved.1 in (
      law.of_scratch _ _ (ap (λ (x : Stays). x.scratch) k) _ _ _ _ _ _ _
          (law.sources_stop _ _ _ _ _ _ _ _ c.requires.agreeing _ _ _ c.resolve_sources.result c.resolve_sources.ensures.resolved.0
          (c.in_ok-resolve_sources.was ∙ ap Ok c.if-not-branch.true)),
      ap (λ (x : Stays). x.kept) k,
      ap (λ (x : Stays). x.nodes) k,
    )

pub agreement-requires-clause-resolved : goal.agreement-requires-clause-resolved
agreement-requires-clause-resolved c =
    let k = c.resolve_sources.ensures.resolved.1 in
    let r = law.resolved _ _ _ _ _ _ _ _ c.requires.agreeing _ _ _ c.resolve_sources.result c.resolve_sources.ensures.resolved.0
    (c.in_ok-resolve_sources.was ∙ ap Ok c.if-not-branch.false) _ (take_sort_numbers c.args.sources.count c.resolve_sources.new.ids) in
    (r, omega (arith, c.requires.agreeing.room, law.so_many c.args.sources.count c.resolve_sources.new.ids (omega (arith, c.requires.agreeing.inside, c.resolve_sources.auto.ids))))

pub returns-clause-agrees : goal.returns-clause-agrees
returns-clause-agrees c =
    let k = c.resolve_sources.ensures.resolved.1 in
    let a = c.agreement.ensures.agrees in (
      law.sources_agree _ _ _ _ _ _ _ _ c.requires.agreeing _ _ _ c.resolve_sources.result c.resolve_sources.ensures.resolved.0
          (c.in_ok-resolve_sources.was ∙ ap Ok c.if-not-branch.false) _ (take_sort_numbers c.args.sources.count c.resolve_sources.new.ids) _
          (law.so_many c.args.sources.count c.resolve_sources.new.ids (omega (arith, c.requires.agreeing.inside, c.resolve_sources.auto.ids))) _ _ _ _
          (λ os. rw (ap (λ (x : Stays). x.scratch) k) at (a.0 os)),
      a.1 ∙ ap (λ (x : Stays). x.kept) k,
      a.2 ∙ ap (λ (x : Stays). x.nodes) k,
    )
