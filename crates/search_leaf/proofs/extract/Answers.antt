-- Each step and each end of the loop by the laws of reading out. Assumes nothing.
use Rattle.std.proofs.Common.{ap, ◌∙◌}
use Rattle.std.specs.Prelude.{Ok}
use Rattle.search_state.specs.Inner.Solving.{Kept, Stays}
use Rattle.search_state.proofs.Solving.{no_room, not_some}
use Rattle.search_leaf.proofs.Readings as law
use Rattle.search_leaf.proofs.extract.Goals as goal

pub sort_of-requires-clause-ready : goal.sort_of-requires-clause-ready
sort_of-requires-clause-ready c =
    law.asked _ _ _ _ _ _ _ _ _ _ _ _ c.loop-i.invariant.0 c.loop-i-test.true _ c.word.ensures

pub returns-in_err-id-clause-extracts : goal.returns-in_err-id-clause-extracts
returns-in_err-id-clause-extracts c =
    let k = c.loop-i.invariant.1 in
    let o = c.sort_of.ensures.resolved.1 in (
      law.of_scratch _ _ (ap (λ (x : Stays). x.scratch) o) _ _ _ _ _ _ _ _
          (law.as_entered _ _ _ _ _ _ c.loop-i.invariant.2 (ap (λ (x : Kept). x.binds) k) (ap (λ (x : Kept). x.given.lists) k)
          _ _ _ _ _ _ _ _ _ (rw (no_room c.from_residual.result _ c.from_residual.ensures (record {}))
          (law.ends _ _ _ _ _ _ _ _ _ _ _ _ c.loop-i.invariant.0 c.loop-i-test.true _ c.word.ensures
          _ _ c.sort_of.result c.sort_of.ensures.resolved.0 _ c.in_err-id.was))),
      ap (λ (x : Stays). x.kept) o ∙ k,
      ap (λ (x : Stays). x.nodes) o ∙ c.loop-i.invariant.2,
    )

pub returns-in_default-clause-extracts : goal.returns-in_default-clause-extracts
returns-in_default-clause-extracts c =
    let k = c.loop-i.invariant.1 in
    let o = c.sort_of.ensures.resolved.1 in (
      law.of_scratch _ _ (ap (λ (x : Stays). x.scratch) o) _ _ _ _ _ _ _ _
          (law.as_entered _ _ _ _ _ _ c.loop-i.invariant.2 (ap (λ (x : Kept). x.binds) k) (ap (λ (x : Kept). x.given.lists) k)
          _ _ _ _ _ _ _ _ _
          (law.stops _ _ _ _ _ _ _ _ _ _ _ _ c.loop-i.invariant.0 c.loop-i-test.true _ c.word.ensures
          _ _ c.sort_of.result c.sort_of.ensures.resolved.0 (c.in_ok-id.was ∙ ap Ok (not_some _ c.in_default.not-Some)))),
      ap (λ (x : Stays). x.kept) o ∙ k,
      ap (λ (x : Stays). x.nodes) o ∙ c.loop-i.invariant.2,
    )

pub loop-i-preserved : goal.loop-i-preserved
loop-i-preserved c =
    let o = c.sort_of.ensures.resolved.1 in (
      law.going_as _ _ _ _ _ _ (ap (λ (x : Stays). x.nodes) o) (ap (λ (x : Stays). x.kept.binds) o) (ap (λ (x : Stays). x.kept.given.lists) o)
          _ _ _ _ _ _ _ _ _
          (law.next _ _ _ _ _ _ _ _ _ _ _ _ c.loop-i.invariant.0 c.loop-i-test.true _ c.word.ensures
          _ _ c.sort_of.result c.sort_of.ensures.resolved.0 _ (c.in_ok-id.was ∙ ap Ok c.in-Some.is) _ (rw (ap (λ (x : Stays). x.scratch) o) at c.put.ensures)),
      ap (λ (x : Stays). x.kept) o ∙ c.loop-i.invariant.1,
      ap (λ (x : Stays). x.nodes) o ∙ c.loop-i.invariant.2,
      rw c.in_ok-id.was at c.sort_of.ensures.indexed,
    )

pub returns-clause-extracts : goal.returns-clause-extracts
returns-clause-extracts c =
    let k = c.loop-i.invariant.1 in (
      law.as_entered _ _ _ _ _ _ c.loop-i.invariant.2 (ap (λ (x : Kept). x.binds) k) (ap (λ (x : Kept). x.given.lists) k)
          _ _ _ _ _ _ _ _ _ (law.all_read _ _ _ _ _ _ _ _ _ _ _ _ c.loop-i.invariant.0 c.loop-i-test.false),
      k,
      c.loop-i.invariant.2,
    )
