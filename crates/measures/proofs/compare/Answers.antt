-- By the pair at hand: it is passed, or it decides; and where no pair is left, by the lengths. Assumes nothing.
use Rattle.std.proofs.lemmas.Slice.Zip.{either_empty_from_Zip}
use Rattle.measures.proofs.Passed as law
use Rattle.measures.proofs.compare.Goals as goal

pub returns-then-is_ne-clause-ranking : goal.returns-then-is_ne-clause-ranking
returns-then-is_ne-clause-ranking c =
    let (p, q) = c.in-Some.ensures.steps in
    law.ranked_there _ _ _ _ _ _ _ _ _ c.loop-component.invariant p q _ c.cmp-ordering.ensures c.if-is_ne.ensures

pub returns-then-is_ne-clause-count : goal.returns-then-is_ne-clause-count
returns-then-is_ne-clause-count c =
    let (p, q) = c.in-Some.ensures.steps in
    law.counted_there _ _ _ _ _ _ _ _ _ c.loop-component.invariant p q _ c.cmp-ordering.ensures c.if-is_ne.ensures

pub loop-component-preserved : goal.loop-component-preserved
loop-component-preserved c =
    let (p, q) = c.in-Some.ensures.steps in
    law.one_more_passed _ _ _ _ _ _ _ _ _ c.loop-component.invariant p q _ c.cmp-ordering.ensures c.if-is_ne.ensures

pub returns-clause-ranking : goal.returns-clause-ranking
returns-clause-ranking c =
    law.ranked_by_length _ _ _ _ _ c.loop-component.invariant (either_empty_from_Zip c.loop-component.component-iterator c.next.new.self _ c.in-None.is c.next.ensures.steps) _
    c.cmp-ordering-2.ensures

pub returns-clause-count : goal.returns-clause-count
returns-clause-count c =
    law.counted_to_the_end _ _ _ _ _ c.loop-component.invariant (either_empty_from_Zip c.loop-component.component-iterator c.next.new.self _ c.in-None.is c.next.ensures.steps)
