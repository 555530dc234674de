-- The steps of the line, and zeros behind them. Assumes nothing.
use Rattle.std.proofs.Common.{rules, arith}
use Rattle.sort_recogniser.proofs.Cleared as law
use Rattle.sort_recogniser.proofs.recognise.Goals as goal

pub slice_bounds-fill-count : goal.slice_bounds-fill-count
slice_bounds-fill-count c = law.within _ _ _ c.steps_of-found.ensures.says _ c.unwrap_or.ensures (omega (arith, c.steps_of-found.ensures.same_room))

pub slice_bounds-fill-start : goal.slice_bounds-fill-start
slice_bounds-fill-start c =
    let x = law.within _ _ _ c.steps_of-found.ensures.says _ c.unwrap_or.ensures (omega (arith, c.steps_of-found.ensures.same_room)) in
    search rules

pub returns : goal.returns
returns c =
    rw (← c.steps_of-found.ensures.same_room)
    (law.recognised _ _ _ c.steps_of-found.ensures.says _ c.unwrap_or.ensures (omega (arith, c.steps_of-found.ensures.same_room)) _
    (c.fill.ensures.after (search rules)))
