-- By family, and then by level. Assumes nothing.
use Rattle.sort_order.proofs.Heads as law
use Rattle.sort_order.proofs.heads_distance.Goals as goal

pub returns-then-family : goal.returns-then-family
returns-then-family g c = law.no_steps _ _ _ _ _ _ c.family.ensures c.family-2.ensures c.if-family.true

pub returns : goal.returns
returns g c = law.steps_by_levels _ _ _ _ _ _ c.family.ensures c.family-2.ensures c.if-family.false _ _ c.level-2.ensures c.level.ensures _ c.checked_sub.ensures
