-- By family, and then by level. Assumes nothing.
use Rattle.sort_order.proofs.Heads as law
use Rattle.sort_order.proofs.heads_partial_cmp.Goals as goal

pub returns-then-family : goal.returns-then-family
returns-then-family g c = law.no_ordering _ _ _ _ _ _ c.family.ensures c.family-2.ensures c.if-family.true

pub returns : goal.returns
returns g c = law.ordering_by_levels _ _ _ _ _ _ c.family.ensures c.family-2.ensures c.if-family.false _ _ c.level.ensures c.level-2.ensures _ c.cmp.ensures
