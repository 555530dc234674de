-- Of two heads, what the tests of family and level pick. Assumes nothing.
use Rattle.sort_bounds.proofs.Picks as law
use Rattle.sort_bounds.proofs.farther.Goals as goal

pub returns-then-family : goal.returns-then-family
returns-then-family g c = law.picks_none _ _ _ _ _ _ _ _ _ c.family.ensures c.family-2.ensures c.if-family.true

pub returns-then-reaches : goal.returns-then-reaches
returns-then-reaches g c =
    law.picks_far _ _ _ _ _ _ _ _ _ c.family.ensures c.family-2.ensures c.if-family.false
    _ _ c.level.ensures c.level-2.ensures c.reaches.ensures c.if-reaches.true

pub returns-else-reaches : goal.returns-else-reaches
returns-else-reaches g c =
    law.picks_near _ _ _ _ _ _ _ _ _ c.family.ensures c.family-2.ensures c.if-family.false
    _ _ c.level.ensures c.level-2.ensures c.reaches.ensures c.if-reaches.false
