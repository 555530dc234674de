-- By whether the number is the largest. Assumes nothing.
use Rattle.std.proofs.Common.{◌∙◌, arith}
use Rattle.replay.proofs.Stores as law
use Rattle.replay.proofs.one_more.Goals as goal

pub returns : goal.returns
returns c = c.saturating_add.ensures ∙ law.one_more_is _ (omega (arith, c.ranges.n.fits))
