-- A pair counts by its numbers. Assumes nothing.
use Rattle.std.proofs.Common.{◌+◌}
use Rattle.sort_order.proofs.+is_materializable.Given as goal

abbrev pub decreases-is_materializable : goal.decreases-is_materializable
decreases-is_materializable l = l.from.0 + l.to.0
