-- The loop's invariant: the value is small enough, and with the digits that are left it comes to the number. Assumes nothing.
use Rattle.std.proofs.Common.{◌≡◌, ◌<◌, drop}
use Rattle.replay.specs.Inner.Numbers.{digits, too_large, number_at}
use Rattle.replay.proofs.Numbers.{comes_to}
use Rattle.replay.proofs.number_at.Given as goal

abbrev pub invariant-loop-count : goal.invariant-loop-count
invariant-loop-count l = (l.value < too_large) × (comes_to l.at l.value l.count (digits (drop l.count l.text)) ≡ number_at l.line l.at)
