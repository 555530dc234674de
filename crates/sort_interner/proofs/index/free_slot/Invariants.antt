-- The first empty slot of those left is that of all. Assumes nothing.
use Rattle.std.proofs.Common.{◌≡◌, ◌-◌}
use Rattle.resolved_sort.specs.Index.{slots, free_slot}
use Rattle.sort_interner.proofs.index.free_slot.Given as goal

abbrev pub invariant-loop : goal.invariant-loop
invariant-loop l = free_slot l.index slots l.from ≡ free_slot l.index (slots - l.counter) l.at
