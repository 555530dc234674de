-- The loop's invariant: reading from here on comes to the numbers of the line. Assumes nothing.
use Rattle.std.proofs.Common.{length, ◌-◌, ◌≡◌}
use Rattle.replay.specs.Inner.Numbers.{fields_from, fields_of}
use Rattle.replay.proofs.fields_of.Given as goal

abbrev pub invariant-loop-count : goal.invariant-loop-count
invariant-loop-count l = (length l.values ≡ 18) × (fields_from (18 - l.count) l.line l.at l.values l.count ≡ fields_of l.line)
