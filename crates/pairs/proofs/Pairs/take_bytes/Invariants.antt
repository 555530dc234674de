-- The invariant: what is held is what the part taken leaves, what it prints is written, and the buffer has room for a line.
-- The measure is what is left of the bytes, of which each turn takes at least one.
use Rattle.std.proofs.Common.{length, ◌-◌}
use Rattle.pair_input.specs.HeldIn.{held_in}
use Rattle.pairs.proofs.Runs.{Taking}
use Rattle.pairs.proofs.Pairs.take_bytes.Given as goal

abbrev pub invariant-loop-from : goal.invariant-loop-from
invariant-loop-from g l =
    Taking (held_in l.initial.self.lines) l.bytes (g.W.Write.contents l.initial.self.to)
    (held_in l.self.lines) l.self.out (g.W.Write.contents l.self.to) l.from

abbrev pub decreases-loop-from : goal.decreases-loop-from
decreases-loop-from g l = length l.bytes - l.from
