-- No byte is held, and the memory has room for two lines. Assumes nothing.
use Rattle.std.proofs.Common.{rules, arith}
use Rattle.pair_input.specs.Held.{Fits}
use Rattle.pair_input.proofs.Ways as law
use Rattle.pair_input.proofs.HeldLines.new.Goals as goal

pub invariant_of-result : goal.invariant_of-result
unfolding Fits
invariant_of-result c = record { holds = record { fits = search rules; long = omega arith } }

pub returns : goal.returns
returns c = law.nothing_held _
