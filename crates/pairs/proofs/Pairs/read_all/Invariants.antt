-- The invariant: of what was read what it prints is written, and the lines after it are held. Assumes nothing.
use Rattle.pair_input.specs.HeldIn.{held_in}
use Rattle.pairs.proofs.Runs.{Run}
use Rattle.pairs.proofs.Pairs.read_all.Given as goal

abbrev pub invariant-loop : goal.invariant-loop
invariant-loop g l =
    Run (g.R.Read.remaining l.initial.reader) (g.R.Read.remaining l.reader)
    (g.W.Write.contents l.initial.self.to) (g.W.Write.contents l.self.to) (held_in l.self.lines)
