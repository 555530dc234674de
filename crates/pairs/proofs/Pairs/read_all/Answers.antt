-- Nothing is held at first, each read goes on from what was read, and at the end all was. Assumes nothing.
use Rattle.pairs.proofs.Runs as law
use Rattle.pairs.proofs.Pairs.read_all.Goals as goal

pub loop-init : goal.loop-init
loop-init g c = law.run_starts _ _ _ c.requires

pub loop-preserved : goal.loop-preserved
loop-preserved g c = law.run_goes_on _ _ _ _ _ _ _ _ c.loop.invariant (rw c.if-not-branch.false at c.in_ok-read_some.ensures)

pub returns-then-not-branch : goal.returns-then-not-branch
returns-then-not-branch g c = law.run_ends _ _ _ _ _ _ _ _ c.loop.invariant (rw c.if-not-branch.true at c.in_ok-read_some.ensures)
