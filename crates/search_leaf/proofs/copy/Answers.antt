-- Each step and the end of the loop by the laws of copying; what is copied so far is as long as what was there. Assumes nothing.
use Rattle.std.proofs.Common.{arith}
use Rattle.search_leaf.proofs.Copies as law
use Rattle.search_leaf.proofs.copy.Goals as goal

pub loop-i-init : goal.loop-i-init
loop-i-init c = law.start _ _ _ _ c.requires

pub bounds-scratch-from : goal.bounds-scratch-from
bounds-scratch-from c = omega (arith, law.copying_long _ _ _ _ _ _ c.loop-i.invariant)

pub bounds-scratch-to : goal.bounds-scratch-to
bounds-scratch-to c = omega (arith, law.copying_long _ _ _ _ _ _ c.loop-i.invariant)

pub loop-i-preserved : goal.loop-i-preserved
loop-i-preserved c = law.next _ _ _ _ _ _ c.loop-i.invariant c.loop-i-test.true

pub returns : goal.returns
returns c = law.all_copied _ _ _ _ _ _ c.loop-i.invariant c.loop-i-test.false
