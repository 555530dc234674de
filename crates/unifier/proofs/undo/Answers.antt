-- Undoing one more leaves the rest to undo. Assumes nothing.
use Rattle.unifier.proofs.Tries as law
use Rattle.unifier.proofs.undo.Goals as goal

pub loop-i-preserved : goal.loop-i-preserved
loop-i-preserved c = law.undo_goes_on _ _ _ _ _ _ c.loop-i.invariant c.loop-i-test.true _ c.put.ensures

pub returns : goal.returns
returns c = law.undo_ends _ _ _ _ _ _ c.loop-i.invariant c.loop-i-test.false
