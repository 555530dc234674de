-- The number plus one is put into the free slot. Assumes nothing.
use Rattle.sort_interner.proofs.Filled as law
use Rattle.sort_interner.proofs.index.enter.Goals as goal

pub returns : goal.returns
returns c = law.sort_entered _ _ _ _ _ _ c.slot.ensures c.free_slot-at.ensures c.put.ensures
