-- A slot is empty, or the next is looked at. Assumes nothing.
use Rattle.std.proofs.Common.{refl}
use Rattle.sort_interner.proofs.Walk as law
use Rattle.sort_interner.proofs.index.free_slot.Goals as goal

pub loop-init : goal.loop-init
loop-init c = refl

pub returns-then-word-eq0 : goal.returns-then-word-eq0
returns-then-word-eq0 c = search law.free_found

pub loop-preserved : goal.loop-preserved
loop-preserved c = search law.free_from_next

pub returns : goal.returns
returns c = search law.free_at_end
