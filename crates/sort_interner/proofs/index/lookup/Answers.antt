-- A slot is empty, or stands for the row that is looked for, or the next is looked at. Assumes nothing.
use Rattle.sort_interner.proofs.Walk as law
use Rattle.sort_interner.proofs.index.lookup.Goals as goal

pub loop-init : goal.loop-init
loop-init g c = search law.looked_from_place

pub returns-then-slot-eq0 : goal.returns-then-slot-eq0
returns-then-slot-eq0 g c = search law.looked_to_empty

pub returns-then-is : goal.returns-then-is
returns-then-is g c = search law.looked_up

pub loop-preserved : goal.loop-preserved
loop-preserved g c = search law.looked_from_next

pub returns : goal.returns
returns g c = search law.looked_at_end
