-- Sort after sort. Assumes nothing.
use Rattle.sort_interner.proofs.Stores as law
use Rattle.sort_interner.proofs.put_fixed_six.Goals as goal

pub loop-kind-init : goal.loop-kind-init
loop-kind-init c = search law.none_fixed

pub loop-kind-preserved : goal.loop-kind-preserved
loop-kind-preserved c = search law.next_fixed
