-- Each turn mixes in one entry more. Assumes nothing.
use Rattle.std.proofs.Common.{arith}
use Rattle.sort_interner.proofs.Mixing as law
use Rattle.sort_interner.proofs.index.mix_run.Goals as goal

pub loop-k-init : goal.loop-k-init
loop-k-init c = law.mixed_from_start _ _

pub loop-k-preserved : goal.loop-k-preserved
loop-k-preserved c = law.run_mixed_next _ _ _ _ _ _ c.loop-k.invariant c.loop-k-test.true _ _ c.entry.ensures c.mix-mix_so_far.ensures

pub returns : goal.returns
returns c = law.run_mixed _ _ _ _ _ _ c.loop-k.invariant (omega (arith, c.loop-k-test.false))
