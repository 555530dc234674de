-- Each turn mixes in one number more. Assumes nothing.
use Rattle.std.proofs.Common.{arith}
use Rattle.sort_interner.proofs.Mixing as law
use Rattle.sort_interner.proofs.index.mix_args.Goals as goal

pub loop-id-init : goal.loop-id-init
loop-id-init c = law.mixed_from_start _ _

pub loop-id-preserved : goal.loop-id-preserved
loop-id-preserved c = law.args_mixed_next _ _ _ _ c.loop-id.invariant c.loop-id-test.true _ c.mix-mix_so_far.ensures

pub returns : goal.returns
returns c = law.args_mixed _ _ _ _ c.loop-id.invariant (omega (arith, c.loop-id-test.false))
