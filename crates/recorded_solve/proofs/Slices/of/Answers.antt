-- The slices are copies of the parts of the words given. Assumes nothing.
use Rattle.recorded_solve.proofs.Asking as law
use Rattle.recorded_solve.proofs.Slices.of.Goals as goal

pub returns : goal.returns
returns c =
    law.sliced c.args.given.now _ _ _ _ _ _ _ _ c.copied.ensures c.copied-2.ensures c.copied-3.ensures c.copied-4.ensures
    c.copied-5.ensures c.copied-6.ensures c.copied-7.ensures c.copied-8.ensures
