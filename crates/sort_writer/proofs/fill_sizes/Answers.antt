-- No sort at first, and one more at each step. Assumes nothing.
use Rattle.std.proofs.Common.{refl, length-set}
use Rattle.sort_writer.proofs.Fills as law
use Rattle.sort_writer.proofs.fill_sizes.Goals as goal

pub loop-i-init : goal.loop-i-init
loop-i-init c = (refl, law.no_sort c.args.sorts.now c.args.sizes.now)

pub loop-i-preserved : goal.loop-i-preserved
loop-i-preserved c = (
  simp length-set c.loop-i.invariant.0,
  law.one_sort_more c.args.sorts.now c.args.sizes.now c.loop-i.sizes c.loop-i.i _ _ c.loop-i.invariant.1 c.get-row.ensures c.row.ensures,
)
