-- One constraint more adds what it counts. Assumes nothing.
use Rattle.std.proofs.Common.{arith}
use Rattle.inference.specs.Constraints.{constraint_at}
use Rattle.solve_checks.proofs.RowsLeft as rows
use Rattle.solve_checks.proofs.total.Goals as goal

pub loop-i-preserved : goal.loop-i-preserved
loop-i-preserved g c = (
  omega arith,
  λ f h. rows.summed_more f (constraint_at c.args.constraints.now) c.args.count c.loop-i.i c.loop-i.sum (c.loop-i.invariant.1 f h)
      c.loop-i-test.true c.constraint_at.result c.constraint_at.ensures c.counts-more.result (h _ _ c.counts-more.ensures),
)

pub returns : goal.returns
returns g c = λ f h.
    rows.summed f (constraint_at c.args.constraints.now) c.args.count c.loop-i.i c.loop-i.sum (c.loop-i.invariant.1 f h) (omega arith)
