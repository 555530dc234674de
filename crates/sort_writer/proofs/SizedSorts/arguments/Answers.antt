-- The last argument, and one more before it. Assumes nothing.
use Rattle.std.proofs.Common.{arith, ◌-◌}
use Rattle.sort_writer.proofs.Fills as law
use Rattle.sort_writer.proofs.SizedSorts.arguments.Goals as goal

pub returns-in_default : goal.returns-in_default
returns-in_default c = law.no_arguments c.args.self.now.sizes.now c.args.self.now.sorts.now c.args.run.start c.args.run.count (omega (arith, c.in_default.ensures))

pub loop-j-init : goal.loop-j-init
loop-j-init c = (
  omega (arith, c.in-Some.ensures),
  law.last_argument c.args.self.now.sizes.now c.args.self.now.sorts.now c.args.run.start c.args.run.count c.in-Some.last _ (omega (arith, c.in-Some.ensures)) c.argument-size.ensures,
)

pub loop-j-preserved : goal.loop-j-preserved
loop-j-preserved c = (
  omega arith,
  law.one_argument_more c.args.self.now.sizes.now c.args.self.now.sorts.now c.args.run.start c.args.run.count c.loop-j.j (c.loop-j.j - 1) _ _ _ _ (omega arith) c.loop-j.invariant.0
      c.loop-j.invariant.1 c.argument-first.ensures c.join_sizes.ensures c.join_sizes-size.ensures,
)
