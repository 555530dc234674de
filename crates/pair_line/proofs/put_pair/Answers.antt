-- The first line is bad, or the second, or both are read. Assumes nothing.
use Rattle.std.proofs.Common.{arith}
use Rattle.pair_line.proofs.FixedSix.{begun_with_six}
use Rattle.pair_line.proofs.Ways as law
use Rattle.pair_line.proofs.put_pair.Goals as goal

pub sort_or_put-requires-clause-begun : goal.sort_or_put-requires-clause-begun
sort_or_put-requires-clause-begun c = law.begun_first _ c.args.first.now c.args.second.now (begun_with_six _ (omega arith) c.put_fixed_six.ensures) c.args.out.now

pub returns-in_default : goal.returns-in_default
returns-in_default c = law.first_bad _ _ _ (begun_with_six _ (omega arith) c.put_fixed_six.ensures) _ c.in_default.ensures.left

pub returns-in_default-sort_or_put : goal.returns-in_default-sort_or_put
returns-in_default-sort_or_put c =
    law.second_bad _ _ _ (begun_with_six _ (omega arith) c.put_fixed_six.ensures) c.args.out.now c.in-Some.ensures.left.0 c.in-Some.ensures.left.1 c.in_default-sort_or_put.ensures.left

pub returns : goal.returns
returns c =
    law.both_put _ _ _ (begun_with_six _ (omega arith) c.put_fixed_six.ensures) c.args.out.now c.in-Some.ensures.left.0 c.in-Some.ensures.left.1
    c.in-Some-sort_or_put.ensures.left.0 c.in-Some-sort_or_put.ensures.left.1 c.put_answer.ensures
