-- A row that is found is one twice; one that is not is new, and is entered. Assumes nothing.
use Rattle.std.proofs.Common.{refl}
use Rattle.resolved_sort.proofs.IndexAppend.{indexed_none, indexed_one_more}
use Rattle.resolved_sort.proofs.IndexTwice as law
use Rattle.sort_checks.proofs.Lent.no_two_equal_rows.Goals as goal

pub loop-j-init : goal.loop-j-init
loop-j-init c = (law.none_differ_yet _, indexed_none _ _ refl)

pub returns-then-is_some : goal.returns-then-is_some
returns-then-is_some c =
    law.found_twice _ _ _ _ c.requires c.loop-j-test.true c.loop-j.invariant.0 c.loop-j.invariant.1 _ c.lookup.ensures _ c.is_some.ensures
    c.if-is_some.true

pub loop-j-preserved : goal.loop-j-preserved
loop-j-preserved c = (
  law.found_none _ _ _ _ c.requires c.loop-j-test.true c.loop-j.invariant.0 c.loop-j.invariant.1 _ c.lookup.ensures _ c.is_some.ensures
      c.if-is_some.false,
  indexed_one_more _ _ _ c.loop-j.invariant.1 _ c.enter.ensures,
)
