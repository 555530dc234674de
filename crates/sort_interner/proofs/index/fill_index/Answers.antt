-- The index of no sorts, then one sort more at each turn. Assumes nothing.
use Rattle.std.proofs.Common.{arith}
use Rattle.resolved_sort.proofs.IndexAppend.{indexed_one_more}
use Rattle.sort_interner.proofs.Filled as law
use Rattle.sort_interner.proofs.index.fill_index.Goals as goal

pub loop-i-init : goal.loop-i-init
loop-i-init c = law.none_filled _ _ _ c.requires.1 c.clear_index.ensures

pub loop-i-preserved : goal.loop-i-preserved
loop-i-preserved c = indexed_one_more _ _ _ c.loop-i.invariant _ c.enter.ensures

pub returns : goal.returns
returns c = law.all_filled _ _ _ _ (omega (arith, c.loop-i.auto.i-end, c.loop-i-test.false)) c.loop-i.invariant
