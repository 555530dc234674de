-- Each turn stores one more. Assumes nothing.
use Rattle.std.proofs.Common.{refl, arith}
use Rattle.resolved_sort.proofs.SortNumbers.{length_sort_numbers}
use Rattle.sort_interner.proofs.Stores as law
use Rattle.sort_interner.proofs.put_sorts.Goals as goal

pub loop-i-init : goal.loop-i-init
loop-i-init c = law.stored_from_start _ _ _

pub loop-i-preserved : goal.loop-i-preserved
loop-i-preserved c =
    law.numbers_from_next _ _ _ _ _ c.loop-i.invariant c.args.args.now refl c.loop-i-test.true _ c.put.ensures

pub returns : goal.returns
returns c = law.given_stored _ _ _ _ _ c.loop-i.invariant (omega (arith, c.loop-i-test.false, length_sort_numbers c.args.args.now))
