-- A number that is no word ends it, another is stored, and at the end none is left. Assumes nothing.
use Rattle.std.proofs.Common.{sym, ap, ◌∙◌, ◌+◌, arith}
use lib.ListN.{set}
use Rattle.replay.proofs.Stores as law
use Rattle.replay.proofs.store.Goals as goal

pub returns-in_default : goal.returns-in_default
returns-in_default c = law.none_more _ _ _ _ c.loop-i-test.true (omega (arith, c.in_default.ensures)) ∙ sym c.loop-i.invariant

pub loop-i-preserved : goal.loop-i-preserved
loop-i-preserved c =
    c.loop-i.invariant
    ∙ law.one_stored _ _ _ _ c.loop-i-test.true (omega (arith, c.in-Ok.ensures.0)) _
    (c.put.ensures ∙ ap (set c.loop-i.list (c.args.base + c.loop-i.i)) c.in-Ok.ensures.1)
    _ (omega arith)

pub returns : goal.returns
returns c = law.all_stored _ _ _ _ c.loop-i-test.false ∙ sym c.loop-i.invariant
