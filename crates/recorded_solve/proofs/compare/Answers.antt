-- A word that is another ends it, a word that agrees is passed, and at the end all agree. Assumes nothing.
use Rattle.std.proofs.Common.{sym, ◌∙◌, arith}
use Rattle.recorded_solve.proofs.Compares as law
use Rattle.recorded_solve.proofs.compare.Goals as goal

pub loop-i-preserved : goal.loop-i-preserved
loop-i-preserved c =
    c.loop-i.invariant ∙ law.same _ _ _ _ _ c.word-got.ensures c.loop-i-test.true c.if-got-value.false _ (omega arith)

pub returns-then-got-value : goal.returns-then-got-value
returns-then-got-value c =
    law.other _ _ _ _ _ c.word-got.ensures c.loop-i-test.true c.if-got-value.true ∙ sym c.loop-i.invariant

pub returns : goal.returns
returns c = law.end _ _ _ _ c.loop-i-test.false ∙ sym c.loop-i.invariant
