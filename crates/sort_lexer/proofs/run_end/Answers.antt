-- Each step is one of a run from the front. Assumes nothing.
use Rattle.std.proofs.Common.{sym, ◌∙◌}
use Rattle.sort_lexer.proofs.RunEnd as law
use Rattle.sort_lexer.proofs.run_end.Goals as goal

pub returns-then-not-passes : goal.returns-then-not-passes
returns-then-not-passes g c = λ p h.
    law.run_to_here p _ _ _ _ c.rest-byte-items.ensures (c.loop-i.invariant p h) c.loop-i-test.true
    (sym (h _ _ c.passes.ensures) ∙ c.if-not-passes.true)

pub loop-i-preserved : goal.loop-i-preserved
loop-i-preserved g c = λ p h.
    law.run_from_next p c.args.line.now c.rest-byte-items.result.now c.args.at c.loop-i.i c.rest-byte-items.ensures (c.loop-i.invariant p h) c.loop-i-test.true
    (sym (h _ _ c.passes.ensures) ∙ c.if-not-passes.false)

pub returns : goal.returns
returns g c = λ p h.
    law.run_to_the_end p _ _ _ _ c.rest-byte-items.ensures (c.loop-i.invariant p h) c.loop-i-test.false
