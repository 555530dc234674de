-- An LF ends the line, or another byte is held, or no byte is left. Assumes nothing.
use Rattle.std.proofs.Common.{arith}
use Rattle.line_input.proofs.Reading as law
use Rattle.line_input.proofs.Lines.take.Goals as goal

pub returns-then-ends-clause-taken : goal.returns-then-ends-clause-taken
returns-then-ends-clause-taken c =
    law.line_taken _ _ _ c.loop-at.invariant (omega (arith, c.loop-at-test.true, c.min-at-end.ensures))
    (omega (arith, c.loop-at-test.true, c.min-at-end.ensures)) c.if-ends.true

pub loop-at-preserved : goal.loop-at-preserved
loop-at-preserved c =
    law.one_byte_taken _ _ _ c.loop-at.invariant (omega (arith, c.loop-at-test.true, c.min-at-end.ensures))
    (omega (arith, c.loop-at-test.true, c.min-at-end.ensures)) c.if-ends.false _ c.put_byte.ensures

pub returns-clause-taken : goal.returns-clause-taken
returns-clause-taken c = law.all_taken _ _ _ c.loop-at.invariant (omega (arith, c.loop-at-test.false, c.min-at-end.ensures))
