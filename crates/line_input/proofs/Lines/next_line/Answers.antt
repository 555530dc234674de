-- By what is left of the buffer, and then read by read: it fails, it is at its end, or bytes come. Assumes nothing.
use Rattle.std.proofs.Common.{◌∙◌, ap, arith, Err}
use Rattle.std.proofs.lemmas.Result.{err_from_is_err_and}
use Rattle.line_input.proofs.Reading as law
use Rattle.line_input.proofs.Lines.next_line.Goals as goal

pub returns-then-take-clause-line : goal.returns-then-take-clause-line
returns-then-take-clause-line g c =
    law.line_at_once _ _ _ c.if-take.true c.take.ensures.same_memory c.take.ensures.buffer c.take.ensures.taken _ _

pub loop-init : goal.loop-init
loop-init g c = law.none_read_yet _ _ _ c.if-take.false c.take.ensures.same_memory c.take.ensures.buffer c.take.ensures.taken _ _

pub returns-in_err-fill-clause-line : goal.returns-in_err-fill-clause-line
returns-in_err-fill-clause-line g c =
    let p = err_from_is_err_and c.from_residual.result c.from_residual.ensures.1 in
    law.read_failed _ _ _ _ _ _ _ _ c.loop.invariant (omega (arith, c.loop-test.true)) _ _ _ _
    c.fill.ensures.same_memory c.fill.ensures.line c.fill.ensures.filled _ c.in_err-fill.was _ (p.1 ∙ ap Err p.2)

pub returns-then-branch-eq0-clause-line : goal.returns-then-branch-eq0-clause-line
returns-then-branch-eq0-clause-line g c =
    law.ends _ _ _ _ _ _ _ _ c.loop.invariant (omega (arith, c.loop-test.true)) _ _ _ _
    c.fill.ensures.same_memory c.fill.ensures.line c.fill.ensures.filled _ c.in_ok-fill.was c.if-branch-eq0.true _ c.then_some.ensures

pub returns-then-take-2-clause-line : goal.returns-then-take-2-clause-line
returns-then-take-2-clause-line g c =
    law.line_came _ _ _ _ _ _ _ _ c.loop.invariant (omega (arith, c.loop-test.true)) _ _ _ _
    c.fill.ensures.same_memory c.fill.ensures.line c.fill.ensures.filled _ c.in_ok-fill.was
    c.if-branch-eq0.false _ c.take-in-loop.ensures.same_memory c.take-in-loop.ensures.buffer _ c.take-in-loop.ensures.taken
    c.if-take-2.true

pub loop-preserved : goal.loop-preserved
loop-preserved g c =
    law.none_came _ _ _ _ _ _ _ _ c.loop.invariant (omega (arith, c.loop-test.true)) _ _ _ _
    c.fill.ensures.same_memory c.fill.ensures.line c.fill.ensures.filled _ c.in_ok-fill.was
    c.if-branch-eq0.false _ c.take-in-loop.ensures.same_memory c.take-in-loop.ensures.buffer _ c.take-in-loop.ensures.taken
    c.if-take-2.false

pub returns-clause-line : goal.returns-clause-line
returns-clause-line g c = law.reads_used_up _ _ _ _ _ _ _ _ c.loop.invariant (omega (arith, c.loop-test.false)) _ c.from.ensures
