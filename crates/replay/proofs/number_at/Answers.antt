-- The digits read and those that are left come to the number. Assumes nothing.
use Rattle.std.proofs.Common.{sym, ◌∙◌, arith}
use Rattle.replay.proofs.Numbers as law
use Rattle.replay.proofs.number_at.Goals as goal

pub loop-count-init : goal.loop-count-init
loop-count-init c = (omega arith, law.from_the_first _ _ _ c.rest-text.ensures)

pub returns-then-not-is_ascii_digit : goal.returns-then-not-is_ascii_digit
returns-then-not-is_ascii_digit c =
    let i = c.loop-count.invariant in
    c.then_some.ensures
    ∙ law.ends_at_another _ _ _ c.rest-text.ensures _ _ c.loop-count-test.true i.0
    (sym c.is_ascii_digit.ensures.value ∙ c.if-not-is_ascii_digit.true)
    ∙ i.1

pub returns-then-full : goal.returns-then-full
returns-then-full c =
    law.too_many_digits _ _ _ c.rest-text.ensures _ _ c.loop-count-test.true
    (sym c.is_ascii_digit.ensures.value ∙ c.if-not-is_ascii_digit.false) (omega (arith, c.if-full.true))
    ∙ c.loop-count.invariant.1

pub loop-count-preserved : goal.loop-count-preserved
loop-count-preserved c =
    let t = c.rest-text.ensures in
    let e = sym c.is_ascii_digit.ensures.value ∙ c.if-not-is_ascii_digit.false in (
      law.small_still _ _ _ (omega (arith, c.if-full.false)) e c.from.ensures,
      law.one_more_digit _ _ _ t _ _ c.loop-count-test.true e _ c.from.ensures ∙ c.loop-count.invariant.1,
    )

pub returns : goal.returns
returns c =
    let i = c.loop-count.invariant in
    c.then_some-2.ensures
    ∙ law.ends_with_the_line _ _ _ c.rest-text.ensures _ _ i.0 c.loop-count.auto.count-end c.loop-count-test.false
    ∙ i.1
