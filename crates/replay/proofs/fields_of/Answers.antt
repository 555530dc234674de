-- The line ends, or no space or no number follows, or one more number; and no number past the last. Assumes nothing.
use Rattle.std.proofs.Common.{refl, sym, ◌∙◌, arith, rules, length-set}
use Rattle.replay.proofs.Numbers as law
use Rattle.replay.specs.Inner.Numbers.{fields_of}
use Rattle.replay.proofs.fields_of.Goals as goal

pub loop-count-init : goal.loop-count-init
unfolding fields_of
loop-count-init c = (refl, refl)

pub returns-then-line-at-clause-numbers : goal.returns-then-line-at-clause-numbers
returns-then-line-at-clause-numbers c = law.fields_ended _ _ _ _ _ c.if-line-at.true ∙ c.loop-count.invariant.1

pub returns-then-line-at-ne32-clause-numbers : goal.returns-then-line-at-ne32-clause-numbers
returns-then-line-at-ne32-clause-numbers c = law.fields_no_space _ _ _ _ _ c.if-line-at.false c.if-line-at-ne32.true ∙ c.loop-count.invariant.1

pub returns-in_err-value-clause-numbers : goal.returns-in_err-value-clause-numbers
returns-in_err-value-clause-numbers c =
    c.from_residual.ensures ∙ law.fields_no_number _ _ _ _ _ c.if-line-at.false c.if-line-at-ne32.false
    (sym c.number_at.ensures ∙ c.in_err-value.was) ∙ c.loop-count.invariant.1

pub loop-count-preserved : goal.loop-count-preserved
loop-count-preserved c = (
  simp length-set c.loop-count.invariant.0,
  sym (law.fields_more _ _ _ _ _ _ c.loop-count-test.true c.if-line-at.false c.if-line-at-ne32.false
      (sym c.number_at.ensures ∙ c.in_ok-value.was)) ∙ c.loop-count.invariant.1,
)

pub returns-then-more-clause-numbers : goal.returns-then-more-clause-numbers
returns-then-more-clause-numbers c = law.fields_over _ _ _ _ c.loop-count-test.false (search rules) ∙ c.loop-count.invariant.1

pub returns-clause-numbers : goal.returns-clause-numbers
returns-clause-numbers c = law.fields_full _ _ _ _ c.loop-count-test.false (omega arith) (search rules) ∙ c.loop-count.invariant.1
