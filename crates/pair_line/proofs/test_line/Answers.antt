-- By its length, and by what it is recognised as. Assumes nothing.
use Rattle.std.proofs.Common.{sym, subst, ap, ◌∙◌}
use Rattle.sort_recogniser.specs.Inner.Cleared.{line_ended}
use Rattle.pair_line.specs.Inner.Answers.{LineTested}
use Rattle.pair_line.proofs.Ways as law
use Rattle.pair_line.proofs.test_line.Goals as goal

pub returns-in_err-test_length : goal.returns-in_err-test_length
returns-in_err-test_length c =
    subst (LineTested _ _) (sym (law.handed _ _ c.from_residual.ensures.1))
    (law.too_long _ _ (sym c.test_length.ensures ∙ c.in_err-test_length.was))

pub recognise-requires : goal.recognise-requires
recognise-requires c = law.not_long _ (sym c.test_length.ensures ∙ c.in_ok-test_length.was)

pub returns-in_err-recognise : goal.returns-in_err-recognise
returns-in_err-recognise c =
    subst (LineTested _ _) (sym (law.handed _ _ c.from_residual-in_err-recognise.ensures.1))
    (law.line_is_stuck _ (law.not_long _ (sym c.test_length.ensures ∙ c.in_ok-test_length.was)) _ _ c.recognise.ensures.says _
    (ap (line_ended _) c.in_err-recognise.was))

pub returns : goal.returns
returns c =
    law.line_is_good _ (law.not_long _ (sym c.test_length.ensures ∙ c.in_ok-test_length.was)) _ _ c.recognise.ensures.says _ _
    (ap (line_ended _) c.in_ok-recognise.was)
