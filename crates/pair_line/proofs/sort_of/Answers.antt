-- A line that is too long; else what reading it has left. Assumes nothing.
use Rattle.std.proofs.Common.{arith, sym, subst, ◌∙◌}
use Rattle.pair_line.specs.Inner.Room.{LineLeft}
use Rattle.pair_line.proofs.Ways as law
use Rattle.pair_line.proofs.LineRead as read
use Rattle.pair_line.proofs.sort_of.Goals as goal

pub returns-in_err-test_length-clause-left : goal.returns-in_err-test_length-clause-left
returns-in_err-test_length-clause-left c =
    subst (LineLeft _ _ _ _ _ _ _) (sym (law.handed _ _ c.from_residual.ensures.1))
    (law.too_long _ _ (sym c.test_length.ensures ∙ c.in_err-test_length.was))

pub read_line-requires-clause-passes : goal.read_line-requires-clause-passes
read_line-requires-clause-passes c = read.passes _ _ _ 200 _ c.requires.begun (omega arith) (law.not_long _ (sym c.test_length.ensures ∙ c.in_ok-test_length.was))

pub returns-clause-left : goal.returns-clause-left
returns-clause-left c =
    read.line_left_by _ _ _ _ c.requires.begun (law.not_long _ (sym c.test_length.ensures ∙ c.in_ok-test_length.was))
    c.read_line.new.sorts.words.now c.read_line.new.sorts.counts c.read_line.result c.read_line.ensures.read
