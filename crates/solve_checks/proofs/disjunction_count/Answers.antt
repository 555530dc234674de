-- The sum of one for each. Assumes nothing.
use Rattle.std.proofs.Common.{rules, ◌∙◌}
use Rattle.solve_checks.proofs.RowsLeft.{disjunctions_of, choices_sum}
use Rattle.solve_checks.proofs.disjunction_count.Goals as goal

pub returns : goal.returns
returns c = c.total.ensures disjunctions_of (λ x r h. search rules) ∙ choices_sum _
