-- The sum of what each has. Assumes nothing.
use Rattle.std.proofs.Common.{rules, ◌∙◌}
use Rattle.inference.specs.SolveChecks.{components_of}
use Rattle.solve_checks.proofs.RowsLeft.{components_sum}
use Rattle.solve_checks.proofs.components.Goals as goal

pub returns : goal.returns
returns c = c.total.ensures components_of (λ x r h. search rules) ∙ components_sum _
