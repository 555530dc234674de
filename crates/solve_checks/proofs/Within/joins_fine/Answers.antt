-- What `all` ran is a test of each constraint. Assumes nothing.
use Rattle.std.proofs.Common.{of_calls, ap, ℕ, ◌∙◌}
use Rattle.inference.specs.Constraints.{constraint_at}
use Rattle.resolved_sort.proofs.ByAll.{all_below_by_all}
use Rattle.solve_checks.proofs.RowsLeft.{each_joins}
use Rattle.solve_checks.proofs.Within.joins_fine.Goals as goal

pub returns : goal.returns
returns c =
    let a = c.args in
    all_below_by_all _ _ _ _ _ (ap (λ (n : ℕ). record { start = 0; end = n }) c.constraint_count.ensures)
    c.all.ensures.ran (λ x b q k. search of_calls)
    ∙ each_joins (constraint_at a.self.now.problem.constraints.now) a.self.now.problem.given.constraints 0
