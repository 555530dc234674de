-- What `all` ran is what the definition tests. Assumes nothing.
use Rattle.std.proofs.Common.{of_calls, ap, ℕ}
use Rattle.inference.specs.SolveChecks.{constraints_fine}
use Rattle.resolved_sort.proofs.ByAll.{all_below_by_all}
use Rattle.solve_checks.proofs.Within.constraints_fine.Goals as goal

pub returns : goal.returns
unfolding constraints_fine
returns c =
    all_below_by_all _ _ _ _ _ (ap (λ (n : ℕ). record { start = 0; end = n }) c.constraint_count.ensures)
    c.all.ensures.ran (λ x b q k. search of_calls)
