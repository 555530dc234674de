-- The loop's invariant: the sum so far, with the rest, is the whole sum. Assumes nothing.
use Rattle.std.proofs.Common.{◌*◌, ◌≤◌, ℕ}
use Rattle.inference.specs.declared.Constraint.{Constraint}
use Rattle.inference.specs.Constraints.{constraint_at}
use Rattle.solve_checks.specs.Inner.Tests.{Computes}
use Rattle.solve_checks.proofs.RowsLeft.{SummedBy}
use Rattle.solve_checks.proofs.total.Given as goal

abbrev pub invariant-loop-i : goal.invariant-loop-i
invariant-loop-i g l =
    (l.sum ≤ 65535 * l.i)
    × ((f : Constraint → ℕ) → Computes (goal.F-post g l.counts) f → SummedBy f (constraint_at l.constraints) l.count l.i l.sum)
