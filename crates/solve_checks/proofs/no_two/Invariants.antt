-- The loop's invariant: the marks of the expressions passed. Assumes nothing.
use Rattle.std.proofs.Common.{ℕ, Option}
use Rattle.inference.specs.declared.ExprId.{ExprId}
use Rattle.solve_checks.specs.Inner.Tests.{Computes}
use Rattle.solve_checks.proofs.Fresh.{ExprsMarked}
use Rattle.solve_checks.proofs.no_two.Given as goal

abbrev pub invariant-loop-i : goal.invariant-loop-i
invariant-loop-i g l = (f : ℕ → Option ExprId) → Computes (goal.F-post g l.expr_of) f → ExprsMarked f l.count l.seen l.i
