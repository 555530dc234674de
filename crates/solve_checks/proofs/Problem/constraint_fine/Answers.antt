-- A literal has a place, and then its kind decides. Assumes nothing.
use Rattle.std.proofs.Common.{sym, ap, ◌∙◌}
use Rattle.std.specs.Result.{is_ok}
use Rattle.inference.specs.SolveChecks.{constraint_fine}
use Rattle.solve_checks.specs.Inner.Calls.{call_for}
use Rattle.solve_checks.proofs.Fine as fine
use Rattle.solve_checks.proofs.Problem.constraint_fine.Goals as goal

pub returns-then-placed-2 : goal.returns-then-placed-2
returns-then-placed-2 c =
    fine.then _ _ c.placed-in-Lit.result c.placed-in-Lit.ensures c.if-placed-2.true c.is_ok.result
    (c.is_ok.ensures.value ∙ ap is_ok c.try_from.ensures ∙ fine.known_literals _)
    ∙ sym (ap (constraint_fine (call_for c.args.self.now) c.args.b) c.in-Lit.is)
