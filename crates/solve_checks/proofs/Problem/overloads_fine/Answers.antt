-- A run over what the definition tests. Assumes nothing.
use Rattle.std.proofs.Common.{rules}
use Rattle.inference.specs.SolveChecks.{overload_fine}
use Rattle.solve_checks.specs.Inner.Calls.{call_for}
use Rattle.solve_checks.proofs.Problem.overloads_fine.Goals as goal

pub returns : goal.returns
returns c =
    let I = call_for c.args.self.now in
    c.run_fine.ensures I (overload_fine I) (λ x r h. search rules)
