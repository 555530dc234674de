-- A run over what the definition tests. Assumes nothing.
use Rattle.std.proofs.Common.{rules}
use Rattle.solve_checks.specs.Inner.Tests.{source_fine}
use Rattle.solve_checks.specs.Inner.Calls.{call_for}
use Rattle.solve_checks.proofs.Problem.sources_fine.Goals as goal

pub returns : goal.returns
returns c =
    let I = call_for c.args.self.now in
    c.run_fine.ensures I (source_fine I) (λ x r h. search rules)
