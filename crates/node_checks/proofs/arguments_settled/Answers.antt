-- What `all` ran is what the definition tests. Assumes nothing.
use Rattle.std.proofs.Common.{of_calls, refl, ◌∙◌}
use Rattle.resolved_sort.proofs.ByAll.{all_below_by_all}
use Rattle.node_checks.proofs.Settling as law
use Rattle.node_checks.proofs.arguments_settled.Goals as goal

pub returns : goal.returns
returns c =
    all_below_by_all _ _ _ _ _ refl c.all.ensures.ran (λ x b q k. search of_calls)
    ∙ law.run_settled c.args.nodes.now c.args.flags.now c.args.run.count c.args.run.start
