-- What `all` ran is what the definition tests. Assumes nothing.
use Rattle.std.proofs.Common.{of_calls, refl, ◌∙◌}
use Rattle.resolved_sort.proofs.ByAll.{all_below_by_all}
use Rattle.node_checks.proofs.Unbound as law
use Rattle.node_checks.proofs.nothing_bound.Goals as goal

pub returns : goal.returns
returns c =
    all_below_by_all _ _ _ _ _ refl c.all.ensures.ran (λ x b q k. search of_calls)
    ∙ law.all_free c.args.binds.now c.args.v
