-- What `all` ran is what the definition tests. Assumes nothing.
use Rattle.std.proofs.Common.{of_calls, refl}
use Rattle.unification.specs.NodeChecks.{nodes_fine}
use Rattle.resolved_sort.proofs.ByAll.{all_below_by_all}
use Rattle.node_checks.proofs.Lent.nodes_fine.Goals as goal

pub returns : goal.returns
unfolding nodes_fine
returns c = all_below_by_all _ _ _ _ _ refl c.all.ensures.ran (λ x b q k. search of_calls)
