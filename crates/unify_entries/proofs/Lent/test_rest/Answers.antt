-- One after the other. Assumes nothing.
use Rattle.std.proofs.Common.{refl, ◌∙◌}
use Rattle.resolved_sort.proofs.Testing as law
use Rattle.unify_entries.proofs.Lent.test_rest.Goals as goal

pub returns-in_err-test_nodes : goal.returns-in_err-test_nodes
returns-in_err-test_nodes c =
    law.handed_on _ _ c.from_residual.ensures.1 ∙ law.first_refuses _ _ _ c.in_err-test_nodes.ensures _ refl

pub returns : goal.returns
returns c = law.second_decides _ _ _ c.in_ok-test_nodes.ensures refl _ c.test_places.ensures
