-- Each test is the check of its number, and the first that fails is answered. Assumes nothing.
use Rattle.std.proofs.Common.{ap, not}
use Rattle.resolved_sort.specs.declared.Refusal.TheVariants.{BadNode, BadBinding, Cyclic}
use Rattle.resolved_sort.proofs.Testing as law
use Rattle.unification.specs.NodeChecks.{node_checks}
use Rattle.node_checks.proofs.test_nodes.Goals as goal

pub returns-then-not-nodes_fine : goal.returns-then-not-nodes_fine
unfolding node_checks
returns-then-not-nodes_fine c = law.fails _ _ c.nodes_fine.ensures BadNode _ (ap not c.if-not-nodes_fine.true)

pub returns-then-not-bindings_fine : goal.returns-then-not-bindings_fine
unfolding node_checks
returns-then-not-bindings_fine c =
    law.passes _ _ c.nodes_fine.ensures BadNode _ (ap not c.if-not-nodes_fine.false) _
    (law.fails _ _ c.bindings_fine.ensures BadBinding _ (ap not c.if-not-bindings_fine.true))

pub returns-then-not-acyclic : goal.returns-then-not-acyclic
unfolding node_checks
returns-then-not-acyclic c =
    law.passes _ _ c.nodes_fine.ensures BadNode _ (ap not c.if-not-nodes_fine.false) _
    (law.passes _ _ c.bindings_fine.ensures BadBinding _ (ap not c.if-not-bindings_fine.false) _
    (law.fails _ _ c.acyclic.ensures Cyclic _ (ap not c.if-not-acyclic.true)))

pub returns : goal.returns
unfolding node_checks
returns c =
    law.passes _ _ c.nodes_fine.ensures BadNode _ (ap not c.if-not-nodes_fine.false) _
    (law.passes _ _ c.bindings_fine.ensures BadBinding _ (ap not c.if-not-bindings_fine.false) _
    (law.passes _ _ c.acyclic.ensures Cyclic _ (ap not c.if-not-acyclic.false) _ law.none_left))
