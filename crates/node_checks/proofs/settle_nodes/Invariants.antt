-- The loop's invariant: the flags of the nodes passed. Assumes nothing.
use Rattle.std.proofs.Common.{◌≡◌, ◌≤◌, length, take}
use Rattle.unification.specs.Acyclic.{nodes_settled}
use Rattle.node_checks.proofs.settle_nodes.Given as goal

abbrev pub invariant-loop-i : goal.invariant-loop-i
invariant-loop-i l =
    (l.i ≤ l.m) × (length l.flags ≡ length l.initial.flags) × (take l.i l.flags ≡ nodes_settled l.nodes l.vars l.i)
