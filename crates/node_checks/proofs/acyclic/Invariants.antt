-- The loop's invariant: the flags of the variables after the rounds passed. Assumes nothing.
use Rattle.std.proofs.Common.{◌≡◌, ◌≤◌, length, take}
use Rattle.unification.specs.Acyclic.{rounds}
use Rattle.unification.specs.Nodes.{binds_of}
use Rattle.node_checks.proofs.acyclic.Given as goal

abbrev pub invariant-loop-round : goal.invariant-loop-round
invariant-loop-round l =
    (l._round ≤ l.v) × (length l.vars ≡ 512) × (length l.flags ≡ 2048)
    × (take l.v l.vars ≡ rounds l.nodes l.m (binds_of l.binds l.v) l._round)
