-- The loop's invariant: the variables passed have their new flags. Assumes nothing.
use Rattle.std.proofs.Common.{◌≡◌, take}
use Rattle.unification.specs.Acyclic.{vars_settled}
use Rattle.unification.specs.Nodes.{binds_of}
use Rattle.node_checks.proofs.settle_vars.Given as goal

abbrev pub invariant-loop-x : goal.invariant-loop-x
invariant-loop-x l = take l.x l.var-items ≡ take l.x (vars_settled l.flags (binds_of l.binds l.v))
