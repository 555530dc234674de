-- What is ready passes the checks. Assumes nothing.
use Rattle.infer_nodes.proofs.Passing.{pass_of}
use Rattle.unifier.proofs.Unifier.bindings.Goals as goal

pub invariant_of-result : goal.invariant_of-result
invariant_of-result c = record { passed = pass_of _ _ _ _ c.requires }
