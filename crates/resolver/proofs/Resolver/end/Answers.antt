-- What is ready passes the checks. Assumes nothing.
use Rattle.std.proofs.Common.{rules}
use Rattle.infer_nodes.proofs.Passing.{pass_of}
use Rattle.resolver.proofs.Laws as law
use Rattle.resolver.proofs.Resolver.end.Goals as goal

pub invariant_of-bindings : goal.invariant_of-bindings
invariant_of-bindings c = record { passed = law.pass_there _ _ _ _ _ _ c.sorts-sorts.ensures.0 (search rules) (pass_of _ _ _ _ c.requires.0.0) }
