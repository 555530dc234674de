-- What is ready passes the checks. Assumes nothing.
use Rattle.related_sorts.proofs.Lent.{pass_there}
use Rattle.related_sorts.proofs.Arena.bindings.Goals as goal

pub invariant_of-result : goal.invariant_of-result
invariant_of-result c = record { passed = pass_there c.args.self.now c.places-places.result c.places-places.ensures _ c.requires }
