-- The trail is the front of the scratch. Assumes nothing.
use Rattle.std.proofs.Common.{refl}
use Rattle.search_steps.proofs.Trying as law
use Rattle.search_steps.proofs.unify_pairs.Goals as goal

pub returns : goal.returns
returns c = (law.at_the_front _ _ _ _ _ _ _ c.args.search.now.room _ _ _ c.unify_on.auto.trail c.unify_on.ensures, refl)
