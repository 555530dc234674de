-- A token goes no further back, and not past the end of the line. Assumes nothing.
use Rattle.std.proofs.Common.{refl}
use Rattle.sort_recogniser.proofs.States as way
use Rattle.sort_recogniser.proofs.Recogniser.expect.Goals as goal

pub invariant_of-self : goal.invariant_of-self
invariant_of-self c = record { room = way.room_after c.args.self.now c.args.self.now.room _ c.next_token-found.ensures _ refl }
