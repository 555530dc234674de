-- The front of three, and no more of them counts. Assumes nothing.
use Rattle.related_sorts.proofs.Numbers as law
use Rattle.related_sorts.proofs.listing.Listed.of.Goals as goal

pub returns : goal.returns
returns c = law.front_numbers _ _ _ c.copy_from_slice.ensures.after
