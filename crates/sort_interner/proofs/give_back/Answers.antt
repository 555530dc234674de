-- Two runs of words are cleared, one after the other, as `given_back` has them. Assumes nothing.
use Rattle.resolved_sort.specs.Storage.{given_back}
use Rattle.sort_interner.proofs.give_back.Goals as goal

pub returns : goal.returns
unfolding given_back
returns c = cc
