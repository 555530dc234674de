-- By rank: what is greater is dominated. Assumes nothing.
use Rattle.search_state.specs.Inner.Solving.{state_of}
use Rattle.search_leaf.proofs.Ranks as law
use Rattle.search_leaf.proofs.dominated.Goals as goal

pub returns : goal.returns
returns c =
    law.dominated_is_greater _ c.args.search.now.sizes (state_of c.args.search.now) c.args.at c.requires c.rank.result c.rank.ensures
    _ c.is_gt.ensures
