-- By the comparison of the two slices. Assumes nothing.
use Rattle.std.proofs.Common.{ap}
use Rattle.search_state.specs.Inner.Solving.{has_best}
use Rattle.search_leaf.proofs.Ranks as law
use Rattle.search_leaf.proofs.rank.Goals as goal

pub returns-in_default : goal.returns-in_default
returns-in_default c = law.rank_without _ _ _ (law.no_best _ c.in_default.not-Some)

pub returns : goal.returns
returns c =
    law.rank_with _ _ _ c.compare.result.ordering (ap has_best c.in-Some.is)
    (law.ranked_slices c.args.search.now.scratch.now c.args.at.measure _ c.compare.ensures.ranking)
