-- The loop over the sorts keeps Going, and the index that of the sorts. Assumes nothing.
use Rattle.resolved_sort.specs.Inner.Storage.{sort_numbers}
use Rattle.search_state.specs.Inner.Solving.{OnlySorts, Indexes}
use Rattle.search_join.proofs.Joining.{Going}
use Rattle.search_join.proofs.join_all.Given as goal

abbrev pub invariant-loop-id : goal.invariant-loop-id
invariant-loop-id l =
    Going l.fn.first.0 (sort_numbers l.rest) l.initial.search.sorts.now l.initial.search.lengths l.search.sorts.now l.lub.0
    l.search.lengths l.id-index
    × OnlySorts l.initial.search l.search
    × Indexes l.search
