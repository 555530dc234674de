-- The loop over the sources keeps Going, and the index that of the sorts. Assumes nothing.
use Rattle.resolved_sort.specs.Inner.Storage.{sort_numbers}
use Rattle.search_state.specs.Inner.Solving.{OnlySorts, Indexes}
use Rattle.search_join.proofs.Resolving.{Going}
use Rattle.search_join.proofs.resolve_sources.Given as goal

abbrev pub invariant-loop-i : goal.invariant-loop-i
invariant-loop-i l =
    Going l.search.nodes.now l.search.binds.now l.search.lists.now l.sources.start l.sources.count l.initial.search.sorts.now
    (sort_numbers l.initial.ids) l.initial.search.lengths l.search.sorts.now (sort_numbers l.ids) l.search.lengths l.i
    × OnlySorts l.initial.search l.search
    × Indexes l.search
