-- The loop by the laws of reading out; the index stays that of the sorts. Assumes nothing.
use Rattle.std.proofs.Common.{◌≡◌}
use Rattle.search_state.specs.Inner.Solving.{KeepsRest, Indexes}
use Rattle.search_leaf.proofs.Readings.{Extracting}
use Rattle.search_leaf.proofs.extract.Given as goal

abbrev pub invariant-loop-i : goal.invariant-loop-i
invariant-loop-i l =
    Extracting l.search.nodes.now l.search.binds.now l.search.lists.now l.initial.search.sizes.default l.initial.search.sizes.exprs
    l.initial.search.sorts.now l.initial.search.scratch.now l.initial.search.lengths l.search.sorts.now l.search.scratch.now
    l.search.lengths l.i
    × KeepsRest l.initial.search l.search
    × (l.search.nodes.now ≡ l.initial.search.nodes.now)
    × Indexes l.search
