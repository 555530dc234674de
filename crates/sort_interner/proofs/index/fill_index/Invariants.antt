-- The index is that of the sorts passed. Assumes nothing.
use Rattle.resolved_sort.specs.Index.{Indexed}
use Rattle.sort_interner.proofs.index.fill_index.Given as goal

abbrev pub invariant-loop-i : goal.invariant-loop-i
invariant-loop-i l = Indexed l.words l.i l.index
