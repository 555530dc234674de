-- The list has grown, its index with it, and the rest of the steps comes to the whole. Assumes nothing.
use Rattle.std.proofs.Common.{◌≡◌, length}
use Rattle.resolved_sort.specs.Index.{Indexed}
use Rattle.sort_reader.proofs.Ways.{Going}
use Rattle.sort_reader.proofs.run.Given as goal

abbrev pub invariant-loop-step : goal.invariant-loop-step
invariant-loop-step l =
    (l.sorts.words.ghost_name ≡ l.initial.sorts.words.ghost_name)
    × (l.sorts.index.ghost_name ≡ l.initial.sorts.index.ghost_name)
    × Indexed l.sorts.words.now l.sorts.counts.sorts l.sorts.index.now
    × (length l.stack.ids ≡ 256)
    × Going l.initial.sorts.words.now l.initial.sorts.counts l.steps l.sorts.words.now l.sorts.counts l.step-index l.stack.ids l.stack.depth
