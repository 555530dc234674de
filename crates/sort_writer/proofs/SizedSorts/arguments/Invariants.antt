-- The loop's invariant: the size so far is that of the arguments from the j-th on. Assumes nothing.
use Rattle.std.proofs.Common.{◌≡◌, ◌+◌, ◌-◌, ◌<◌}
use Rattle.resolved_sort.specs.Storage.{entries_of}
use Rattle.sort_writer.specs.Inner.Sizes.{run_size}
use Rattle.sort_writer.proofs.SizedSorts.arguments.Given as goal

abbrev pub invariant-loop-j : goal.invariant-loop-j
invariant-loop-j l =
    (l.j < l.run.count) × (l.size ≡ run_size l.self.sizes.now (entries_of l.self.sorts.now (l.run.start + l.j) (l.run.count - l.j)))
