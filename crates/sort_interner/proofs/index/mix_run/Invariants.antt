-- What is left comes to the whole. Assumes nothing.
use Rattle.std.proofs.Common.{◌≡◌}
use Rattle.resolved_sort.specs.Storage.{entries_of}
use Rattle.resolved_sort.specs.Index.{mixed_all}
use Rattle.sort_interner.proofs.Mixing.{mixed_from}
use Rattle.sort_interner.proofs.index.mix_run.Given as goal

abbrev pub invariant-loop-k : goal.invariant-loop-k
invariant-loop-k l =
    mixed_all l.h (entries_of l.words l.run.start l.run.count) ≡ mixed_from l.mix_so_far l.k (entries_of l.words l.run.start l.run.count)
