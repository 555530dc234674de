-- What is left comes to the whole. Assumes nothing.
use Rattle.std.proofs.Common.{◌≡◌}
use Rattle.resolved_sort.specs.Inner.Storage.{sort_numbers}
use Rattle.resolved_sort.specs.Index.{mixed_all}
use Rattle.sort_interner.proofs.Mixing.{mixed_from}
use Rattle.sort_interner.proofs.index.mix_args.Given as goal

abbrev pub invariant-loop-id : goal.invariant-loop-id
invariant-loop-id l = mixed_all l.h (sort_numbers l.args) ≡ mixed_from l.mix_so_far l.id-index (sort_numbers l.args)
