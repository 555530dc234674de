-- The loop's invariant: the first sorts stand there. Assumes nothing.
use Rattle.std.proofs.Common.{◌≡◌}
use Rattle.resolved_sort.specs.Storage.{fixed_rows}
use Rattle.sort_interner.proofs.put_fixed_six.Given as goal

abbrev pub invariant-loop-kind : goal.invariant-loop-kind
invariant-loop-kind l = l.words ≡ fixed_rows l.at l.kind l.fn.words
