-- The loop's invariant: the sizes of the sorts passed are there. Assumes nothing.
use Rattle.std.proofs.Common.{◌≡◌, length}
use Rattle.sort_writer.specs.Inner.Sizes.{sizes_to}
use Rattle.sort_writer.proofs.fill_sizes.Given as goal

abbrev pub invariant-loop-i : goal.invariant-loop-i
invariant-loop-i l = (length l.sizes ≡ length l.initial.sizes) × (l.sizes ≡ sizes_to l.sorts l.initial.sizes l.i)
