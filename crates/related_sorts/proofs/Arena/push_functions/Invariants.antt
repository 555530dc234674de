-- To make the functions over the ranges that are left is to make all; the index is that of the sorts. Assumes nothing.
use Rattle.related_sorts.specs.Arena.{world, Keeps, Indexes}
use Rattle.related_sorts.proofs.Laws.{Over}
use Rattle.related_sorts.proofs.Arena.push_functions.Given as goal

abbrev pub invariant-loop-id : goal.invariant-loop-id
invariant-loop-id l =
    Keeps l.initial.self l.self
    × Indexes l.self
    × Over l.domain l.fn.ranges (world l.initial.self) l.id-items (world l.self) l.id-index
