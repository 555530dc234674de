-- The functions from the i-th on stand over what was found; the index is that of the sorts. Assumes nothing.
use Rattle.std.proofs.Common.{length}
use Rattle.unification.specs.Making.{made}
use Rattle.related_sorts.specs.Listed.{places}
use Rattle.related_sorts.specs.Arena.{world, Keeps, Indexes}
use Rattle.related_sorts.proofs.Ranges.{Rising}
use Rattle.related_sorts.proofs.Arena.over_functions.Given as goal

abbrev pub invariant-loop-i : goal.invariant-loop-i
invariant-loop-i l =
    Keeps l.initial.self l.self
    × Indexes l.self
    × Rising l.functions (length l.functions) (made (places l.fn.found) (world l.initial.self)) l.i (made (places l.over) (world l.self))
