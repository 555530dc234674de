-- The invariant: the parts so far are stored. Assumes nothing.
use Rattle.std.proofs.Common.{◌≡◌, ◌≤◌, length, take}
use Rattle.unification.specs.Inner.Term.{parts_of}
use Rattle.infer_nodes.specs.Places.{graph}
use Rattle.related_sorts.proofs.arguments.Given as goal

abbrev pub invariant-loop-i : goal.invariant-loop-i
invariant-loop-i l = (l.i ≤ l.count) × (length l.words ≡ 16) × (take l.i l.words ≡ take l.i (parts_of (graph l.places l.fn.id.0)))
