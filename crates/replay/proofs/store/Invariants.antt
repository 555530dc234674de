-- The loop's invariant: storing what is left comes to storing all. Assumes nothing.
use Rattle.std.proofs.Common.{◌+◌, ◌≡◌, drop}
use Rattle.replay.specs.Inner.Lines.{store_from}
use Rattle.replay.proofs.store.Given as goal

abbrev pub invariant-loop-i : goal.invariant-loop-i
invariant-loop-i l = store_from l.fn.list l.base l.values ≡ store_from l.list (l.base + l.i) (drop l.i l.values)
