-- What goes on from branch to branch, and the answers of a search, as the definitions see them.
use Rattle.std.specs.Prelude.{Bool, ℕ}
use Rattle.unification.specs.declared.Lengths.{Lengths}

-- how much of the lists is in use, whether there is an incumbent, and whether another leaf had its measure
pub record State : Type 0 where
  pub lengths : Lengths
  pub best : Bool
  pub tied : Bool

-- whether a leaf was found, with the state then; or the room that ended, 15 or 16, with the lengths then
pub data Answer : Type 0 where
  Found : State → Answer
  Missed : State → Answer
  Full : ℕ → Lengths → Answer
