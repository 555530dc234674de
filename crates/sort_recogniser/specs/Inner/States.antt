-- What recognising says from one state of the recogniser to another.
use Rattle.std.specs.Prelude.{◌≡◌, ℕ, length, take, Result}
use Rattle.sort_text.specs.Parse.{Parsed}
use Rattle.sort_recogniser.specs.declared.Stuck.{Stuck}
use Rattle.sort_recogniser.specs.declared.Recogniser.{Recogniser}
use Rattle.sort_recogniser.specs.Inner.Room.{needed_from}
use Rattle.sort_recogniser.specs.Inner.Says.{ended, Says, SaysRest}

-- the steps written, with one for each byte that is left
abbrev pub needed : Recogniser → ℕ
needed r = needed_from r.reader.line.now r.reader.at r.count

-- The line stays, and so does the length of the buffer.
abbrev pub Same : Recogniser → Recogniser → Type 0
Same old new = (new.reader.line.now ≡ old.reader.line.now) × (length new.steps.now ≡ length old.steps.now)

-- Reading goes on from old to new by P, at lowest or later.
pub record Read (old : Recogniser) (lowest : ℕ) (P : Parsed) (new : Recogniser) (r : Result (Unit {0}) Stuck)
    : Type 0 where
  pub same : Same old new
  pub says : Says old.reader.line.now lowest (needed old) (take old.count old.steps.now) P new.steps.now
      (ended new.reader.at new.count r)

pub record ReadRest (old : Recogniser) (k : ℕ) (new : Recogniser) (r : Result (Unit {0}) Stuck) : Type 0 where
  pub same : Same old new
  pub says : SaysRest old.reader.line.now old.reader.at old.steps.now old.count k new.steps.now
      (ended new.reader.at new.count r)

-- all but the position
abbrev pub same_but_place : Recogniser → Recogniser → Type 0
same_but_place old new =
    (new.reader.line.now ≡ old.reader.line.now) × (new.steps.now ≡ old.steps.now) × (new.count ≡ old.count)
