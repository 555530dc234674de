-- An answer that tells of a leaf found or of full room is not Missed. By its cases. Assumes nothing.
use mathlib.Core.Path.{◌≡◌, subst}
use Rattle.search_state.specs.Inner.States.{State, Answer, Found, Missed, Full}

abbrev pub FoundOrFull : Answer → Type 0
FoundOrFull (Found s) = Unit {0}
FoundOrFull (Missed s) = ⊥
FoundOrFull (Full room lengths) = Unit {0}

pub not_missed : {r : Answer} → FoundOrFull r → (s : State) → r ≡ Missed s → ⊥
not_missed {r} h s e = subst FoundOrFull e h
