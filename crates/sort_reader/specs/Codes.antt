-- The number and the values of each answer of read: document 01's number (`code_read`), and for each case the values
-- that come with it.
use Rattle.std.specs.Prelude.{◌≡◌, ◌⊎◌, List, [], ◌∷◌, ℕ, Ok, Err}
use Rattle.resolved_sort.specs.declared.Refusal.TheVariants.{LongLine}
use Rattle.resolved_sort.specs.Entries.{Joined}
use Rattle.resolved_sort.specs.Entries.{At, Nothing, Full}
use Rattle.resolved_sort.specs.Storage.{sorts_of}
use Rattle.resolved_sort.specs.Checks.{Numbered}
use Rattle.resolved_sort.specs.Entries.{stored}
use Rattle.entry_answers.specs.Packing.{CodeAndValues, coded}
use Rattle.sort_text.specs.declared.Unread.TheVariants.{Refused, NotASort, NoRoom}
use Rattle.sort_text.specs.Parse.{Parsed, parsed, stuck}
use Rattle.sort_text.specs.Reading.{store, ReadAnswer, code_read}

-- where the unread end of the line begins; or the number of its sort, and the sorts and entries after the call
abbrev pub read_values : ReadAnswer → List ℕ
read_values (Ok (s, k)) = s.0 ∷ k.sorts ∷ k.entries ∷ []
read_values (Err (Refused c)) = []
read_values (Err (NotASort at)) = at ∷ []
read_values (Err NoRoom) = []

abbrev pub coded_read : ReadAnswer → CodeAndValues
coded_read r = coded (code_read r) (read_values r)

-- a refusal has the number of a check: 1 to 14, or 19 for a line that is too long
abbrev pub ReadWithin : ReadAnswer → Type 0
ReadWithin (Ok sort) = Unit {0}
ReadWithin (Err (Refused c)) = Numbered c ⊎ (c ≡ LongLine)
ReadWithin (Err (NotASort at)) = Unit {0}
ReadWithin (Err NoRoom) = Unit {0}

abbrev pub store_code : Joined → ℕ
store_code (At s k) = 0
store_code (Nothing k) = 15
store_code Full = 15

abbrev pub line_code_of : List ℕ → ℕ → ℕ → Parsed → ℕ
line_code_of ws n e (parsed t cs) = store_code (stored ws n e (store t (sorts_of ws n e))).answer
line_code_of ws n e (stuck cs) = 20
