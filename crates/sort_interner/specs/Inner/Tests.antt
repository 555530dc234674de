-- A row held against another, by name, and the run of a row as far as it is looked at.
use Rattle.std.specs.Prelude.{◌≡◌, Bool, cond, List, ℕ, eqb}
use Rattle.resolved_sort.specs.declared.Run.{Run}
use Rattle.resolved_sort.specs.declared.SortId.{SortId}
use Rattle.resolved_sort.specs.Storage.{function_kind, kind_at, start_at, count_at, entries_of, Row, words_at}
use Rattle.resolved_sort.specs.Rows.{same_row}
use Rattle.resolved_sort.specs.Inner.Storage.{sort_numbers}

-- The row of a kind, a part and arguments.
abbrev pub given_row : ℕ → SortId → List SortId → Row
given_row kind part args = record { kind = kind; part = part.0; args = sort_numbers args }

-- Row i is the row r.
unfoldable pub is_row : List ℕ → Row → ℕ → Bool
is_row ws r i = same_row (words_at ws i) r

-- only a function has a run: of every other kind it is empty, whatever the words there are
unfoldable pub run_words : List ℕ → ℕ → Run
run_words ws i =
    cond (eqb (kind_at ws i) function_kind) (record { start = start_at ws i; count = count_at ws i })
    (record { start = 0; count = 0 })

pub record RunAt (ws : List ℕ) (i : ℕ) (r : Run) : Type 0 where
  pub is : r ≡ run_words ws i
  pub entries : entries_of ws r.start r.count ≡ (words_at ws i).args
