-- Reading a line into the sort storage: which sorts are stored, in which order, and what the entry answers and leaves.
use Rattle.std.specs.Prelude.{Bool, ◌&&◌, List, [], ◌∷◌, ◌++◌, ℕ, ◌-◌, length, leb, Result, Ok, Err}
use Rattle.words.specs.Words.{cleared}
use Rattle.resolved_sort.specs.declared.Refusal.TheVariants.{TooShort, LongLine}
use Rattle.resolved_sort.specs.declared.SortId.{SortId}
use Rattle.resolved_sort.specs.declared.Counts.{Counts}
use Rattle.resolved_sort.specs.Entries.{Joined}
use Rattle.resolved_sort.specs.Entries.{At, Nothing, Full}
use Rattle.resolved_sort.specs.Tree.{Tree, flat, container, function, Trees, no_args, arg}
use Rattle.resolved_sort.specs.Interning.{Sorts, Outcome, made, ◌then◌, intern}
use Rattle.resolved_sort.specs.Storage.{sorts_of, given_back}
use Rattle.resolved_sort.specs.Checks.{Check, first_failing, sort_checks, at_ceiling, code_of}
use Rattle.resolved_sort.specs.Entries.{refused_or, Stored, stored}
use Rattle.resolved_sort.specs.Index.{index_long}
use Rattle.sort_text.specs.declared.Unread.{Unread}
use Rattle.sort_text.specs.declared.Unread.TheVariants.{Refused, NotASort, NoRoom}
use Rattle.sort_text.specs.Parse.{Parsed, parsed, stuck, line}

-- "A line's sorts are stored parts first, arguments left to right, then the range, then the whole."
unfoldable mutual
  pub store : Tree → Sorts → Outcome Tree
  store (flat a) S = intern (flat a) S
  store (container o t) S = store t S then (λ u S. intern (container o u) S)
  store (function ts r) S = stores ts S then (λ us S. store r S then (λ v S. intern (function us v) S))

  pub stores : Trees → Sorts → Outcome Trees
  stores no_args S = made no_args S
  stores (arg t ts) S = store t S then (λ u S. stores ts S then (λ us S. made (arg u us) S))

-- 19. "A text line is above 200 bytes, its LF not counted."
abbrev pub max_line : ℕ
max_line = 200

unfoldable pub short_line : List ℕ → Bool
short_line bs = leb (length bs) max_line

-- 14 is said of the storage, and of the index: "The index is scratch of its own, 2,048 words, 14 when shorter".
unfoldable pub read_checks : List ℕ → List ℕ → ℕ → ℕ → List ℕ → List Check
read_checks ws ix n e bs =
    sort_checks ws n e
    ++ (record { refusal = TooShort; passes = at_ceiling ws && index_long ix }
    ∷ record { refusal = LongLine; passes = short_line bs }
    ∷ [])

-- The sort of a line, stored, and the counts after it; or why the line is not read.
abbrev pub ReadAnswer : Type 0
ReadAnswer = Result (SortId × Counts) Unread

-- document 01's number of each answer
unfoldable pub code_read : ReadAnswer → ℕ
code_read (Ok sort) = 0
code_read (Err (Refused c)) = code_of c
code_read (Err (NotASort at)) = 20
code_read (Err NoRoom) = 15

-- What reading a line leaves of the words, and its answer.
pub record WordsLeft : Type 0 where
  pub words : List ℕ
  pub answer : ReadAnswer

abbrev pub words_left : List ℕ → ReadAnswer → WordsLeft
words_left ws r = record { words = ws; answer = r }

-- The words and counts that reading a line has left, and its answer.
abbrev pub read_at : List ℕ → Counts → Result SortId Unread → WordsLeft
read_at ws k (Ok s) = words_left ws (Ok (s, k))
read_at ws k (Err u) = words_left ws (Err u)

unfoldable pub stored_by : List ℕ → ℕ → ℕ → Stored → Joined → WordsLeft
stored_by ws n e r (At s k) = words_left r.words (Ok (s, k))
stored_by ws n e r (Nothing k) = words_left (given_back n e ws) (Err NoRoom)
stored_by ws n e r Full = words_left (given_back n e ws) (Err NoRoom)

-- A line that is no sort stores nothing, also where there is no room.
unfoldable pub read_as_of : List ℕ → ℕ → ℕ → List ℕ → Parsed → WordsLeft
read_as_of ws n e bs (parsed t cs) =
    let r : Stored = stored ws n e (store t (sorts_of ws n e)) in stored_by ws n e r r.answer
read_as_of ws n e bs (stuck cs) = words_left ws (Err (NotASort (length bs - length cs)))

unfoldable pub reading_words : List ℕ → List ℕ → ℕ → ℕ → List ℕ → WordsLeft
reading_words ws ix n e bs =
    refused_or (first_failing (read_checks ws ix n e bs)) (λ c. words_left ws (Err (Refused c)))
    (read_as_of ws n e bs (line bs))

-- The index is "zero after each call that passes its checks", all its lent words: 19 and 20 are checks.
unfoldable pub index_left : List ℕ → ReadAnswer → List ℕ
index_left ix (Ok sort) = cleared ix
index_left ix (Err (Refused c)) = ix
index_left ix (Err (NotASort at)) = ix
index_left ix (Err NoRoom) = cleared ix

-- What the entry leaves of all that it is lent, and its answer.
pub record ReadLeft : Type 0 where
  pub words : List ℕ
  pub index : List ℕ
  pub answer : ReadAnswer

abbrev pub read_left : List ℕ → List ℕ → ReadAnswer → ReadLeft
read_left ws ix r = record { words = ws; index = ix; answer = r }

unfoldable pub reading : List ℕ → List ℕ → ℕ → ℕ → List ℕ → ReadLeft
reading ws ix n e bs =
    let l : WordsLeft = reading_words ws ix n e bs in read_left l.words (index_left ix l.answer) l.answer
