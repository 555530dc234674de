-- What a recorded line about sorts says, and what comes of it.
use Rattle.std.specs.Prelude.{Bool, true, false, cond, ◌&&◌, List, ℕ, ◌+◌, ◌*◌, ◌%◌, ltb, leb, eqb, length, get_or, replicate}
use Rattle.std.specs.List.{list_all}
use Prim.Native.Char.{code}
use Rattle.words.specs.Inner.Bits.{most_word}
use Rattle.resolved_sort.specs.Storage.{max_sorts, max_entries, row_words, entries_at, full_length}
use Rattle.resolved_sort.specs.Entries.{compared, measured, materialized}
use Rattle.resolved_sort.specs.JoinMeet.{bounded}
use Rattle.resolved_sort.specs.Index.{slots}
use Rattle.sort_entries.specs.Packed.{pack_compared, pack_measured, pack_materialized, PackedSorts, pack_sorts_left}
use Rattle.recorded_sorts.specs.declared.Question.{Question}
use Rattle.recorded_sorts.specs.declared.Question.TheVariants.{PartialCmp, WideningDistance}
use Rattle.recorded_sorts.specs.declared.Question.TheVariants.{IsMaterializable, Join, Meet}
use Rattle.recorded_sorts.specs.declared.Letter.{Letter}
use Rattle.recorded_sorts.specs.declared.Letter.TheVariants.{List as NewList, Row, Arguments, Asks, Other}
use Rattle.recorded_sorts.specs.declared.Progress.{Progress}
use Rattle.replay.specs.declared.Verdict.{Verdict}
use Rattle.replay.specs.declared.Verdict.TheVariants.{Quiet, NotOfForm}
use Rattle.recorded_sorts.specs.declared.RecordedSorts.{RecordedSorts}
use Rattle.replay.specs.Inner.Lines.{max_words, WordsKept, store_from, verdict_of}

unfoldable pub letter_of : ℕ → Letter
letter_of b =
    cond (eqb b (code "L")) NewList
    (cond (eqb b (code "r")) Row
    (cond (eqb b (code "a")) Arguments
    (cond (eqb b (code "c")) (Asks PartialCmp)
    (cond (eqb b (code "d")) (Asks WideningDistance)
    (cond (eqb b (code "m")) (Asks IsMaterializable)
    (cond (eqb b (code "j")) (Asks Join)
    (cond (eqb b (code "k")) (Asks Meet) Other)))))))

-- all rows and entries of the list were read
unfoldable pub complete : Progress → Bool
complete p = cond (eqb p.rows p.sorts) (eqb p.filled p.entries) false

abbrev pub not_of_form : RecordedSorts → RecordedSorts × Verdict
not_of_form l = (l, NotOfForm)

abbrev pub sorts_started : RecordedSorts
sorts_started = record { words = replicate full_length 0; progress = record { sorts = 0; entries = 0; rows = 0; filled = 0 } }

abbrev pub with_progress : RecordedSorts → Progress → RecordedSorts × Verdict
with_progress l next = (record l { progress = next }, Quiet)

-- words kept, all of them or up to one that is none
abbrev pub kept_step : RecordedSorts → Progress → WordsKept → RecordedSorts × Verdict
kept_step l next k =
    cond k.all (with_progress (record l { words = k.words }) next) (not_of_form (record l { words = k.words }))

-- the next words of a list
unfoldable pub keep_of : RecordedSorts → ℕ → List ℕ → Progress → RecordedSorts × Verdict
keep_of l base ns next =
    cond (ltb max_words (length ns)) (not_of_form l) (kept_step l next (store_from l.words base ns))

-- a new list: at most 1,024 sorts and 4,096 entries
unfoldable pub begin_line : RecordedSorts → List ℕ → RecordedSorts × Verdict
begin_line l ns =
    cond (eqb (length ns) 2)
    (cond (complete l.progress)
    (cond (ltb max_sorts (get_or ns 0 0)) (not_of_form l)
    (cond (ltb max_entries (get_or ns 1 0)) (not_of_form l)
    (with_progress l (record { sorts = get_or ns 0 0; entries = get_or ns 1 0; rows = 0; filled = 0 }))))
    (not_of_form l))
    (not_of_form l)

-- the next row, of four words, where one is missing
unfoldable pub row_line : RecordedSorts → List ℕ → RecordedSorts × Verdict
row_line l ns =
    cond (eqb (length ns) 4)
    (cond (leb l.progress.sorts l.progress.rows) (not_of_form l)
    (keep_of l (row_words * l.progress.rows) ns (record l.progress { rows = l.progress.rows + 1 })))
    (not_of_form l)

-- the next entries, where that many are missing
unfoldable pub run_line : RecordedSorts → List ℕ → RecordedSorts × Verdict
run_line l ns =
    cond (ltb max_words (length ns)) (not_of_form l)
    (cond (ltb l.progress.entries (l.progress.filled + length ns)) (not_of_form l)
    (keep_of l (entries_at + l.progress.filled) ns (record l.progress { filled = l.progress.filled + length ns })))

-- what an index has all over it before a call
abbrev pub junk : ℕ
junk = 41377

-- and after it: as it was lent after a refusal by one of the checks 1 to 14, else zero
abbrev pub index_word : ℕ → ℕ
index_word p = cond (leb 1 (p % 256) && leb (p % 256) 14) junk 0

-- the packed answer, where the index is as it must be; else a number that is none
unfoldable pub index_answer : List ℕ → ℕ → ℕ
index_answer ix p = cond (list_all (λ w. eqb w (index_word p)) ix) p 255

abbrev pub checked_index : PackedSorts → ℕ
checked_index l = index_answer l.index l.result

-- what an entry answers on a list, packed
unfoldable pub packed_answer : Question → List ℕ → ℕ → ℕ → ℕ → ℕ → ℕ
packed_answer PartialCmp ws n e a b = pack_compared (compared ws n e a b)
packed_answer WideningDistance ws n e a b = pack_measured (measured ws n e a b)
packed_answer IsMaterializable ws n e a b = pack_materialized (materialized ws n e a b)
packed_answer Join ws n e a b = checked_index (pack_sorts_left (bounded true ws (replicate slots junk) n e a b))
packed_answer Meet ws n e a b = checked_index (pack_sorts_left (bounded false ws (replicate slots junk) n e a b))

-- a question about two sorts of a complete list, and the recorded answer
unfoldable pub ask_line : RecordedSorts → Question → List ℕ → Verdict
ask_line l q ns =
    cond (eqb (length ns) 3)
    (cond (complete l.progress)
    (cond (ltb most_word (get_or ns 0 0)) NotOfForm
    (cond (ltb most_word (get_or ns 1 0)) NotOfForm
    (verdict_of (packed_answer q l.words l.progress.sorts l.progress.entries (get_or ns 0 0) (get_or ns 1 0)) (get_or ns 2 0))))
    NotOfForm)
    NotOfForm

-- by the letter of a line
unfoldable pub by_letter : Letter → RecordedSorts → List ℕ → RecordedSorts × Verdict
by_letter NewList l ns = begin_line l ns
by_letter Row l ns = row_line l ns
by_letter Arguments l ns = run_line l ns
by_letter (Asks q) l ns = (l, ask_line l q ns)
by_letter Other l ns = not_of_form l
