-- What one line makes of a list: docs/FORMAT.md, "Lines and words", "A list" and "Questions". What a line of a list
-- gives is said in Rattle.list_forms.specs.Lines; here it is put into the words. Where this differs from the oracle's
-- reader: a line not of the format ends its list and not the program; an answer is not looked at, and a question may
-- have more than one; counts of rows stop at 65,535, where the oracle stops the program; a 513th base name is a line
-- not of the format, and so is a line `ceilings`.
use Rattle.std.specs.Prelude.{Bool, cond, ltb, eqb, ℕ, zero, suc, ◌+◌, ◌*◌, ◌-◌, List, [], ◌∷◌, length, get_or, set, take}
use Rattle.std.specs.Prelude.{Option, Some, None, Result, Ok, Err}
use Rattle.std.proofs.lemmas.List.Edits.{sets}
use Rattle.std.specs.List.{list_all}
use Rattle.words.specs.Words.{zeros}
use Rattle.sort_text.specs.Reading.{max_line}
use Rattle.resolved_sort.specs.Storage.{row_words, fixed_sorts, fixed_rows}
use Rattle.unification.specs.Nodes.{free_word}
use Rattle.list_memory.specs.declared.Form.{Form}
use Rattle.list_memory.specs.declared.Heard.{Heard}
use Rattle.list_memory.specs.declared.Table.{Table}
use Rattle.list_memory.specs.declared.Stage.{Stage}
use Rattle.list_memory.specs.Memory.{most_rows, list_sorts_at, memory_words, rows_at, rows_given, sort_list, entry_list, default_at, stage_at}
use Rattle.list_memory.specs.Memory.{Taken, taken}
use Rattle.list_memory.specs.Layouts.{table_number, stage_number, layout_of, list_row_at}
use Rattle.list_tokens.specs.declared.Keyword.{Keyword}
use Rattle.list_tokens.specs.declared.Token.{Token}
use Rattle.list_tokens.specs.declared.Start.{Start}
use Rattle.list_tokens.specs.Tokens.{tokens_of, is_printable, line_start}
use Rattle.list_forms.specs.declared.Item.{Item}
use Rattle.list_forms.specs.declared.Rows.{Rows}
use Rattle.list_forms.specs.declared.Run.{Run}
use Rattle.list_forms.specs.declared.Put.{Put}
use Rattle.list_forms.specs.declared.Plan.{Plan}
use Rattle.list_forms.specs.Items.{token_at, word_at, fits_form}
use Rattle.list_forms.specs.Plans.{saturated}
use Rattle.list_forms.specs.Lines.{plan_of, asks_other}

-- counts stop
unfoldable pub one_more_word : ℕ → ℕ
one_more_word n = cond (ltb n most_rows) (n + 1) n

-- a row put where the next row of a table is, below its ceiling: as many words as the table's rows have
unfoldable pub row_kept : List ℕ → Table → List ℕ → List ℕ
row_kept ws k row =
    cond (ltb (rows_given ws (table_number k)) (layout_of k).ceiling)
    (sets ws (list_row_at k (rows_given ws (table_number k))) (take (layout_of k).width row)) ws

-- One more row of a table: "Rows past a ceiling of document 01 are counted and not kept".
unfoldable pub appended : List ℕ → Table → List ℕ → List ℕ
appended ws k row = set (row_kept ws k row) (rows_at + table_number k) (one_more_word (rows_given ws (table_number k)))

-- the row after a row: its second word grows by a step, and stops where counts of rows do
abbrev pub next_row : ℕ → List ℕ → List ℕ
next_row step row = set row 1 (saturated (get_or row 1 0 + step))

-- n more rows of a table, the first of them a row
unfoldable pub append_times : ℕ → List ℕ → Table → ℕ → List ℕ → List ℕ
append_times zero ws k step row = ws
append_times (suc n) ws k step row = append_times n (appended ws k row) k step (next_row step row)

abbrev pub rows_taken : List ℕ → Option Rows → List ℕ
rows_taken ws None = ws
rows_taken ws (Some r) = append_times r.times ws r.table r.step r.row

-- m words of the line from word i on, each a row of a table
unfoldable pub append_run : ℕ → List ℕ → Table → List Token → ℕ → List ℕ
append_run zero ws k t i = ws
append_run (suc m) ws k t i = append_run m (appended ws k (word_at t i ∷ 0 ∷ 0 ∷ 0 ∷ 0 ∷ [])) k t (i + 1)

abbrev pub run_taken : List ℕ → List Token → Option Run → List ℕ
run_taken ws t None = ws
run_taken ws t (Some r) = append_run (r.to - r.from) ws r.table t r.from

-- a word set
abbrev pub put_taken : List ℕ → Option Put → List ℕ
put_taken ws None = ws
put_taken ws (Some p) = set ws p.at p.value

-- so many free variables
abbrev pub free_rows : ℕ → Rows
free_rows n = record { table = Table.Vars; times = n; step = 0; row = free_word ∷ 0 ∷ 0 ∷ 0 ∷ 0 ∷ [] }

-- what a line gives, put into the words: free variables, words of the line, rows, words set
unfoldable pub carried : List ℕ → List Token → Plan → List ℕ
carried ws t p =
    let free = rows_taken ws (Some (free_rows p.free)) in
    let run = run_taken free t p.run in
    let rows = rows_taken run p.rows in
    put_taken (put_taken rows p.put) p.told

-- a line not of the format: all is skipped up to the next list
unfoldable pub bad_line : List ℕ → Form → Taken
bad_line ws f = taken (set ws stage_at (stage_number Stage.Bad)) (Err f)

-- "The list has the fixed six sorts, the default sort Bool, and nothing else."
unfoldable pub begun : List ℕ → List ℕ
begun ws =
    let six = fixed_rows list_sorts_at fixed_sorts (zeros 0 memory_words ws) in
    set (set (set six rows_at fixed_sorts) default_at 1) stage_at (stage_number Stage.Reading)

-- `bare` "takes the fixed six sorts away; while there are six sorts and no entries"
unfoldable pub bare_taken : List ℕ → List Token → Taken
bare_taken ws t =
    cond (eqb (length t) 1)
    (cond (eqb (rows_given ws sort_list) fixed_sorts)
    (cond (eqb (rows_given ws entry_list) 0)
    (taken (set (zeros 0 (row_words * fixed_sorts) ws) rows_at 0) (Ok Heard.Quiet))
    (bad_line ws Form.Bare))
    (bad_line ws Form.Bare))
    (bad_line ws Form.Bare)

abbrev pub plan_taken : List ℕ → List Token → Result Plan Form → Taken
plan_taken ws t (Ok p) = taken (carried ws t p) (Ok Heard.Quiet)
plan_taken ws t (Err f) = bad_line ws f

-- ? solve, or another question
unfoldable pub question_taken : List ℕ → List Token → Taken
question_taken ws t =
    cond (fits_form t (Item.Word Keyword.Ask ∷ Item.Word Keyword.Solve ∷ []))
    (taken (set ws stage_at (stage_number Stage.Asked)) (Ok Heard.Asks))
    (cond (asks_other t) (taken (set ws stage_at (stage_number Stage.Asked)) (Ok Heard.AsksOther)) (bad_line ws Form.Asks))

-- whether the list is read so far
abbrev pub stage_is : List ℕ → Stage → Bool
stage_is ws stage = eqb (get_or ws stage_at 0) (stage_number stage)

-- by the first word: `bare`, or a line that gives rows or words of the list
abbrev pub row_by : Token → List ℕ → List Token → Taken
row_by (Token.Keyword Keyword.Bare) ws t = bare_taken ws t
row_by first ws t = plan_taken ws t (plan_of ws t)

-- "After a question only answers, more questions, comments and the next `list` may follow."
abbrev pub words_by : Token → List ℕ → List Token → Taken
words_by (Token.Keyword Keyword.Ask) ws t = question_taken ws t
words_by first ws t = cond (stage_is ws Stage.Asked) (bad_line ws Form.Asked) (row_by first ws t)

unfoldable pub words_taken : List ℕ → List Token → Taken
words_taken ws t = words_by (token_at t 0) ws t

-- "Every other line holds printable ASCII only. It has at most 200 bytes, unless it is an answer."
unfoldable pub other_taken : List ℕ → List ℕ → Taken
other_taken ws line =
    cond (stage_is ws Stage.Bad) (taken ws (Ok Heard.Quiet))
    (cond (list_all is_printable line)
    (cond (ltb max_line (length line)) (bad_line ws Form.Length)
    (cond (stage_is ws Stage.NoList) (bad_line ws Form.List) (words_taken ws (tokens_of line))))
    (bad_line ws Form.Printable))

-- an answer is not looked at; it stands after a question
unfoldable pub answer_taken : List ℕ → List ℕ → Taken
answer_taken ws line =
    cond (stage_is ws Stage.Bad) (taken ws (Ok Heard.Quiet))
    (cond (list_all is_printable line)
    (cond (stage_is ws Stage.Asked) (taken ws (Ok Heard.Quiet)) (bad_line ws Form.Question))
    (bad_line ws Form.Printable))

-- `list TEXT` begins a list, wherever it stands
unfoldable pub list_taken : List ℕ → List ℕ → Taken
list_taken ws line =
    cond (list_all is_printable line)
    (cond (ltb max_line (length line)) (bad_line ws Form.Length) (taken (begun ws) (Ok Heard.Begins)))
    (bad_line ws Form.Printable)

unfoldable pub by_start : Start → List ℕ → List ℕ → Taken
by_start Start.Skipped ws line = taken ws (Ok Heard.Quiet)
by_start Start.Answer ws line = answer_taken ws line
by_start Start.NewList ws line = list_taken ws line
by_start Start.Other ws line = other_taken ws line

-- The words of the list after a line, without its LF, and what came of it.
unfoldable pub line_taken : List ℕ → List ℕ → Taken
line_taken ws line = by_start (line_start line) ws line
