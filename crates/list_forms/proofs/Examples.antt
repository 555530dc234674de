-- What sample lines give to a list without rows, computed from the definitions: one line for each form of docs/FORMAT.md, and
-- lines that are not of the format. Assumes nothing.
use mathlib.Core.Path.{◌≡◌, refl}
use mathlib.Core.List.{List, [], ◌∷◌, map, ◌++◌}
use Prim.Native.Nat.{ℕ}
use Prim.Native.String.{String}
use Rattle.std.specs.Prelude.{Option, Some, None, Result, Ok, Err}
use Rattle.sort_text.specs.Parse.{same_bytes}
use Rattle.sort_text.specs.Tokens.{run, past, skip}
use Rattle.list_memory.specs.declared.Form.{Form}
use Rattle.list_memory.specs.Layouts.{table_number}
use Rattle.list_tokens.specs.Words as Words
use Rattle.text_out.specs.Quoted.{bytes_of}
use Rattle.list_tokens.specs.Tokens as Tokens
use Rattle.list_tokens.specs.Tokens.{tokens_from}
use Rattle.list_forms.specs.declared.Run.{Run}
use Rattle.list_forms.specs.declared.Rows.{Rows}
use Rattle.list_forms.specs.declared.Put.{Put}
use Rattle.list_forms.specs.declared.Plan.{Plan}
use Rattle.list_forms.specs.Items as Items
use Rattle.list_forms.specs.Plans as Plans
use Rattle.list_forms.specs.Lines as Lines
use Rattle.list_forms.specs.Lines.{plan_of}

told_run : Option Run → List ℕ
told_run None = 0 ∷ 0 ∷ 0 ∷ []
told_run (Some r) = table_number r.table ∷ r.from ∷ r.to ∷ []

told_rows : Option Rows → List ℕ
told_rows None = 0 ∷ 0 ∷ 0 ∷ 0 ∷ 0 ∷ 0 ∷ 0 ∷ []
told_rows (Some r) = table_number r.table ∷ r.times ∷ r.row

told_put : Option Put → List ℕ
told_put None = 36160 ∷ 0 ∷ []
told_put (Some p) = p.at ∷ p.value ∷ []

-- Free variables; words of the line: table, from, to; rows: table, times, row; words set: at, value, at, value, at 36160
-- where none is. [] where not of the format.
summary : Result Plan Form → List ℕ
summary (Err f) = []
summary (Ok p) = p.free ∷ (told_run p.run ++ (told_rows p.rows ++ (told_put p.put ++ told_put p.told)))

planned : String → List ℕ
planned text = summary (plan_of [] (tokens_from 8 (bytes_of text)))

lines_of_rows :
    map planned
    ("sort s0 List Nat"
    ∷ "sort s0 fn Bool s7 -> Real"
    ∷ "sort s0 fn -> unit"
    ∷ "sort s0 TypeVar 9"
    ∷ "sort s0 Real"
    ∷ "sort s0 raw 1 2 3 4"
    ∷ "sort s1 Nat"
    ∷ "sort s0"
    ∷ "sort s0 Nat Nat"
    ∷ "sort s0 List n0"
    ∷ "sort s0 fn Bool Nat"
    ∷ "var v0 n0"
    ∷ "var v1 n0"
    ∷ "vars 7"
    ∷ "vars"
    ∷ "bind v0 Nat"
    ∷ "node n0 Bag n3"
    ∷ "node n0 fn s1023 -> n64511"
    ∷ "node n0 List s1024"
    ∷ "node n0 List n64512"
    ∷ "node n0 var v5"
    ∷ "node n0 Nat"
    ∷ "expr e0 Pos"
    ∷ "expr e1 Pos"
    ∷ "name e3 variable"
    ∷ "name e3 op s9"
    ∷ "name e3 builtin"
    ∷ "name e3 raw 7 8"
    ∷ "name e3 op"
    ∷ "default s65535"
    ∷ "default n0"
    ∷ [])
    ≡ (0 ∷ 0 ∷ 0 ∷ 0 ∷ 0 ∷ 1 ∷ 6 ∷ 3 ∷ 0 ∷ 0 ∷ 0 ∷ 36160 ∷ 0 ∷ 36160 ∷ 0 ∷ [])
    ∷ (0 ∷ 1 ∷ 3 ∷ 5 ∷ 0 ∷ 1 ∷ 11 ∷ 5 ∷ 0 ∷ 2 ∷ 0 ∷ 36160 ∷ 0 ∷ 36160 ∷ 0 ∷ [])
    ∷ (0 ∷ 1 ∷ 3 ∷ 3 ∷ 0 ∷ 1 ∷ 11 ∷ 0 ∷ 0 ∷ 0 ∷ 0 ∷ 36160 ∷ 0 ∷ 36160 ∷ 0 ∷ [])
    ∷ (0 ∷ 0 ∷ 0 ∷ 0 ∷ 0 ∷ 1 ∷ 13 ∷ 9 ∷ 0 ∷ 0 ∷ 0 ∷ 36160 ∷ 0 ∷ 36160 ∷ 0 ∷ [])
    ∷ (0 ∷ 0 ∷ 0 ∷ 0 ∷ 0 ∷ 1 ∷ 5 ∷ 0 ∷ 0 ∷ 0 ∷ 0 ∷ 36160 ∷ 0 ∷ 36160 ∷ 0 ∷ [])
    ∷ (0 ∷ 0 ∷ 0 ∷ 0 ∷ 0 ∷ 1 ∷ 1 ∷ 2 ∷ 3 ∷ 4 ∷ 0 ∷ 36160 ∷ 0 ∷ 36160 ∷ 0 ∷ [])
    ∷ []
    ∷ []
    ∷ []
    ∷ []
    ∷ []
    ∷ (1 ∷ 0 ∷ 0 ∷ 0 ∷ 2 ∷ 1 ∷ 14 ∷ 0 ∷ 0 ∷ 0 ∷ 0 ∷ 36160 ∷ 0 ∷ 36160 ∷ 0 ∷ [])
    ∷ []
    ∷ (7 ∷ 0 ∷ 0 ∷ 0 ∷ 0 ∷ 0 ∷ 0 ∷ 0 ∷ 0 ∷ 0 ∷ 0 ∷ 36160 ∷ 0 ∷ 36160 ∷ 0 ∷ [])
    ∷ []
    ∷ []
    ∷ (0 ∷ 0 ∷ 0 ∷ 0 ∷ 2 ∷ 1 ∷ 9 ∷ 1027 ∷ 0 ∷ 0 ∷ 0 ∷ 36160 ∷ 0 ∷ 36160 ∷ 0 ∷ [])
    ∷ (0 ∷ 3 ∷ 3 ∷ 4 ∷ 2 ∷ 1 ∷ 11 ∷ 65535 ∷ 0 ∷ 1 ∷ 0 ∷ 36160 ∷ 0 ∷ 36160 ∷ 0 ∷ [])
    ∷ []
    ∷ []
    ∷ (0 ∷ 0 ∷ 0 ∷ 0 ∷ 2 ∷ 1 ∷ 14 ∷ 5 ∷ 0 ∷ 0 ∷ 0 ∷ 36160 ∷ 0 ∷ 36160 ∷ 0 ∷ [])
    ∷ []
    ∷ (0 ∷ 0 ∷ 0 ∷ 0 ∷ 5 ∷ 1 ∷ 2 ∷ 0 ∷ 0 ∷ 0 ∷ 0 ∷ 36160 ∷ 0 ∷ 36160 ∷ 0 ∷ [])
    ∷ []
    ∷ (0 ∷ 0 ∷ 0 ∷ 0 ∷ 6 ∷ 1 ∷ 3 ∷ 1 ∷ 0 ∷ 0 ∷ 0 ∷ 36160 ∷ 0 ∷ 36160 ∷ 0 ∷ [])
    ∷ (0 ∷ 0 ∷ 0 ∷ 0 ∷ 6 ∷ 1 ∷ 3 ∷ 2 ∷ 9 ∷ 0 ∷ 0 ∷ 36160 ∷ 0 ∷ 36160 ∷ 0 ∷ [])
    ∷ (0 ∷ 0 ∷ 0 ∷ 0 ∷ 6 ∷ 1 ∷ 3 ∷ 3 ∷ 0 ∷ 0 ∷ 0 ∷ 36160 ∷ 0 ∷ 36160 ∷ 0 ∷ [])
    ∷ (0 ∷ 0 ∷ 0 ∷ 0 ∷ 6 ∷ 1 ∷ 3 ∷ 7 ∷ 8 ∷ 0 ∷ 0 ∷ 36160 ∷ 0 ∷ 36160 ∷ 0 ∷ [])
    ∷ []
    ∷ (0 ∷ 0 ∷ 0 ∷ 0 ∷ 0 ∷ 0 ∷ 0 ∷ 0 ∷ 0 ∷ 0 ∷ 0 ∷ 36106 ∷ 65535 ∷ 36160 ∷ 0 ∷ [])
    ∷ []
    ∷ []
unfolding planned summary told_run told_rows told_put Items.is_of Items.word_of Items.word_at Items.fits_form Items.list_fits
    Items.function_fits Plans.grown Lines.is_next Lines.function_plan Lines.parts_row Lines.sort_plan
    Lines.var_plan Lines.vars_plan Lines.bound_plan Lines.bind_plan Lines.node_plan Lines.expr_plan
    Lines.name_plan Lines.default_plan Lines.pair_plan Lines.told_line Lines.comprehension_plan
    Lines.disjunction_plan Lines.overload_plan Lines.join_plan Lines.sources_plan Lines.entries_plan Lines.constraint_plan
    Lines.pad_plan Lines.plan_of Words.spelling Words.place_of Words.keyword_of
    Tokens.decimal_read Tokens.number_read Tokens.name_token Tokens.token_of Tokens.tokens_from same_bytes run past skip
lines_of_rows = refl

lines_of_constraints :
    map planned
    ("sub n0 Nat"
    ∷ "sub n0"
    ∷ "lit n0 positive"
    ∷ "lit n0 natural"
    ∷ "lit n0 7"
    ∷ "comprehension n0 n1 s7"
    ∷ "disjunction e2 n0"
    ∷ "overload variable n0"
    ∷ "overload builtin n0"
    ∷ "overload op s6 n0"
    ∷ "overload raw 1 2 3"
    ∷ "overload n0"
    ∷ "join n0"
    ∷ "join n0 Nat Pos"
    ∷ "join"
    ∷ "join n0 s1024"
    ∷ "sources"
    ∷ "sources Nat"
    ∷ "entries 1 2"
    ∷ "entries"
    ∷ "node-entries 5"
    ∷ "constraint 9 8 7 6 5"
    ∷ "constraint 1 2 3 4"
    ∷ "pad sorts 3"
    ∷ "pad nodes 3"
    ∷ "pad entries 3"
    ∷ "pad node-entries 0"
    ∷ "pad vars 3"
    ∷ "count exprs 5"
    ∷ "count scratch 5"
    ∷ "lend index 2047"
    ∷ "lend out-choices 4"
    ∷ "lend vars 3"
    ∷ "ceilings 1 2 3 4"
    ∷ "ceilings 1"
    ∷ "foo"
    ∷ "Nat"
    ∷ [])
    ≡ (0 ∷ 0 ∷ 0 ∷ 0 ∷ 7 ∷ 1 ∷ 0 ∷ 1024 ∷ 3 ∷ 0 ∷ 0 ∷ 36154 ∷ 0 ∷ 36160 ∷ 0 ∷ [])
    ∷ []
    ∷ (0 ∷ 0 ∷ 0 ∷ 0 ∷ 7 ∷ 1 ∷ 1 ∷ 1024 ∷ 0 ∷ 0 ∷ 0 ∷ 36154 ∷ 0 ∷ 36160 ∷ 0 ∷ [])
    ∷ (0 ∷ 0 ∷ 0 ∷ 0 ∷ 7 ∷ 1 ∷ 1 ∷ 1024 ∷ 1 ∷ 0 ∷ 0 ∷ 36154 ∷ 0 ∷ 36160 ∷ 0 ∷ [])
    ∷ []
    ∷ (0 ∷ 0 ∷ 0 ∷ 0 ∷ 7 ∷ 1 ∷ 3 ∷ 1024 ∷ 1025 ∷ 7 ∷ 0 ∷ 36154 ∷ 0 ∷ 36160 ∷ 0 ∷ [])
    ∷ (0 ∷ 0 ∷ 0 ∷ 0 ∷ 7 ∷ 1 ∷ 2 ∷ 2 ∷ 1024 ∷ 0 ∷ 0 ∷ 36154 ∷ 1 ∷ 36160 ∷ 0 ∷ [])
    ∷ (0 ∷ 0 ∷ 0 ∷ 0 ∷ 8 ∷ 1 ∷ 1 ∷ 0 ∷ 1024 ∷ 0 ∷ 0 ∷ 36160 ∷ 0 ∷ 36160 ∷ 0 ∷ [])
    ∷ (0 ∷ 0 ∷ 0 ∷ 0 ∷ 8 ∷ 1 ∷ 3 ∷ 0 ∷ 1024 ∷ 0 ∷ 0 ∷ 36160 ∷ 0 ∷ 36160 ∷ 0 ∷ [])
    ∷ (0 ∷ 0 ∷ 0 ∷ 0 ∷ 8 ∷ 1 ∷ 2 ∷ 6 ∷ 1024 ∷ 0 ∷ 0 ∷ 36160 ∷ 0 ∷ 36160 ∷ 0 ∷ [])
    ∷ (0 ∷ 0 ∷ 0 ∷ 0 ∷ 8 ∷ 1 ∷ 1 ∷ 2 ∷ 3 ∷ 0 ∷ 0 ∷ 36160 ∷ 0 ∷ 36160 ∷ 0 ∷ [])
    ∷ []
    ∷ (0 ∷ 9 ∷ 2 ∷ 2 ∷ 7 ∷ 1 ∷ 4 ∷ 1024 ∷ 0 ∷ 0 ∷ 0 ∷ 36154 ∷ 2 ∷ 36160 ∷ 0 ∷ [])
    ∷ (0 ∷ 9 ∷ 2 ∷ 4 ∷ 7 ∷ 1 ∷ 4 ∷ 1024 ∷ 0 ∷ 2 ∷ 0 ∷ 36154 ∷ 2 ∷ 36160 ∷ 0 ∷ [])
    ∷ []
    ∷ []
    ∷ []
    ∷ (0 ∷ 9 ∷ 1 ∷ 2 ∷ 0 ∷ 0 ∷ 0 ∷ 0 ∷ 0 ∷ 0 ∷ 0 ∷ 36160 ∷ 0 ∷ 36160 ∷ 0 ∷ [])
    ∷ (0 ∷ 1 ∷ 1 ∷ 3 ∷ 0 ∷ 0 ∷ 0 ∷ 0 ∷ 0 ∷ 0 ∷ 0 ∷ 36160 ∷ 0 ∷ 36160 ∷ 0 ∷ [])
    ∷ []
    ∷ (0 ∷ 3 ∷ 1 ∷ 2 ∷ 0 ∷ 0 ∷ 0 ∷ 0 ∷ 0 ∷ 0 ∷ 0 ∷ 36160 ∷ 0 ∷ 36160 ∷ 0 ∷ [])
    ∷ (0 ∷ 0 ∷ 0 ∷ 0 ∷ 7 ∷ 1 ∷ 9 ∷ 8 ∷ 7 ∷ 6 ∷ 5 ∷ 36154 ∷ 0 ∷ 36160 ∷ 0 ∷ [])
    ∷ []
    ∷ (0 ∷ 0 ∷ 0 ∷ 0 ∷ 0 ∷ 3 ∷ 12 ∷ 0 ∷ 0 ∷ 0 ∷ 0 ∷ 36160 ∷ 0 ∷ 36160 ∷ 0 ∷ [])
    ∷ (0 ∷ 0 ∷ 0 ∷ 0 ∷ 2 ∷ 3 ∷ 6 ∷ 1 ∷ 0 ∷ 0 ∷ 0 ∷ 36160 ∷ 0 ∷ 36160 ∷ 0 ∷ [])
    ∷ (0 ∷ 0 ∷ 0 ∷ 0 ∷ 1 ∷ 3 ∷ 0 ∷ 0 ∷ 0 ∷ 0 ∷ 0 ∷ 36160 ∷ 0 ∷ 36160 ∷ 0 ∷ [])
    ∷ (0 ∷ 0 ∷ 0 ∷ 0 ∷ 3 ∷ 0 ∷ 0 ∷ 0 ∷ 0 ∷ 0 ∷ 0 ∷ 36160 ∷ 0 ∷ 36160 ∷ 0 ∷ [])
    ∷ []
    ∷ (0 ∷ 0 ∷ 0 ∷ 0 ∷ 0 ∷ 0 ∷ 0 ∷ 0 ∷ 0 ∷ 0 ∷ 0 ∷ 36112 ∷ 5 ∷ 36122 ∷ 1 ∷ [])
    ∷ []
    ∷ (0 ∷ 0 ∷ 0 ∷ 0 ∷ 0 ∷ 0 ∷ 0 ∷ 0 ∷ 0 ∷ 0 ∷ 0 ∷ 36136 ∷ 2047 ∷ 36149 ∷ 1 ∷ [])
    ∷ (0 ∷ 0 ∷ 0 ∷ 0 ∷ 0 ∷ 0 ∷ 0 ∷ 0 ∷ 0 ∷ 0 ∷ 0 ∷ 36139 ∷ 4 ∷ 36152 ∷ 1 ∷ [])
    ∷ []
    ∷ []
    ∷ []
    ∷ []
    ∷ []
    ∷ []
unfolding planned summary told_run told_rows told_put Items.is_of Items.word_of Items.word_at Items.fits_form Items.list_fits
    Items.function_fits Plans.grown Lines.is_next Lines.function_plan Lines.parts_row Lines.sort_plan
    Lines.var_plan Lines.vars_plan Lines.bound_plan Lines.bind_plan Lines.node_plan Lines.expr_plan
    Lines.name_plan Lines.default_plan Lines.pair_plan Lines.told_line Lines.comprehension_plan
    Lines.disjunction_plan Lines.overload_plan Lines.join_plan Lines.sources_plan Lines.entries_plan Lines.constraint_plan
    Lines.pad_plan Lines.plan_of Words.spelling Words.place_of Words.keyword_of
    Tokens.decimal_read Tokens.number_read Tokens.name_token Tokens.token_of Tokens.tokens_from same_bytes run past skip
lines_of_constraints = refl
