-- Lines taken one after another, computed from the definitions: what came of each, and words of the list after the last. Assumes
-- nothing.
use mathlib.Core.Path.{◌≡◌, refl}
use mathlib.Core.List.{List, [], ◌∷◌, map}
use Prim.Native.Nat.{ℕ}
use Prim.Native.String.{String}
use Rattle.std.specs.Prelude.{Result, Ok, Err}
use lib.ListN.{get_or, replicate, set}
use Rattle.words.specs.Words.{zeros}
use Rattle.resolved_sort.specs.Storage as Storage
use Rattle.sort_text.specs.Parse.{same_bytes}
use Rattle.sort_text.specs.Tokens.{run, past, skip}
use Rattle.list_memory.specs.declared.Form.{Form}
use Rattle.list_memory.specs.declared.Heard.{Heard}
use Rattle.list_memory.specs.declared.Heard.TheVariants.{Quiet, Begins, AsksOther}
use Rattle.list_memory.specs.Layouts as Layouts
use Rattle.list_tokens.specs.Words as Words
use Rattle.text_out.specs.Quoted.{bytes_of}
use Rattle.list_tokens.specs.Tokens as Tokens
use Rattle.list_forms.specs.Items as Items
use Rattle.list_forms.specs.Plans as Plans
use Rattle.list_forms.specs.Lines as Lines
use Rattle.list_reader.specs.Taking as Taking
use Rattle.list_reader.specs.Taking.{line_taken}

pub record Told : Type 0 where
  pub heards : List (Result Heard Form)
  pub words : List ℕ

first : Result Heard Form → Told → Told
first h t = record { heards = h ∷ t.heards; words = t.words }

-- lines taken from words on, and the words at some places afterwards
told : List ℕ → List ℕ → List String → Told
told ws places [] = record { heards = []; words = map (λ (i : ℕ). get_or ws i 0) places }
told ws places (text ∷ texts) = let r = line_taken ws (bytes_of text) in first r.heard (told r.words places texts)

-- a list that has begun, without the fixed six
lines_of_a_list :
    told (set (replicate 36160 0) 36153 1) (23040 ∷ 23041 ∷ 23042 ∷ 23043 ∷ 23044 ∷ 23045 ∷ 24320 ∷ 24321 ∷ 24322 ∷
    24323 ∷ 36096 ∷ 36097 ∷ 36098 ∷ 36099 ∷ 36100 ∷ 36101 ∷ 36102 ∷ 36103 ∷ 36104 ∷ 36105 ∷ 36153 ∷ 36154 ∷ [])
    ("disjunction e0 n0"
    ∷ "overload op Nat n0"
    ∷ [])
    ≡ record {
      heards = Ok Quiet ∷ Ok Quiet ∷ [];
      words = 2 ∷ 0 ∷ 1024 ∷ 0 ∷ 1 ∷ 0 ∷ 2 ∷ 3 ∷ 1024 ∷ 0 ∷ 0 ∷ 0 ∷ 0 ∷ 0 ∷ 0 ∷ 0 ∷ 0 ∷ 1 ∷ 1 ∷ 0 ∷ 1 ∷ 1 ∷ [];
    }
unfolding told first zeros Layouts.layout_of Words.spelling Words.place_of Words.keyword_of Tokens.decimal_read
    Tokens.number_read Tokens.name_token Tokens.token_of Tokens.tokens_from Tokens.tokens_of Tokens.line_start same_bytes run
    past skip Items.is_of Items.word_of Items.word_at Items.fits_form Items.list_fits Items.function_fits Plans.grown Lines.is_next
    Lines.function_plan Lines.parts_row Lines.sort_plan Lines.var_plan Lines.vars_plan Lines.bound_plan
    Lines.bind_plan Lines.node_plan Lines.expr_plan Lines.name_plan Lines.default_plan Lines.pair_plan Lines.told_line
    Lines.comprehension_plan Lines.disjunction_plan Lines.overload_plan Lines.join_plan
    Lines.sources_plan Lines.entries_plan Lines.constraint_plan Lines.pad_plan Lines.plan_of
    Lines.asks_other Taking.one_more_word Taking.row_kept Taking.appended Taking.append_times
    Taking.append_run Taking.carried Taking.bad_line Storage.fixed_rows Taking.begun Taking.bare_taken Taking.question_taken Taking.words_taken
    Taking.other_taken Taking.answer_taken Taking.list_taken Taking.by_start Taking.line_taken
lines_of_a_list = refl

-- before any list
lines_before_a_list :
    map (λ (text : String). (line_taken [] (bytes_of text)).heard)
    ("" ∷ "  # sub" ∷ "sub n0 n1" ∷ "? solve" ∷ "= 0" ∷ "list" ∷ [])
    ≡ Ok Quiet ∷ Ok Quiet ∷ Err Form.List ∷ Err Form.List ∷ Err Form.Question ∷ Ok Begins ∷ []
unfolding told first zeros Layouts.layout_of Words.spelling Words.place_of Words.keyword_of Tokens.decimal_read
    Tokens.number_read Tokens.name_token Tokens.token_of Tokens.tokens_from Tokens.tokens_of Tokens.line_start same_bytes run
    past skip Items.is_of Items.word_of Items.word_at Items.fits_form Items.list_fits Items.function_fits Plans.grown Lines.is_next
    Lines.function_plan Lines.parts_row Lines.sort_plan Lines.var_plan Lines.vars_plan Lines.bound_plan
    Lines.bind_plan Lines.node_plan Lines.expr_plan Lines.name_plan Lines.default_plan Lines.pair_plan Lines.told_line
    Lines.comprehension_plan Lines.disjunction_plan Lines.overload_plan Lines.join_plan
    Lines.sources_plan Lines.entries_plan Lines.constraint_plan Lines.pad_plan Lines.plan_of
    Lines.asks_other Taking.one_more_word Taking.row_kept Taking.appended Taking.append_times
    Taking.append_run Taking.carried Taking.bad_line Storage.fixed_rows Taking.begun Taking.bare_taken Taking.question_taken Taking.words_taken
    Taking.other_taken Taking.answer_taken Taking.list_taken Taking.by_start Taking.line_taken
lines_before_a_list = refl

-- of several lists: a line not of the format ends the first, and the others begin anew
lines_of_lists :
    told [] (36096 ∷ 36101 ∷ 36106 ∷ 36119 ∷ 36153 ∷ [])
    ("sub n0 n1"
    ∷ "list first"
    ∷ "expr e0 Nat"
    ∷ "count nodes 7"
    ∷ "default s3"
    ∷ "sort s7 Nat"
    ∷ "expr e1 Nat"
    ∷ "= 0"
    ∷ "list second"
    ∷ "expr e1 Nat"
    ∷ "list third"
    ∷ "? unify n0 n1"
    ∷ "# then"
    ∷ "= 0"
    ∷ "expr e0 Nat"
    ∷ "list fourth"
    ∷ [])
    ≡ record {
      heards =
          Err Form.List ∷ Ok Begins ∷ Ok Quiet ∷ Ok Quiet ∷ Ok Quiet ∷ Err Form.Next ∷ Ok Quiet ∷ Ok Quiet ∷ Ok Begins ∷ Err Form.Next
          ∷ Ok Begins ∷ Ok AsksOther ∷ Ok Quiet ∷ Ok Quiet ∷ Err Form.Asked ∷ Ok Begins ∷ [];
      words = 6 ∷ 0 ∷ 1 ∷ 0 ∷ 1 ∷ [];
    }
unfolding told first zeros Layouts.layout_of Words.spelling Words.place_of Words.keyword_of Tokens.decimal_read
    Tokens.number_read Tokens.name_token Tokens.token_of Tokens.tokens_from Tokens.tokens_of Tokens.line_start same_bytes run
    past skip Items.is_of Items.word_of Items.word_at Items.fits_form Items.list_fits Items.function_fits Plans.grown Lines.is_next
    Lines.function_plan Lines.parts_row Lines.sort_plan Lines.var_plan Lines.vars_plan Lines.bound_plan
    Lines.bind_plan Lines.node_plan Lines.expr_plan Lines.name_plan Lines.default_plan Lines.pair_plan Lines.told_line
    Lines.comprehension_plan Lines.disjunction_plan Lines.overload_plan Lines.join_plan
    Lines.sources_plan Lines.entries_plan Lines.constraint_plan Lines.pad_plan Lines.plan_of
    Lines.asks_other Taking.one_more_word Taking.row_kept Taking.appended Taking.append_times
    Taking.append_run Taking.carried Taking.bad_line Storage.fixed_rows Taking.begun Taking.bare_taken Taking.question_taken Taking.words_taken
    Taking.other_taken Taking.answer_taken Taking.list_taken Taking.by_start Taking.line_taken
lines_of_lists = refl
