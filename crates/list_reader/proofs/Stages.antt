-- What stands between lists: a line not of the format ends its list, and up to the next `list` nothing more is taken of it or said; a
-- list keeps nothing of the one before; after a question no line changes the list; and only a list that began and has no such line is asked
-- about. By the cases of a line. Assumes nothing.
use mathlib.Core.Path.{◌≡◌, refl, sym, ap, ◌∙◌}
use mathlib.Core.Bool.{Bool, true, false, cond}
use mathlib.Core.List.{List, [], ◌∷◌, ◌++◌}
use mathlib.Core.Logic.{◌⊎◌, inl, inr}
use Prim.Native.Nat.{ℕ, ◌<◌, ◌≤◌}
use lib.Dec.{eqb, ltb}
use lib.ListN.{length, get_or, set, replicate}
use borrow.Author.Tests.{eq-eqb}
use lib.Seq.{get_or-set_same, get_or-set_other}
use Rattle.std.specs.List.{list_all}
use Rattle.resolved_sort.specs.Storage as Storage
use Rattle.resolved_sort.specs.Storage.{fixed_sorts, fixed_rows}
use Rattle.std.proofs.lemmas.List.{drop_all, append-nil}
use Rattle.std.specs.Prelude.{Result, Ok, Err}
use Rattle.words.specs.Words.{zeros}
use Rattle.list_memory.specs.declared.Form.{Form}
use Rattle.list_memory.specs.declared.Heard.{Heard}
use Rattle.list_memory.specs.declared.Heard.TheVariants.{Quiet, Begins, Asks, AsksOther}
use Rattle.list_memory.specs.declared.Stage.{Stage}
use Rattle.list_memory.specs.Memory.{memory_words, list_sorts_at, rows_at, rows_given, default_at, sort_list, entry_list, stage_at, Taken, taken}
use Rattle.list_memory.specs.Layouts.{stage_number}
use Rattle.list_tokens.specs.declared.Keyword.{Keyword}
use Rattle.list_tokens.specs.declared.Token.{Token}
use Rattle.list_tokens.specs.declared.Start.{Start}
use Rattle.list_tokens.specs.declared.Start.TheVariants.{Skipped, Answer, NewList, Other}
use Rattle.list_tokens.specs.Tokens.{tokens_of, is_printable, line_start}
use Rattle.list_forms.specs.declared.Plan.{Plan}
use Rattle.list_forms.specs.declared.Item.{Item}
use Rattle.list_forms.specs.Items.{token_at, fits_form}
use Rattle.list_forms.specs.Lines.{plan_of, asks_other}
use Rattle.list_reader.specs.Taking.{bad_line, begun, carried, bare_taken, plan_taken, question_taken, stage_is, row_by, words_by, words_taken}
use Rattle.list_reader.specs.Taking.{other_taken, answer_taken, list_taken, by_start, line_taken}

-- what holds of both ways holds of either
either : (P : Taken → Type 0) (b : Bool) (s t : Taken) → P s → P t → P (cond b s t)
either P true s t p q = p
either P false s t p q = q

-- What holds of a line that is passed over, of one not of the format, of one of words and of `list` holds of every line.
module _ (P : Taken → Type 0) (ws : List ℕ) (quiet : P (taken ws (Ok Quiet))) (bad : (f : Form) → P (bad_line ws f)) where
  module _ (rest : (t : List Token) → P (cond (stage_is ws Stage.NoList) (bad_line ws Form.List) (words_taken ws t))) where
    of_start : (s : Start) (line : List ℕ) → (s ≡ NewList → P (taken (begun ws) (Ok Begins))) → P (by_start s ws line)
    unfolding by_start other_taken answer_taken list_taken
    of_start Skipped line n = quiet
    of_start Answer line n =
        either P (stage_is ws Stage.Bad) _ _ quiet
        (either P (list_all is_printable line) _ _ (either P (stage_is ws Stage.Asked) _ _ quiet (bad Form.Question)) (bad Form.Printable))
    of_start NewList line n =
        either P (list_all is_printable line) _ _ (either P (ltb 200 (length line)) _ _ (bad Form.Length) (n refl)) (bad Form.Printable)
    of_start Other line n =
        either P (stage_is ws Stage.Bad) _ _ quiet
        (either P (list_all is_printable line) _ _ (either P (ltb 200 (length line)) _ _ (bad Form.Length) (rest (tokens_of line))) (bad Form.Printable))

    of_line : (line : List ℕ) → (line_start line ≡ NewList → P (taken (begun ws) (Ok Begins))) → P (line_taken ws line)
    unfolding line_taken
    of_line line n = of_start (line_start line) line n

  -- of words: a question, or a row where none was asked
  module _ (asks : (t : List Token) → P (question_taken ws t))
      (row : (first : Token) (t : List Token) → P (cond (stage_is ws Stage.Asked) (bad_line ws Form.Asked) (row_by first ws t))) where
    by_first : (first : Token) (t : List Token) → P (words_by first ws t)
    by_first (Token.Keyword Keyword.Ask) t = asks t
    by_first first t = row first t

    of_words : (t : List Token) → P (cond (stage_is ws Stage.NoList) (bad_line ws Form.List) (words_taken ws t))
    unfolding words_taken
    of_words t = either P (stage_is ws Stage.NoList) _ _ (bad Form.List) (by_first (token_at t 0) t)

  -- of a question
  of_question : P (taken (set ws stage_at 2) (Ok Asks)) → P (taken (set ws stage_at 2) (Ok AsksOther)) → (t : List Token) → P (question_taken ws t)
  unfolding question_taken
  of_question asks other t =
      either P (fits_form t (Item.Word Keyword.Ask ∷ Item.Word Keyword.Solve ∷ [])) _ _ asks (either P (asks_other t) _ _ other (bad Form.Asks))

  -- of rows: whatever they are
  module _ (given : (vs : List ℕ) → P (taken vs (Ok Quiet))) where
    of_plan : (t : List Token) (r : Result Plan Form) → P (plan_taken ws t r)
    of_plan t (Ok p) = given (carried ws t p)
    of_plan t (Err f) = bad f

    of_bare : (t : List Token) → P (bare_taken ws t)
    unfolding bare_taken
    of_bare t =
        either P (eqb (length t) 1) _ _
        (either P (eqb (rows_given ws sort_list) fixed_sorts) _ _
        (either P (eqb (rows_given ws entry_list) 0) _ _ (given (set (zeros 0 24 ws) rows_at 0)) (bad Form.Bare)) (bad Form.Bare))
        (bad Form.Bare)

    of_row_by : (first : Token) (t : List Token) → P (row_by first ws t)
    of_row_by (Token.Keyword Keyword.Bare) t = of_bare t
    of_row_by first t = of_plan t (plan_of ws t)

    of_row : (first : Token) (t : List Token) → P (cond (stage_is ws Stage.Asked) (bad_line ws Form.Asked) (row_by first ws t))
    of_row first t = either P (stage_is ws Stage.Asked) _ _ (bad Form.Asked) (of_row_by first t)

no_form : {A : Type 0} {h : Heard} {f : Form} → ◌≡◌ {A = Result Heard Form} (Ok h) (Err f) → A
no_form e = absurd cc

not_asked : {A : Type 0} → ◌≡◌ {A = Result Heard Form} (Ok Quiet) (Ok Asks) → A
not_asked e = absurd cc

other_asked : {A : Type 0} → ◌≡◌ {A = Result Heard Form} (Ok AsksOther) (Ok Asks) → A
other_asked e = absurd cc

no_list_begins : {A : Type 0} {f : Form} → ◌≡◌ {A = Result Heard Form} (Err f) (Ok Begins) → A
no_list_begins e = absurd cc

module _ (ws line : List ℕ) where
  -- A line not of the format ends its list ..
  pub bad_line_ends_its_list : stage_at < length ws → (f : Form) → (line_taken ws line).heard ≡ Err f
      → stage_is (line_taken ws line).words Stage.Bad ≡ true
  unfolding bad_line
  bad_line_ends_its_list room =
      of_line P ws (given ws) bad
      (of_words P ws (given ws) bad (of_question P ws (given ws) bad (λ f e. no_form e) (λ f e. no_form e)) (of_row P ws (given ws) bad given))
      line (λ n f e. no_form e)
    where
      P : Taken → Type 0
      P T = (f : Form) → T.heard ≡ Err f → stage_is T.words Stage.Bad ≡ true

      given : (vs : List ℕ) → P (taken vs (Ok Quiet))
      given vs f e = no_form e

      bad : (g : Form) → P (bad_line ws g)
      bad g f e = eq-eqb (get_or (set ws stage_at 3) stage_at 0) 3 (get_or-set_same ws stage_at 3 0 room)

module _ (ws line : List ℕ) (goes_on : line_start line ≡ NewList → ⊥) where
  -- .. and then nothing is taken of it or said.
  pub after_a_bad_line_all_is_passed_over : stage_is ws Stage.Bad ≡ true → line_taken ws line ≡ taken ws (Ok Quiet)
  unfolding line_taken by_start other_taken answer_taken
  after_a_bad_line_all_is_passed_over h = go (line_start line) goes_on
    where
      go : (s : Start) → (s ≡ NewList → ⊥) → by_start s ws line ≡ taken ws (Ok Quiet)
      go Skipped n = refl
      go Answer n = rw h refl
      go NewList n = absurd (n refl)
      go Other n = rw h refl

  -- Before any list a line is passed over or not of the format.
  pub before_any_list_no_line_is_taken : stage_is ws Stage.NoList ≡ true
      → (line_taken ws line ≡ taken ws (Ok Quiet)) ⊎ ((f : Form) × (line_taken ws line ≡ bad_line ws f))
  before_any_list_no_line_is_taken h =
      of_line P ws (inl refl) (λ f. inr (f, refl)) (λ t. rw h (inr (Form.List, refl))) line (λ e. absurd (goes_on e))
    where
      P : Taken → Type 0
      P T = (T ≡ taken ws (Ok Quiet)) ⊎ ((f : Form) × (T ≡ bad_line ws f))

  -- After a question no line changes the list: only how far it is read.
  pub after_a_question_no_line_changes_the_list : stage_is ws Stage.Asked ≡ true → (i : ℕ) → (i ≡ stage_at → ⊥)
      → get_or (line_taken ws line).words i 0 ≡ get_or ws i 0
  unfolding bad_line
  after_a_question_no_line_changes_the_list h =
      of_line P ws (λ i n. refl) bad
      (of_words P ws (λ i n. refl) bad (of_question P ws (λ i n. refl) bad (still 2) (still 2)) (λ first t. rw h (bad Form.Asked)))
      line (λ e. absurd (goes_on e))
    where
      P : Taken → Type 0
      P T = (i : ℕ) → (i ≡ stage_at → ⊥) → get_or T.words i 0 ≡ get_or ws i 0

      still : (v i : ℕ) → (i ≡ stage_at → ⊥) → get_or (set ws stage_at v) i 0 ≡ get_or ws i 0
      still v i n = get_or-set_other ws stage_at i v 0 n

      bad : (g : Form) → P (bad_line ws g)
      bad g = still 3

  -- The question is asked on the list as its lines gave it.
  pub question_leaves_the_list : (line_taken ws line).heard ≡ Ok Asks → (line_taken ws line).words ≡ set ws stage_at (stage_number Stage.Asked)
  unfolding bad_line
  question_leaves_the_list =
      of_line P ws (given ws) bad
      (of_words P ws (given ws) bad (of_question P ws (given ws) bad (λ e. refl) (λ e. other_asked e)) (of_row P ws (given ws) bad given))
      line (λ e. absurd (goes_on e))
    where
      P : Taken → Type 0
      P T = T.heard ≡ Ok Asks → T.words ≡ set ws stage_at 2

      given : (vs : List ℕ) → P (taken vs (Ok Quiet))
      given vs e = not_asked e

      bad : (g : Form) → P (bad_line ws g)
      bad g e = no_form (sym e)

-- A list begins with nothing of the one before.
zeros_alone : (ws : List ℕ) → length ws ≤ memory_words → zeros 0 memory_words ws ≡ replicate memory_words 0
unfolding zeros
zeros_alone ws l = ap (λ us. replicate memory_words 0 ++ us) (drop_all memory_words ws l) ∙ append-nil (replicate memory_words 0)

pub list_keeps_nothing_of_the_one_before : (ws vs : List ℕ) → length ws ≤ memory_words → length vs ≤ memory_words → begun ws ≡ begun vs
unfolding begun
list_keeps_nothing_of_the_one_before ws vs l m =
    ap (λ us. set (set (set (fixed_rows list_sorts_at fixed_sorts us) rows_at fixed_sorts) default_at 1) stage_at 1) (zeros_alone ws l ∙ sym (zeros_alone vs m))

pub list_line_begins_a_list : (ws line : List ℕ) → line_start line ≡ NewList → (line_taken ws line).heard ≡ Ok Begins → (line_taken ws line).words ≡ begun ws
unfolding line_taken by_start list_taken bad_line
list_line_begins_a_list ws line s =
    rw s
    (either P (list_all is_printable line) _ _ (either P (ltb 200 (length line)) _ _ (λ e. no_list_begins e) (λ e. refl)) (λ e. no_list_begins e))
  where
    P : Taken → Type 0
    P T = T.heard ≡ Ok Begins → T.words ≡ begun ws

-- The list has the fixed six sorts, the default sort Bool, and nothing else: all words but these are 0.
pub new_list_has_the_fixed_six_and_bool :
    begun []
    ≡ (0 ∷ 0 ∷ 0 ∷ 0 ∷ 1 ∷ 0 ∷ 0 ∷ 0 ∷ 2 ∷ 0 ∷ 0 ∷ 0 ∷ 3 ∷ 0 ∷ 0 ∷ 0 ∷ 4 ∷ 0 ∷ 0 ∷ 0 ∷ 5 ∷ 0 ∷ 0 ∷ 0 ∷ [])
    ++ (replicate 36072 0 ++ (6 ∷ (replicate 9 0 ++ (1 ∷ (replicate 46 0 ++ (1 ∷ replicate 6 0))))))
unfolding begun zeros Storage.fixed_rows
new_list_has_the_fixed_six_and_bool = refl
