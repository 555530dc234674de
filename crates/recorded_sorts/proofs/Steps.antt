-- What join and meet leave, by their packed answers; and what comes of a line, by the tests on its way. Assumes nothing.
use mathlib.Core.Path.{◌≡◌, sym, ap, ◌∙◌}
use mathlib.Core.Bool.{Bool, true, false}
use mathlib.Core.List.{List}
use Prim.Native.Nat.{ℕ, ◌<◌, ◌≤◌}
use lib.ListN.{length, get_or}
use borrow.Author.Tests.{lt-ltb, le-ltb, eq-eqb, ne_eqb}
use Rattle.std.specs.Prelude.{Some, None}
use Rattle.sort_entries.specs.Packed.{PackedSorts, packed_sorts}
use Rattle.replay.specs.declared.Fields.{Fields}
use Rattle.replay.specs.declared.Verdict.{Verdict}
use Rattle.replay.specs.declared.Verdict.TheVariants.{Agrees, Differs, NotOfForm}
use Rattle.replay.specs.Inner.Numbers.{fields_of, values_read}
use Rattle.replay.specs.Replays.{numbers_step, step_of}
use Rattle.recorded_sorts.specs.declared.Question.{Question}
use Rattle.recorded_sorts.specs.declared.Letter.{Letter}
use Rattle.recorded_sorts.specs.declared.RecordedSorts.{RecordedSorts}
use Rattle.recorded_sorts.specs.Inner.Lines.{letter_of, complete, not_of_form, with_progress, begin_line, index_answer, checked_index}
use Rattle.recorded_sorts.specs.Inner.Lines.{packed_answer, ask_line, by_letter}

pub packed_left : (ws ix : List ℕ) (n : ℕ) (p : PackedSorts) (r : ℕ) → r ≡ index_answer ix n → packed_sorts ws ix n ≡ p → r ≡ checked_index p
packed_left ws ix n p r x e = x ∙ ap checked_index e

-- a line that begins a list
module _ (l : RecordedSorts) (ns : List ℕ) (r : RecordedSorts × Verdict) (bad : r ≡ not_of_form l) where
  pub begin_incomplete : length ns ≡ 2 → (b : Bool) → b ≡ complete l.progress → b ≡ false → r ≡ begin_line l ns
  unfolding begin_line
  begin_incomplete h b e n = rw (bad, eq-eqb _ _ h, sym e ∙ n)

  pub begin_sorts : length ns ≡ 2 → (b : Bool) → b ≡ complete l.progress → b ≡ true → 1024 < get_or ns 0 0 → r ≡ begin_line l ns
  unfolding begin_line
  begin_sorts h b e n s = rw (bad, eq-eqb _ _ h, sym e ∙ n, lt-ltb _ _ s)

  pub begin_entries :
      length ns ≡ 2 → (b : Bool) → b ≡ complete l.progress → b ≡ true → get_or ns 0 0 ≤ 1024 → 4096 < get_or ns 1 0 → r ≡ begin_line l ns
  unfolding begin_line
  begin_entries h b e n s t = rw (bad, eq-eqb _ _ h, sym e ∙ n, le-ltb _ _ s, lt-ltb _ _ t)

pub begin_well :
    (l : RecordedSorts) (ns : List ℕ) → length ns ≡ 2 → (b : Bool) → b ≡ complete l.progress → b ≡ true → get_or ns 0 0 ≤ 1024 → get_or ns 1 0 ≤ 4096
    → with_progress l (record { sorts = get_or ns 0 0; entries = get_or ns 1 0; rows = 0; filled = 0 }) ≡ begin_line l ns
unfolding begin_line
begin_well l ns h b e n s t = rw (eq-eqb _ _ h, sym e ∙ n, le-ltb _ _ s, le-ltb _ _ t)

-- a line that asks
module _ (l : RecordedSorts) (q : Question) (ns : List ℕ) (r : Verdict) (bad : r ≡ NotOfForm) where
  pub question_incomplete : length ns ≡ 3 → (b : Bool) → b ≡ complete l.progress → b ≡ false → r ≡ ask_line l q ns
  unfolding ask_line
  question_incomplete h b e n = rw (bad, eq-eqb _ _ h, sym e ∙ n)

  pub question_lhs : length ns ≡ 3 → (b : Bool) → b ≡ complete l.progress → b ≡ true → 65535 < get_or ns 0 0 → r ≡ ask_line l q ns
  unfolding ask_line
  question_lhs h b e n s = rw (bad, eq-eqb _ _ h, sym e ∙ n, lt-ltb _ _ s)

  pub question_rhs :
      length ns ≡ 3 → (b : Bool) → b ≡ complete l.progress → b ≡ true → get_or ns 0 0 ≤ 65535 → 65535 < get_or ns 1 0
      → r ≡ ask_line l q ns
  unfolding ask_line
  question_rhs h b e n s t = rw (bad, eq-eqb _ _ h, sym e ∙ n, le-ltb _ _ s, lt-ltb _ _ t)

module _ (l : RecordedSorts) (q : Question) (ns : List ℕ) (three : length ns ≡ 3) (b : Bool) (told : b ≡ complete l.progress) (all : b ≡ true)
    (lhs : get_or ns 0 0 ≤ 65535) (rhs : get_or ns 1 0 ≤ 65535) (got : ℕ)
    (answered : got ≡ packed_answer q l.words l.progress.sorts l.progress.entries (get_or ns 0 0) (get_or ns 1 0)) where
  pub agrees : got ≡ get_or ns 2 0 → Agrees ≡ ask_line l q ns
  unfolding ask_line
  agrees e =
      rw (eq-eqb _ _ three, sym told ∙ all, le-ltb _ _ lhs, le-ltb _ _ rhs, sym answered, eq-eqb _ _ e)

  pub differs : (got ≡ get_or ns 2 0 → ⊥) → Differs got ≡ ask_line l q ns
  unfolding ask_line
  differs e =
      rw (eq-eqb _ _ three, sym told ∙ all, le-ltb _ _ lhs, le-ltb _ _ rhs, sym answered, ne_eqb _ _ e)

-- any line
module _ (l : RecordedSorts) (line : List ℕ) (some : length line ≡ 0 → ⊥) (says : get_or line 0 0 ≡ 35 → ⊥) where
  abbrev pub after_it : RecordedSorts × Verdict
  after_it = step_of (λ s letter numbers. by_letter (letter_of letter) s numbers) l line

  pub line_bad : (r : RecordedSorts × Verdict) → r ≡ not_of_form l → fields_of line ≡ None → r ≡ after_it
  unfolding step_of numbers_step
  line_bad r bad e = rw (bad, ne_eqb _ _ some, ne_eqb _ _ says, e)

  pub line_well :
      (f : Fields) → fields_of line ≡ Some f → (m : Letter) → m ≡ letter_of (get_or line 0 0)
      → (r : RecordedSorts × Verdict) → r ≡ by_letter m l (values_read f) → r ≡ after_it
  unfolding step_of numbers_step
  line_well f e m told r by = rw (by, ne_eqb _ _ some, ne_eqb _ _ says, e, sym told)
