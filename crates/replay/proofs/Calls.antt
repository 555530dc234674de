-- Which calls of `next_line` the lines were given by, taken apart: one after another from what was lent to what is left, and how the last
-- one ended, or how many there were. By the cases of the definitions. Assumes nothing.
use mathlib.Core.Path.{◌≡◌, refl}
use mathlib.Core.Bool.{true, false}
use mathlib.Core.List.{List, [], ◌∷◌, ◌++◌}
use mathlib.Core.Logic.{◌⊎◌, inl, inr}
use Prim.Native.Nat.{ℕ}
use lib.ListN.{length, take}
use Rattle.std.specs.Prelude.{Option, Some, None, Result, Ok, Err}
use Rattle.std.specs.declared.io.Error.{Error}
use Rattle.line_input.specs.declared.Lines.{Lines}
use Rattle.line_input.specs.Lines.{LineRead}
use Rattle.line_input.specs.Reads.{Shows}
use Rattle.replay.specs.Reading.{LinesRead, no_line, a_line_more, LinesEnd, no_further_line, no_line_for_an_error, no_line_is_read}

module _ {R : Type 0} (shows : Shows R) (remaining : R → Option (List ℕ)) where
  -- a call with this answer, after those that gave the lines
  pub record CallAfter (s : R) (start : Lines) (lines : List (List ℕ)) (answer : Result (Option ℕ) Error) (u : R) (left : Lines) : Type 0 where
    pub then : R
    pub now : Lines
    pub before : LinesRead shows remaining s start lines then now
    pub call : LineRead shows then u (remaining then) (remaining u) now left answer

  pub record NoneRead (s : R) (start : Lines) (lines : List (List ℕ)) (u : R) (left : Lines) : Type 0 where
    pub reader : s ≡ u
    pub as_lent : start ≡ left
    pub none : lines ≡ []

  pub record LastRead (s : R) (start : Lines) (lines : List (List ℕ)) (u : R) (left : Lines) : Type 0 where
    pub first : List (List ℕ)
    pub count : ℕ
    pub last : lines ≡ first ++ (take count left.line.bytes.now ∷ [])
    pub given : CallAfter s start first (Ok (Some count)) u left

  pub lines_read_are_none_or_a_last_one_and_those_before : {s u : R} {start left : Lines} {lines : List (List ℕ)}
      → LinesRead shows remaining s start lines u left → NoneRead s start lines u left ⊎ LastRead s start lines u left
  lines_read_are_none_or_a_last_one_and_those_before (no_line s start) = inl (record { reader = refl; as_lent = refl; none = refl })
  lines_read_are_none_or_a_last_one_and_those_before (a_line_more s t u start before after ls n g l) =
      inr (record { first = ls; count = n; last = refl; given = record { then = t; now = before; before = g; call = l } })

  pub after_all_lines_a_call_gave_none : {s u : R} {start left : Lines} {lines : List (List ℕ)}
      → LinesEnd shows remaining s start lines true u left → CallAfter s start lines (Ok None) u left
  after_all_lines_a_call_gave_none (no_further_line t u before after g l) = record { then = t; now = before; before = g; call = l }

  pub record CallFailed (s : R) (start : Lines) (lines : List (List ℕ)) (u : R) (left : Lines) : Type 0 where
    pub error : Error
    pub failed : CallAfter s start lines (Err error) u left

  pub after_the_first_lines_a_call_failed_or_none_was_made : {s u : R} {start left : Lines} {lines : List (List ℕ)}
      → LinesEnd shows remaining s start lines false u left
      → CallFailed s start lines u left ⊎ (LinesRead shows remaining s start lines u left × (length lines ≡ 18446744073709551615))
  after_the_first_lines_a_call_failed_or_none_was_made (no_line_for_an_error t u before after e g l) =
      inl (record { error = e; failed = record { then = t; now = before; before = g; call = l } })
  after_the_first_lines_a_call_failed_or_none_was_made (no_line_is_read u after g e) = inr (g, e)
