-- Of a reader and a writer that say which bytes they have left and hold: what is written is what is said of all lines of the input, and a
-- last read gave nothing; or of its first ones and that the input could not be read, and reads that were made say why. Of any reader, the
-- standard input too, that all of the input was read is said where a last read gave nothing, and else that it could not be read. By
-- whether all of the input is said to be read. Assumes nothing.
use mathlib.Core.Path.{◌≡◌, refl, sym, ◌∙◌, ap}
use mathlib.Core.Bool.{Bool, true, false}
use mathlib.Core.List.{List, [], ◌++◌, append-nil}
use mathlib.Core.Logic.{◌⊎◌, inl, inr}
use Prim.Native.Nat.{ℕ}
use lib.ListN.{length}
use Rattle.std.specs.Prelude.{Option, Some, None, Ok}
use Rattle.line_input.specs.Taking.{held_lines}
use Rattle.line_input.specs.Reads.{Shows}
use Rattle.replay.specs.declared.Verdict.{Verdict}
use Rattle.replay.specs.Said.{end_said}
use Rattle.replay.specs.Ending.{ThenRead, NotRead, ReadingEnds}
use Rattle.replay.specs.Replays.{started, after_lines, Replayed}

module _ {S : Type 0} (step : S → ℕ → List ℕ → S × Verdict) (complete : S → Bool) (most : ℕ) (s s-left : S) where
  -- what is said of lines and at the end
  abbrev pub all_said : List (List ℕ) → Bool → List ℕ
  all_said lines read =
      (after_lines step most (started s) lines).said
      ++ end_said (after_lines step most (started s) lines).tally read (complete (after_lines step most (started s) lines).held)

  -- what is held after lines
  abbrev pub left_by : List (List ℕ) → S
  left_by lines = (after_lines step most (started s) lines).held

  -- it is said of some lines, these leave what is held, and reading has ended so
  pub record SaidOfSome {R : Type 0} (shows : Shows R) (reader reader-left : R) (ys : List ℕ) (shown-left : Option (List ℕ)) : Type 0 where
    pub lines : List (List ℕ)
    pub read : Bool
    pub said : shown-left ≡ Some (ys ++ all_said lines read)
    pub held : s-left ≡ left_by lines
    pub ends : ReadingEnds shows reader (length lines) read reader-left

  pub how_reading_ended_is_said : {R : Type 0} (shows : Shows R) (reader reader-left : R) (known : Option (List ℕ)) (ys : List ℕ)
      (shown-left : Option (List ℕ)) → Replayed shows reader reader-left step complete most s s-left known (Some ys) shown-left
      → SaidOfSome shows reader reader-left ys shown-left
  how_reading_ended_is_said shows reader reader-left known ys None r = absurd r.said
  how_reading_ended_is_said shows reader reader-left known ys (Some zs) r =
      record { lines = r.lines; read = r.read; said = ap Some r.said; held = r.held; ends = r.ends }

  module _ {R : Type 0} (shows : Shows R) (reader reader-left : R) (xs ys : List ℕ) where
    -- it is said of all lines, and a last read gave nothing
    pub record SaidOfAll (shown-left : Option (List ℕ)) : Type 0 where
      pub said : shown-left ≡ Some (ys ++ all_said (held_lines most xs) true)
      pub held : s-left ≡ left_by (held_lines most xs)
      pub ended : ThenRead shows reader (Ok 0) reader-left

    -- it is said of the first lines alone, and this is why
    pub record SaidOfFirst (shown-left : Option (List ℕ)) : Type 0 where
      pub lines : List (List ℕ)
      pub later : List (List ℕ)
      pub first : held_lines most xs ≡ lines ++ later
      pub said : shown-left ≡ Some (ys ++ all_said lines false)
      pub held : s-left ≡ left_by lines
      pub why : NotRead shows reader (length lines) reader-left

    said_by : (lines later : List (List ℕ)) (read : Bool) (zs : List ℕ) → zs ≡ ys ++ all_said lines read → held_lines most xs ≡ lines ++ later
        → (read ≡ true → later ≡ []) → s-left ≡ left_by lines → ReadingEnds shows reader (length lines) read reader-left
        → SaidOfAll (Some zs) ⊎ SaidOfFirst (Some zs)
    unfolding ReadingEnds
    said_by lines later true zs w e a h r =
        let all : held_lines most xs ≡ lines = e ∙ (ap (λ l. lines ++ l) (a refl) ∙ append-nil lines) in
        inl (record { said = ap Some (w ∙ ap (λ l. ys ++ all_said l true) (sym all)); held = h ∙ ap left_by (sym all); ended = r })
    said_by lines later false zs w e a h r =
        inr (record { lines = lines; later = later; first = e; said = ap Some w; held = h; why = r })

    pub all_lines_are_said_or_the_first_and_that_the_rest_is_not_read : (shown-left : Option (List ℕ))
        → Replayed shows reader reader-left step complete most s s-left (Some xs) (Some ys) shown-left → SaidOfAll shown-left ⊎ SaidOfFirst shown-left
    all_lines_are_said_or_the_first_and_that_the_rest_is_not_read None r = absurd r.said
    all_lines_are_said_or_the_first_and_that_the_rest_is_not_read (Some zs) r =
        said_by r.lines r.of_input.later r.read zs r.said r.of_input.first r.of_input.all r.held r.ends
