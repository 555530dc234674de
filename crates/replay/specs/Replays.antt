-- Lines asked again one after another, and what is said of them.
use Rattle.std.specs.Prelude.{◌≡◌, Bool, true, cond, List, [], ◌∷◌, ◌++◌, ℕ, ltb, leb, eqb, length, get_or}
use Rattle.std.specs.Prelude.{Option, Some, None, IfSome}
use Prim.Native.Char.{code}
use Rattle.replay.specs.declared.Fields.{Fields}
use Rattle.replay.specs.Inner.Numbers.{fields_of, values_read}
use Rattle.std.specs.Io.KnownBytes.{Appends, prepend_known}
use Rattle.line_input.specs.declared.Lines.{Lines}
use Rattle.line_input.specs.Found.{Nothing}
use Rattle.line_input.specs.Lines.{seen}
use Rattle.line_input.specs.Answers.{unread}
use Rattle.line_input.specs.Taking.{held_lines}
use Rattle.line_input.specs.Reads.{Shows}
use Rattle.replay.specs.declared.Verdict.{Verdict}
use Rattle.replay.specs.declared.Verdict.TheVariants.{Quiet, NotOfForm}
use Rattle.replay.specs.declared.Tally.{Tally}
use Rattle.replay.specs.Inner.Lines.{counted_of}
use Rattle.replay.specs.Said.{said_of, end_said}
use Rattle.replay.specs.Ending.{ReadingEnds}
use Rattle.replay.specs.Reading.{LinesEnd}

-- what is held after a line of a letter, and what came of it, where it is a letter and numbers
unfoldable pub numbers_step : {S : Type 0} → (S → ℕ → List ℕ → S × Verdict) → S → ℕ → Option Fields → S × Verdict
numbers_step step s letter None = (s, NotOfForm)
numbers_step step s letter (Some f) = step s letter (values_read f)

-- a line: empty is not of the form, # says nothing, else a letter and numbers
unfoldable pub step_of : {S : Type 0} → (S → ℕ → List ℕ → S × Verdict) → S → List ℕ → S × Verdict
step_of step s line =
    cond (eqb (length line) 0) (s, NotOfForm)
    (cond (eqb (get_or line 0 0) (code "#")) (s, Quiet) (numbers_step step s (get_or line 0 0) (fields_of line)))

-- so many bytes of a line are held: one more than a line may have
abbrev pub held_bytes : ℕ
held_bytes = 257

-- a line that fills its memory is too long, and not of the form
unfoldable pub line_step : {S : Type 0} → (S → ℕ → List ℕ → S × Verdict) → ℕ → S → List ℕ → S × Verdict
line_step step most s l = cond (leb most (length l)) (s, NotOfForm) (step_of step s l)

-- what is said of a line of which this came
abbrev pub line_text : Tally → List ℕ → Verdict → List ℕ
line_text t l v = said_of (counted_of t v).lines l v

-- what is held, the counts and what is said
pub record Run (S : Type 0) : Type 0 where
  pub held : S
  pub tally : Tally
  pub said : List ℕ

abbrev pub started : {S : Type 0} → S → Run S
started s = record { held = s; tally = record { lines = 0; questions = 0; differ = 0 }; said = [] }

unfoldable pub after_line : {S : Type 0} → (S → ℕ → List ℕ → S × Verdict) → ℕ → Run S → List ℕ → Run S
after_line step most r l = record {
  held = (line_step step most r.held l).0;
  tally = counted_of r.tally (line_step step most r.held l).1;
  said = r.said ++ line_text r.tally l (line_step step most r.held l).1;
}

unfoldable pub after_lines : {S : Type 0} → (S → ℕ → List ℕ → S × Verdict) → ℕ → Run S → List (List ℕ) → Run S
after_lines step most r [] = r
after_lines step most r (l ∷ ls) = after_lines step most (after_line step most r l) ls

-- The bytes that lines are read from: those that are not taken yet, and those that the reader has left, where it says
-- them and there is room to read and memory for a line.
unfoldable pub known_input : Lines → Option (List ℕ) → Option (List ℕ)
known_input lines known =
    cond (ltb 0 (length lines.buffer.now))
    (cond (ltb 0 (length lines.line.bytes.now)) (prepend_known (unread lines.buffer.now (seen lines Nothing)) known) None)
    None

-- Lines are the first ones of an input, each as far as it is held, and all of them where it was read to its end.
pub record LinesOf (most : ℕ) (input : List ℕ) (lines : List (List ℕ)) (read : Bool) : Type 0 where
  pub later : List (List ℕ)
  pub first : held_lines most input ≡ lines ++ later
  pub all : read ≡ true → later ≡ []

-- What is said of lines, and at the end, is written, and what is held is what they leave; they are those of the input, where
-- its bytes are known; and reads that were made say why reading has ended.
pub record Replayed {R S : Type 0} (shows : Shows R) (reader reader-left : R) (step : S → ℕ → List ℕ → S × Verdict)
    (complete : S → Bool) (most : ℕ) (s s-left : S) (known shown shown-left : Option (List ℕ)) : Type 0 where
  pub lines : List (List ℕ)
  pub read : Bool
  pub said : Appends shown shown-left
      ((after_lines step most (started s) lines).said
      ++ end_said (after_lines step most (started s) lines).tally read (complete (after_lines step most (started s) lines).held))
  pub held : s-left ≡ (after_lines step most (started s) lines).held
  pub of_input : IfSome known (λ xs. LinesOf most xs lines read)
  pub ends : ReadingEnds shows reader (length lines) read reader-left

-- The same of lines that calls of `next_line` have given, one after another: these say what is left to take lines from.
pub record ReplayedFrom {R S : Type 0} (shows : Shows R) (remaining : R → Option (List ℕ)) (reader reader-left : R)
    (step : S → ℕ → List ℕ → S × Verdict) (complete : S → Bool) (most : ℕ) (s s-left : S)
    (known : Option (List ℕ)) (before after : Lines) (shown shown-left : Option (List ℕ)) : Type 0 where
  pub replayed : Replayed shows reader reader-left step complete most s s-left known shown shown-left
  pub calls : LinesEnd shows remaining reader before replayed.lines replayed.read reader-left after
