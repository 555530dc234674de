-- What `next_line` of `Lines` answers and leaves.
use Rattle.std.specs.Prelude.{◌≡◌, ℕ, List, [], Option, Some, None, Result, Ok, IsErr, IsErrAnd, length}
use Rattle.std.specs.IoError.{error_kind}
use Rattle.std.specs.declared.io.ErrorKind.TheVariants.{TimedOut}
use Rattle.std.specs.declared.io.Error.{Error}
use Rattle.line_input.specs.Found.{Input}
use Rattle.line_input.specs.declared.Lines.{Lines}
use Rattle.line_input.specs.Found.{LineFound}
use Rattle.line_input.specs.Found.{Nothing, Line, End, Failed}
use Rattle.line_input.specs.Taking.{take_line, goes_on}
use Rattle.line_input.specs.Answers.{unread, NextLineFrom}
use Rattle.line_input.specs.Reads.{Shows, ReadsFor}

abbrev pub seen : Lines → LineFound → Input
seen s f = record { at = s.at; end = s.end; length = s.line.at; found = f }

-- The buffer and the line's memory are those that they were, and as long.
pub record SameMemory (before after : Lines) : Type 0 where
  pub buffer : after.buffer.ghost_name ≡ before.buffer.ghost_name
  pub line : after.line.bytes.ghost_name ≡ before.line.bytes.ghost_name
  pub buffer_long : length after.buffer.now ≡ length before.buffer.now
  pub line_long : length after.line.bytes.now ≡ length before.line.bytes.now

-- the answer as a reader's result: so many bytes of a line are held; the end; or an error, of this kind where the reads
-- are used up
unfoldable pub AnswersFound : LineFound → ℕ → Result (Option ℕ) Error → Type 0
AnswersFound Line n r = r ≡ Ok (Some n)
AnswersFound End n r = r ≡ Ok None
AnswersFound Failed n r = IsErr r
AnswersFound Nothing n r = IsErrAnd r (λ e. error_kind e ≡ TimedOut)

-- What a call of `next_line` answers and leaves, after an error too; and the reads that the answer rests on.
pub record LineRead {R : Type 0} (shows : Shows R) (reader reader-left : R)
    (known known-left : Option (List ℕ)) (before after : Lines) (r : Result (Option ℕ) Error) : Type 0 where
  pub found : LineFound
  pub answer : AnswersFound found after.line.at r
  pub next : NextLineFrom known known-left before.buffer.now before.line.bytes.now (seen before Nothing)
      after.buffer.now after.line.bytes.now (seen after found)
  pub reads : ReadsFor shows found
      (goes_on (length before.line.bytes.now) next.next.parts
      (take_line (length before.line.bytes.now) [] (unread before.buffer.now (seen before Nothing)))).came
      reader next.next.parts reader-left r
