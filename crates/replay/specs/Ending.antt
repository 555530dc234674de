-- How the reading of an input line by line has ended, whatever a read of the reader shows.
use Rattle.std.specs.Prelude.{◌≡◌, Bool, true, false, List, ℕ, length, Result, Ok, Err}
use Rattle.std.specs.declared.io.Error.{Error}
use Rattle.line_input.specs.Reads.{Shows, Reads}
use Rattle.line_input.specs.Answers.{most_reads}

-- reads one after another, none of which failed; each may have given nothing
pub data ReadsMade {R : Type 0} (shows : Shows R) : R → R → Type 0 where
  none_made : (s : R) → ReadsMade shows s s
  then_made : (s t u : R) (n : ℕ) (buffer : List ℕ) → ReadsMade shows s t → shows t (Ok n) buffer u → ReadsMade shows s u

-- these, and then one with this answer
pub record ThenRead {R : Type 0} (shows : Shows R) (s : R) (answer : Result ℕ Error) (u : R) : Type 0 where
  pub before : R
  pub made : ReadsMade shows s before
  pub buffer : List ℕ
  pub last : shows before answer buffer u

-- these, and then as many as are made for one line at most, each of which gave a byte at least
pub record EndlessLine {R : Type 0} (shows : Shows R) (s u : R) : Type 0 where
  pub start : R
  pub made : ReadsMade shows s start
  pub parts : List (List ℕ)
  pub reads : Reads shows start parts u
  pub most : length parts ≡ most_reads

-- so many lines are read at most
abbrev pub most_lines : ℕ
most_lines = 18446744073709551615

-- Why an input is not read to its end: a read has failed, a line has no end within the reads that are made for it, or so
-- many lines are read that no further one is.
pub data NotRead {R : Type 0} (shows : Shows R) (s : R) (lines : ℕ) (u : R) : Type 0 where
  read_failed : (error : Error) → ThenRead shows s (Err error) u → NotRead shows s lines u
  line_endless : EndlessLine shows s u → NotRead shows s lines u
  most_lines_read : ReadsMade shows s u → lines ≡ most_lines → NotRead shows s lines u

-- The input is read to its end where a last read gave nothing.
unfoldable pub ReadingEnds : {R : Type 0} → Shows R → R → ℕ → Bool → R → Type 0
ReadingEnds shows s lines true u = ThenRead shows s (Ok 0) u
ReadingEnds shows s lines false u = NotRead shows s lines u
