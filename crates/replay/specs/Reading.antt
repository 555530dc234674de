-- Calls of `next_line`, one after another, and how they end.
use Rattle.std.specs.Prelude.{◌≡◌, Bool, true, false, List, [], ◌∷◌, ◌++◌, ℕ, length, take, Option, Some, None, Ok, Err}
use Rattle.std.specs.declared.io.Error.{Error}
use Rattle.line_input.specs.declared.Lines.{Lines}
use Rattle.line_input.specs.Lines.{LineRead}
use Rattle.line_input.specs.Reads.{Shows}
use Rattle.replay.specs.Ending.{most_lines}

-- calls, each of which gave a line
pub data LinesRead {R : Type 0} (shows : Shows R) (remaining : R → Option (List ℕ)) : R → Lines
    → List (List ℕ) → R → Lines → Type 0 where
  no_line : (s : R) (start : Lines) → LinesRead shows remaining s start [] s start
  a_line_more : (s t u : R) (start before after : Lines) (ls : List (List ℕ)) (n : ℕ)
      → LinesRead shows remaining s start ls t before
      → LineRead shows t u (remaining t) (remaining u) before after (Ok (Some n))
      → LinesRead shows remaining s start (ls ++ (take n after.line.bytes.now ∷ [])) u after

-- These, and then one that gave no line, or an error; or so many lines are read that no further one is.
pub data LinesEnd {R : Type 0} (shows : Shows R) (remaining : R → Option (List ℕ)) (s : R) (start : Lines)
    (ls : List (List ℕ)) : Bool → R → Lines → Type 0 where
  no_further_line : (t u : R) (before after : Lines) → LinesRead shows remaining s start ls t before
      → LineRead shows t u (remaining t) (remaining u) before after (Ok None)
      → LinesEnd shows remaining s start ls true u after
  no_line_for_an_error : (t u : R) (before after : Lines) (error : Error)
      → LinesRead shows remaining s start ls t before
      → LineRead shows t u (remaining t) (remaining u) before after (Err error)
      → LinesEnd shows remaining s start ls false u after
  no_line_is_read : (u : R) (after : Lines) → LinesRead shows remaining s start ls u after
      → length ls ≡ most_lines → LinesEnd shows remaining s start ls false u after
