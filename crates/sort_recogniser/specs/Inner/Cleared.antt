-- What recognising a line leaves in the whole buffer: the steps, and zeros behind them.
use Rattle.std.specs.Prelude.{◌≡◌, List, [], ℕ, ◌-◌, length, drop, replicate, Result, Ok, Err}
use Rattle.sort_text.specs.Parse as Parse
use Rattle.sort_recogniser.specs.declared.Stuck.{Stuck}
use Rattle.sort_recogniser.specs.Inner.Says.{Recognised, done_at, stuck_at, Says}

unfoldable pub steps_written : Result ℕ Stuck → ℕ
steps_written (Ok n) = n
steps_written (Err s) = 0

-- a line is read to its end
abbrev pub line_ended : List ℕ → Result ℕ Stuck → Recognised
line_ended line (Ok n) = done_at (length line) n
line_ended line (Err s) = stuck_at s.0

abbrev pub RecognisedAs : List ℕ → List ℕ → Result ℕ Stuck → Type 0
RecognisedAs line out r = Says line 0 (length line) [] (Parse.line line) out (line_ended line r)

-- in a buffer of `room` bytes
pub record LineRecognised (line : List ℕ) (room : ℕ) (out : List ℕ) (r : Result ℕ Stuck) : Type 0 where
  pub says : RecognisedAs line out r
  pub zeros_behind : drop (steps_written r) out ≡ replicate (room - steps_written r) 0
