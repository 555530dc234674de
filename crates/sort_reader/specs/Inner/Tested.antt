-- What the tests of a line have shown.
use Rattle.std.specs.Prelude.{◌≡◌, true, List, ℕ, ◌≤◌, length}
use Rattle.resolved_sort.specs.Checks.{fixed_six}
use Rattle.resolved_sort.specs.Rows.{Checked}
use Rattle.sort_text.specs.Reading.{max_line}

-- A checked list that begins with the fixed six, and a line that is not too long.
pub record Passes (ws : List ℕ) (n e : ℕ) (bs : List ℕ) : Type 0 where
  pub checked : Checked ws n e
  pub six : fixed_six ws n ≡ true
  pub short : length bs ≤ max_line
