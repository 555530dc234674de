-- Room in a buffer for the steps of what is left of a line.
use Rattle.std.specs.Prelude.{List, ℕ, ◌+◌, ◌-◌, ◌≤◌, length}

-- with n steps written, one for each byte from `at` on
abbrev pub needed_from : List ℕ → ℕ → ℕ → ℕ
needed_from line at n = n + (length line - at)

abbrev pub RoomFrom : List ℕ → ℕ → List ℕ → ℕ → Type 0
RoomFrom line at steps n = (at ≤ length line) × (needed_from line at n ≤ length steps)
