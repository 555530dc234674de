-- Room for every line of output; and what the functions that answer a pair ask for: a storage with room for what a pair
-- can make.
use Rattle.std.specs.Prelude.{◌≡◌, true, List, ℕ, ◌+◌, ◌*◌, ◌≤◌, length}
use Rattle.resolved_sort.specs.Tree.{Tree}
use Rattle.resolved_sort.specs.Checks.{fixed_six}
use Rattle.resolved_sort.specs.Entries.{tree_at}
use Rattle.resolved_sort.specs.Rows.{Checked}
use Rattle.resolved_sort.specs.Bounds.{Asked}
use Rattle.sort_text.specs.Parse.{parsed, line}
use Rattle.sort_text.specs.Reading.{max_line}

-- Room enough for every line of output with its LF (`pair_has_room`); no line is that long.
abbrev pub line_room : ℕ
line_room = 816

-- the sort of a line that is not too long
pub record OfLine (t : Tree) : Type 0 where
  pub bytes : List ℕ
  pub left : List ℕ
  pub is : line bytes ≡ parsed t left
  pub short : length bytes ≤ max_line

-- A storage that begins with the fixed six, with at most 6 + k sorts and k entries in use.
pub record Begun (ws : List ℕ) (n e k : ℕ) : Type 0 where
  pub checked : Checked ws n e
  pub six : fixed_six ws n ≡ true
  pub sorts : n ≤ 6 + k
  pub entries : e ≤ k

-- a join or meet has room
pub record BoundRoom (ws : List ℕ) (n e a b : ℕ) : Type 0 where
  pub asked : Asked ws n e a b
  pub of_line : OfLine (tree_at ws n a)
  pub sorts : n ≤ 6 + 3 * max_line
  pub entries : e ≤ 3 * max_line
