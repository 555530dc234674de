-- How a search for a line has ended, and where reading then is.
use Rattle.std.specs.Prelude.{ℕ}

-- the reads are used up, a line, no further line, or a read that failed
pub data LineFound : Type 0 where
  Nothing : LineFound
  Line : LineFound
  End : LineFound
  Failed : LineFound

-- The bytes of the buffer from `at` up to `end` are not taken yet, and so many bytes of the line are held.
pub record Input : Type 0 where
  pub at : ℕ
  pub end : ℕ
  pub length : ℕ
  pub found : LineFound
