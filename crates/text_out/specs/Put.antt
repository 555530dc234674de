-- Bytes put into a buffer that has room for them.
use Rattle.std.specs.Prelude.{◌≡◌, List, ℕ, ◌+◌, length}
use Rattle.std.proofs.lemmas.List.Edits.{sets}

-- The bytes bs stand in the buffer from `at` on, the rest is as it was, and the next byte goes behind them.
pub record Put (out : List ℕ) (at : ℕ) (bs : List ℕ) (left : List ℕ) (next : ℕ) : Type 0 where
  pub bytes : left ≡ sets out at bs
  pub behind : next ≡ at + length bs
