-- Bytes put into a buffer one after another, as far as it has room: past its end they are lost, and the place stays
-- there.
use Rattle.std.specs.Prelude.{cond, List, [], ◌∷◌, ℕ, ◌+◌, length, set, ltb, ◌≡◌}

-- a buffer, and the place where the next byte goes
pub record Buffer : Type 0 where
  pub bytes : List ℕ
  pub at : ℕ

abbrev pub buffer : List ℕ → ℕ → Buffer
buffer out at = record { bytes = out; at = at }

unfoldable pub puts : List ℕ → ℕ → List ℕ → Buffer
puts out at [] = buffer out at
puts out at (b ∷ bs) = puts (set out at b) (cond (ltb at (length out)) (at + 1) at) bs

-- The bytes bs put from `at` on leave this buffer, and the next byte goes there.
pub record PutWithin (out : List ℕ) (at : ℕ) (bs : List ℕ) (left : List ℕ) (next : ℕ) : Type 0 where
  pub is : buffer left next ≡ puts out at bs
