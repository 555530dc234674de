-- A line held as its bytes come: no more than its first `most` bytes.
use Rattle.std.specs.Prelude.{cond, List, [], ◌∷◌, ◌++◌, ℕ, ◌+◌, length, take, drop, set, ltb}

-- what is held after a byte more
unfoldable pub holding : ℕ → List ℕ → ℕ → List ℕ
holding most l b = cond (ltb (length l) most) (l ++ (b ∷ [])) l

-- the line of `count` bytes that stands in a memory from `start` on
abbrev pub line_at : List ℕ → ℕ → ℕ → List ℕ
line_at memory start count = take count (drop start memory)

-- a memory, and how many bytes of a line are held in it
pub record LineKept : Type 0 where
  pub memory : List ℕ
  pub count : ℕ

abbrev pub line_kept : List ℕ → ℕ → LineKept
line_kept memory count = record { memory = memory; count = count }

-- after a byte more of the line from `start` on; no other byte of the memory changes
unfoldable pub held_at : ℕ → List ℕ → ℕ → ℕ → ℕ → LineKept
held_at most memory start count b =
    cond (ltb count most) (line_kept (set memory (start + count) b) (count + 1)) (line_kept memory count)
