-- The lines held in a memory of 402 bytes, one behind the other, and what the functions that take bytes leave.
use Rattle.std.specs.Prelude.{◌≡◌, cond, List, [], ◌∷◌, ℕ, ◌+◌, ◌<◌, ◌≤◌, length, take, eqb}
use mathlib.Core.Path.{ap₂}
use Rattle.std.specs.Coded.{×_prop, le_prop}
use Rattle.text_out.specs.Quoted.{byte_of}
use Rattle.text_out.specs.Put.{Put}
use Rattle.held_line.specs.Holding.{line_at, LineKept, held_at}
use Rattle.pair_line.specs.Room.{line_room}
use Rattle.pair_input.specs.declared.Held.{Held}
use Rattle.pair_input.specs.declared.Held.TheVariants.{First, Second}
use Rattle.pair_input.specs.ByteByByte.{Lines, first, second, most_held, Turned, take_bytes}

unfoldable pub lines_of : List ℕ → Held → Lines
lines_of memory (First n) = first (line_at memory 0 n)
lines_of memory (Second n m) = second (line_at memory 0 n) (line_at memory n m)

unfoldable pub Fits : Held → Type 0
Fits (First n) = n ≤ most_held
Fits (Second n m) = (n ≤ most_held) × (m ≤ most_held)

-- the counts are within bounds, and the memory has room for two lines
pub record Holds (memory : List ℕ) (held : Held) : Type 0 where
  pub fits : Fits held
  pub long : most_held + most_held ≤ length memory

-- there is one proof of it at most
Fits-prop : (held : Held) → IsProp (Fits held)
unfolding Fits
Fits-prop (First n) = le_prop
Fits-prop (Second n m) = ×_prop le_prop le_prop

pub holds_prop : (memory : List ℕ) (held : Held) → IsProp (Holds memory held)
holds_prop memory held p q = ap₂ (λ f l. record { fits = f; long = l }) (Fits-prop held p.fits q.fits) (le_prop p.long q.long)

-- the memory, and how many bytes are held in it
pub record InMemory : Type 0 where
  pub memory : List ℕ
  pub held : Held

abbrev pub in_memory : List ℕ → Held → InMemory
in_memory memory held = record { memory = memory; held = held }

-- after a byte of the input: it is stored behind the line that it belongs to, and no other byte changes
abbrev pub first_in_memory : LineKept → InMemory
first_in_memory k = in_memory k.memory (First k.count)

abbrev pub second_in_memory : ℕ → LineKept → InMemory
second_in_memory n k = in_memory k.memory (Second n k.count)

unfoldable pub byte_in_memory : List ℕ → Held → ℕ → InMemory
byte_in_memory memory (First n) b =
    cond (eqb b (byte_of "\n")) (in_memory memory (Second n 0)) (first_in_memory (held_at most_held memory 0 n b))
byte_in_memory memory (Second n m) b =
    cond (eqb b (byte_of "\n")) (in_memory memory (First 0)) (second_in_memory n (held_at most_held memory n m b))

unfoldable pub bytes_in_memory : List ℕ → Held → List ℕ → InMemory
bytes_in_memory memory held [] = in_memory memory held
bytes_in_memory memory held (b ∷ bs) =
    let s : InMemory = byte_in_memory memory held b in bytes_in_memory s.memory s.held bs

-- what a turn of the program leaves: the memory, the lines in it, and what is printed, put into the buffer from `at` on
pub record Turns (t : Turned) (s : InMemory) (out : List ℕ) (at : ℕ) (memory : List ℕ) (held : Held)
    (left : List ℕ) (next : ℕ) : Type 0 where
  pub holds : Holds memory held
  pub is_stored : in_memory memory held ≡ s
  pub lines : lines_of memory held ≡ t.lines
  pub put : Put out at t.output left next

-- Bytes are taken up to the end, or as long as the buffer has room for a line of output: `goes` before each byte taken,
-- and `stops` only where it has not.
pub record Feeds (memory : List ℕ) (held : Held) (bytes out : List ℕ) (left-memory : List ℕ)
    (left-held : Held) (left : List ℕ) (used at : ℕ) : Type 0 where
  pub turns : Turns (take_bytes (lines_of memory held) (take used bytes)) (bytes_in_memory memory held (take used bytes))
      out 0 left-memory left-held left at
  pub within : used ≤ length bytes
  pub fits : at ≤ length out
  pub goes : (k : ℕ) → k < used
      → length (take_bytes (lines_of memory held) (take k bytes)).output + line_room ≤ length out
  pub stops : used < length bytes → length out < at + line_room
