-- What the laws speak of, and the contracts of inner functions, beside `specs/Answers.antt`.
use Rattle.std.specs.Prelude.{◌≡◌, List, ℕ, zero, suc, ◌+◌, ◌-◌, ◌≤◌, length, take, drop}
use Rattle.std.proofs.Math.Seq.{slice}
use Rattle.line_input.specs.Found.{Input}
use Rattle.line_input.specs.Found.{Nothing, Line, End, Failed}
use Rattle.line_input.specs.Taking.{Came, line_ends, going, take_line}

-- what is held of the line
unfoldable pub held_of : Came → List ℕ
held_of (line_ends l bs) = l
held_of (going l) = l

-- the answer for n bytes from `from` on
unfoldable pub input_of : ℕ → ℕ → ℕ → Came → Input
input_of from end n (line_ends l bs) =
    record { at = from + (n - length bs); end = end; length = length l; found = Line }
input_of from end n (going l) = record { at = from + n; end = end; length = length l; found = Nothing }

-- The bytes of the buffer from `from` up to `end` are taken, with `before` bytes of the line held.
pub record Takes (buffer line : List ℕ) (from end before : ℕ) (left : List ℕ) (r : Input) : Type 0 where
  pub answer : r
      ≡ input_of from end (length (slice from end buffer))
      (take_line (length line) (take before line) (slice from end buffer))
  pub held : take r.length left
      ≡ held_of (take_line (length line) (take before line) (slice from end buffer))
  pub behind : drop r.length left ≡ drop r.length line

-- the end of the input, with so many bytes of a line held
unfoldable pub end_of : ℕ → Input
end_of zero = record { at = 0; end = 0; length = 0; found = End }
end_of (suc n) = record { at = 0; end = 0; length = suc n; found = Line }

-- what a read comes to: it fails, the input is at its end, or there are so many bytes at the front of the buffer
pub data Got : Type 0 where
  failed : Got
  at_its_end : Got
  bytes : ℕ → Got

unfoldable pub AfterRead : Got → (buffer line : List ℕ) (count : ℕ) (left : List ℕ) (r : Input) → Type 0
AfterRead failed buffer line count left r =
    (r ≡ record { at = 0; end = 0; length = count; found = Failed }) × (left ≡ line)
AfterRead at_its_end buffer line count left r = (r ≡ end_of count) × (left ≡ line)
AfterRead (bytes n) buffer line count left r = (n ≤ length buffer) × Takes buffer line 0 n count left r
