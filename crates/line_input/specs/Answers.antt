-- What `next_line` answers and leaves, by the bytes that were read, given as the parts that the reads have put into the
-- buffer. A reader may say which bytes it has left: the parts are those that it gave. Standard input does not say it.
use Rattle.std.specs.Prelude.{◌≡◌, List, [], ℕ, ◌<◌, ◌≤◌, length, take, drop, Option, ⊤}
use Rattle.std.specs.Io.KnownBytes.{Consumes, IsAtEnd}
use Rattle.std.proofs.Math.Seq.{slice}
use Rattle.line_input.specs.Found.{Input}
use Rattle.line_input.specs.Found.{LineFound}
use Rattle.line_input.specs.Found.{Nothing, Line, End, Failed}
use Rattle.held_line.specs.Lines.{whole}
use Rattle.line_input.specs.Taking.{Came, line_ends, going, take_line, Reached, reached, goes_on}
use Rattle.line_input.specs.Taking.{some_line, no_line, following_of}

-- the bytes of the buffer that are not taken yet
abbrev pub unread : List ℕ → Input → List ℕ
unread buffer i = slice i.at i.end buffer

-- What the answer says: a line with the bytes left of the last part; that there is none; or what is held where a read
-- has failed, or where the turns are used up.
unfoldable pub SaysLine : LineFound → Reached → (l left : List ℕ) → Type 0
SaysLine Line g l left = following_of g ≡ some_line l left []
SaysLine End g l left = (following_of g ≡ no_line) × (l ≡ []) × (left ≡ [])
SaysLine Failed g l left = (g ≡ reached (going l) []) × (left ≡ [])
SaysLine Nothing g l left = (g ≡ reached (going l) []) × (left ≡ [])

-- how often a call reads at most
abbrev pub most_reads : ℕ
most_reads = 18446744073709551615

-- The line stands at the front of its memory, and what stands behind it there stays.
pub record NextLine (buffer line : List ℕ) (input : Input) (buffer-left line-left : List ℕ) (r : Input) : Type 0 where
  pub parts : List (List ℕ)
  pub says : SaysLine r.found (goes_on (length line) parts (take_line (length line) [] (unread buffer input)))
      (take r.length line-left) (unread buffer-left r)
  pub behind : drop r.length line-left ≡ drop r.length line
  pub few : r.length ≤ length line
  pub turns : r.found ≡ Nothing → length parts ≡ most_reads

-- Whether an answer says that the input is at its end: it has no further line, or its last line has no LF.
unfoldable pub EndsInput : LineFound → Came → Type 0
EndsInput End c = ⊤
EndsInput Line (going l) = ⊤
EndsInput Line (line_ends l bs) = ⊥
EndsInput Failed c = ⊥
EndsInput Nothing c = ⊥

-- The same of a reader by the bytes that it has left before and after, where those are known: the parts are what it gave,
-- and none is left where the answer says that the input is at its end. A buffer without room says nothing of the end.
pub record NextLineFrom (known known-left : Option (List ℕ)) (buffer line : List ℕ) (input : Input)
    (buffer-left line-left : List ℕ) (r : Input) : Type 0 where
  pub next : NextLine buffer line input buffer-left line-left r
  pub given : Consumes known known-left (whole next.parts)
  pub ended : EndsInput r.found (goes_on (length line) next.parts (take_line (length line) [] (unread buffer input))).came
      → 0 < length buffer → IsAtEnd known-left
