-- Which reads of a reader an answer rests on.
use Rattle.std.specs.Prelude.{◌≡◌, List, [], ◌∷◌, ℕ, ◌<◌, ◌≤◌, length, take, Option, Result, Ok, Err}
use Rattle.std.specs.declared.io.Error.{Error}
use Rattle.line_input.specs.Found.{LineFound}
use Rattle.line_input.specs.Found.{Nothing, Line, End, Failed}
use Rattle.line_input.specs.Taking.{Came, line_ends, going}

-- What a read shows: of the reader before it, its answer, the bytes in the buffer then, and the reader after it.
abbrev pub Shows : Type 0 → Type 1
Shows R = R → Result ℕ Error → List ℕ → R → Type 0

-- reads one after another, each of which gave one of the parts, a byte of it at least
pub data Reads {R : Type 0} (shows : Shows R) : R → List (List ℕ) → R → Type 0 where
  no_read : (s : R) → Reads shows s [] s
  a_read : (s t u : R) (n : ℕ) (buffer : List ℕ) (ps : List (List ℕ)) → shows s (Ok n) buffer t → 0 < n
      → n ≤ length buffer → Reads shows t ps u → Reads shows s (take n buffer ∷ ps) u

-- these, and then one with this answer
pub record ReadsThen {R : Type 0} (shows : Shows R) (s : R) (ps : List (List ℕ))
    (answer : Result ℕ Error) (u : R) : Type 0 where
  pub before : R
  pub reads : Reads shows s ps before
  pub buffer : List ℕ
  pub last : shows before answer buffer u

-- those of the parts and then one that failed, with the error that is answered
pub record ReadsFailed {R : Type 0} (shows : Shows R) (s : R) (ps : List (List ℕ)) (u : R)
    (r : Result (Option ℕ) Error) : Type 0 where
  pub error : Error
  pub reads : ReadsThen shows s ps (Err error) u
  pub handed : r ≡ Err error

-- What an answer rests on: the reads of its parts; and a last one that gave nothing, where the input is at its end (and
-- the line has no LF), or that failed.
unfoldable pub ReadsFor : {R : Type 0} → Shows R → LineFound → Came → R
    → List (List ℕ) → R → Result (Option ℕ) Error → Type 0
ReadsFor shows Line (line_ends l bs) s ps u r = Reads shows s ps u
ReadsFor shows Line (going l) s ps u r = ReadsThen shows s ps (Ok 0) u
ReadsFor shows End c s ps u r = ReadsThen shows s ps (Ok 0) u
ReadsFor shows Failed c s ps u r = ReadsFailed shows s ps u r
ReadsFor shows Nothing c s ps u r = Reads shows s ps u
