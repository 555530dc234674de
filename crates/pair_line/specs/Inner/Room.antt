-- What only contracts of inner functions cite, beside `specs/Room.antt`.
use Rattle.std.specs.Prelude.{◌≡◌, true, List, ℕ, ◌+◌, ◌*◌, ◌<◌, ◌≤◌, Option, Some, None, Result, Ok, Err}
use Rattle.resolved_sort.specs.declared.SortId.{SortId}
use Rattle.resolved_sort.specs.Checks.{fixed_six}
use Rattle.resolved_sort.specs.Entries.{tree_at}
use Rattle.resolved_sort.specs.Rows.{Checked}
use Rattle.resolved_sort.specs.Bounds.{Asked}
use Rattle.sort_text.specs.declared.Unread.{Unread}
use Rattle.sort_text.specs.Reading.{max_line}
use Rattle.text_out.specs.declared.Out.{Out}
use Rattle.text_out.specs.Outs.{then_put}
use Rattle.pair_line.specs.PairProgram.{good, wrong, line_of}
use Rattle.pair_line.specs.Room.{OfLine}
use Rattle.pair_line.specs.Inner.Answers.{wrong_text}

-- The second storage has the sorts of the first under their numbers, and at most max_line more sorts and entries.
pub record RoomGrows (ws : List ℕ) (n e : ℕ) (vs : List ℕ) (m d : ℕ) : Type 0 where
  pub checked : Checked vs m d
  pub longer : n ≤ m
  pub same : (i : ℕ) → i < n → tree_at vs m i ≡ tree_at ws n i
  pub sorts : m ≤ n + max_line
  pub entries : d ≤ e + max_line

-- a line is read: in the second storage its sort is stored, under a number of it
pub record LineStored (ws : List ℕ) (n e : ℕ) (bs vs : List ℕ) (m d a : ℕ) : Type 0 where
  pub of_line : OfLine (tree_at vs m a)
  pub is_good : line_of bs ≡ good (tree_at vs m a)
  pub below : a < m
  pub six : fixed_six vs m ≡ true
  pub grown : RoomGrows ws n e vs m d

-- what reading a line has left, by its answer
abbrev pub LineLeft : List ℕ → (n e : ℕ) → (bs vs : List ℕ) → (m d : ℕ) → Result SortId Unread → Type 0
LineLeft ws n e bs vs m d (Ok id) = LineStored ws n e bs vs m d id.0
LineLeft ws n e bs vs m d (Err why) = line_of bs ≡ wrong (wrong_text bs why)

-- a bad line: what it prints is put
pub record BadPut (bs : List ℕ) (o p : Out) : Type 0 where
  pub bytes : List ℕ
  pub is_wrong : line_of bs ≡ wrong bytes
  pub put : p ≡ then_put o bytes

-- its sort is stored, or what it prints is put
abbrev pub SortOrPut : List ℕ → (n e : ℕ) → (bs : List ℕ) → Out → (vs : List ℕ) → (m d : ℕ) → Out → Option SortId → Type 0
SortOrPut ws n e bs o vs m d p (Some id) = LineStored ws n e bs vs m d id.0 × (p ≡ o)
SortOrPut ws n e bs o vs m d p None = BadPut bs o p

-- both lines of a pair are read
pub record BothRead (ws : List ℕ) (n e a b : ℕ) : Type 0 where
  pub asked : Asked ws n e a b
  pub of_line : OfLine (tree_at ws n a)
  pub sorts : n ≤ 6 + 2 * max_line
  pub entries : e ≤ 2 * max_line
