-- What the entry read answers and leaves, whatever it is given.
use Rattle.resolved_sort.specs.declared.Refusal.{Refusal}
use Rattle.std.specs.Prelude.{◌≡◌, List, [], ℕ, ◌<◌, ◌≤◌, length, drop, Ok, Err}
use Rattle.words.specs.Words.{cleared}
use Rattle.resolved_sort.specs.declared.Counts.{Counts}
use Rattle.resolved_sort.specs.declared.SortId.{SortId}
use Rattle.resolved_sort.specs.Tree.{Tree}
use Rattle.resolved_sort.specs.Interning.{Sorts, made, full}
use Rattle.resolved_sort.specs.Storage.{sorts_of}
use Rattle.resolved_sort.specs.Checks.{first_failing}
use Rattle.resolved_sort.specs.Entries.{tree_at}
use Rattle.entry_answers.specs.SortsLeft.{SortsGrew, LeftBy, SortsPutBack, RanOut}
use Rattle.sort_text.specs.declared.Unread.TheVariants.{Refused, NotASort, NoRoom}
use Rattle.sort_text.specs.Parse.{parsed, stuck, line}
use Rattle.sort_text.specs.Reading.{read_checks, store, ReadAnswer}

module _ (ws ix : List ℕ) (n e : ℕ) (bs : List ℕ) where
  -- A refusal: the first failing check, and the words and the index as given.
  pub record ReadRefused (vs jx : List ℕ) (c : Refusal) : Type 0 where
    pub first : first_failing (read_checks ws ix n e bs) ≡ Err c
    pub given : vs ≡ ws
    pub given_index : jx ≡ ix

  -- 20: the line is no sort, and from the position on it is unread. Nothing is stored,
  -- and the index is as given.
  pub record ReadStuck (vs jx : List ℕ) (at : ℕ) : Type 0 where
    pub passed : first_failing (read_checks ws ix n e bs) ≡ Ok tt
    pub inside : at ≤ length bs
    pub is : line bs ≡ stuck (drop at bs)
    pub given : vs ≡ ws
    pub given_index : jx ≡ ix

  -- A sort: in the words left its number stands for the sort of the line. The index is "zero after each call that passes
  -- its checks", here and in the next.
  pub record ReadSort (vs jx : List ℕ) (s : SortId) (k : Counts) : Type 0 where
    pub passed : first_failing (read_checks ws ix n e bs) ≡ Ok tt
    pub listed : s.0 < k.sorts
    pub is : line bs ≡ parsed (tree_at vs k.sorts s.0) []
    pub grew : SortsGrew ws n e vs k
    pub sorts : Sorts
    pub stored_so : store (tree_at vs k.sorts s.0) (sorts_of ws n e) ≡ made (tree_at vs k.sorts s.0) sorts
    pub left : LeftBy ws n e vs k sorts
    pub zero_index : jx ≡ cleared ix

  -- No room: the line is a sort, some new sort did not fit, and what was stored is given back.
  pub record ReadNoRoom (vs jx : List ℕ) : Type 0 where
    pub passed : first_failing (read_checks ws ix n e bs) ≡ Ok tt
    pub sort : Tree
    pub is : line bs ≡ parsed sort []
    pub ran_out : RanOut ws n e
    pub stored_so : store sort (sorts_of ws n e) ≡ full ran_out.so_far
    pub put_back : SortsPutBack ws n e vs
    pub zero_index : jx ≡ cleared ix

  abbrev pub ReadSays : List ℕ → List ℕ → ReadAnswer → Type 0
  ReadSays vs jx (Ok (s, k)) = ReadSort vs jx s k
  ReadSays vs jx (Err (Refused c)) = ReadRefused vs jx c
  ReadSays vs jx (Err (NotASort at)) = ReadStuck vs jx at
  ReadSays vs jx (Err NoRoom) = ReadNoRoom vs jx
