-- What an entry leaves of the sort storage ws, lent with n sorts and e entries: words vs in which the given sorts stand
-- as they were, with new ones behind them; or, where room ended, with zeros behind them.
use Rattle.std.specs.Prelude.{◌≡◌, false, List, ℕ, ◌*◌, ◌<◌, ◌≤◌, length, get_or, Ok}
use Rattle.resolved_sort.specs.declared.Counts.{Counts}
use Rattle.resolved_sort.specs.Tree.{Tree}
use Rattle.resolved_sort.specs.Interning.{Sorts, member, need, fits}
use Rattle.resolved_sort.specs.Storage.{max_arguments, row_words, entries_at, entry_at}
use Rattle.resolved_sort.specs.Checks.{first_failing, sort_checks}
use Rattle.resolved_sort.specs.Entries.{tree_at, counts_of, after}
use Rattle.resolved_sort.specs.Growing.{Grown}

-- the words of the given rows and entries are as they were
pub record GivenStands (ws : List ℕ) (n e : ℕ) (vs : List ℕ) : Type 0 where
  pub rows : (i : ℕ) → i < row_words * n → get_or vs i 0 ≡ get_or ws i 0
  pub entries : (j : ℕ) → j < e → entry_at vs j ≡ entry_at ws j
  pub as_long : length vs ≡ length ws

-- New sorts are kept, k counts them all: old numbers keep their sorts, "rows past kept sorts are untouched", and the
-- words pass checks 1 to 4 again.
pub record SortsGrew (ws : List ℕ) (n e : ℕ) (vs : List ℕ) (k : Counts) : Type 0 where
  pub given : GivenStands ws n e vs
  pub more : n ≤ k.sorts
  pub more_entries : e ≤ k.entries
  pub old : (i : ℕ) → i < n → tree_at vs k.sorts i ≡ tree_at ws n i
  pub past_rows : (i : ℕ) → row_words * k.sorts ≤ i → i < entries_at → get_or vs i 0 ≡ get_or ws i 0
  pub past_entries : (j : ℕ) → k.entries ≤ j → entry_at vs j ≡ entry_at ws j
  pub again : first_failing (sort_checks vs k.sorts k.entries) ≡ Ok tt

-- The words and counts are those that making left: the sorts of S are then in the list.
pub record LeftBy (ws : List ℕ) (n e : ℕ) (vs : List ℕ) (k : Counts) (S : Sorts) : Type 0 where
  pub words : vs ≡ after ws n e S
  pub counts : k ≡ counts_of S

-- 15 gives back: "rows past the entry lengths are zero".
pub record SortsPutBack (ws : List ℕ) (n e : ℕ) (vs : List ℕ) : Type 0 where
  pub given : GivenStands ws n e vs
  pub old : (i : ℕ) → i < n → tree_at vs n i ≡ tree_at ws n i
  pub zero_rows : (i : ℕ) → row_words * n ≤ i → i < entries_at → get_or vs i 0 ≡ 0
  pub zero_entries : (j : ℕ) → e ≤ j → entry_at vs j ≡ 0
  pub again : first_failing (sort_checks vs n e) ≡ Ok tt

-- "a new distinct sort would exceed 1,024 sorts or 4,096 entries": a list grown from the given one, and a sort that it
-- has not and that does not fit, though it has no more arguments than a function may have.
pub record RanOut (ws : List ℕ) (n e : ℕ) : Type 0 where
  pub so_far : Sorts
  pub grown : Grown ws n e so_far
  pub wanted : Tree
  pub few : need wanted ≤ max_arguments
  pub absent : member so_far.trees wanted ≡ false
  pub too_big : fits wanted so_far ≡ false
