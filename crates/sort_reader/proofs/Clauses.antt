-- What is said of read, each clause read alone, beside `read_says_exactly`: the number answered stands for the line's sort, in words that have grown; a line
-- that is no sort is left from the position answered on; without room the words are put back, and storing ended at a sort that had no place; and a check alone
-- refuses with the words as given. By the cases of the answer. Assumes nothing.
use mathlib.Core.Path.{◌≡◌}
use mathlib.Core.List.{List, []}
use Prim.Native.Nat.{ℕ, ◌<◌, ◌≤◌}
use lib.ListN.{length, drop}
use Rattle.std.specs.Prelude.{Ok, Err}
use Rattle.words.specs.Words.{cleared}
use Rattle.resolved_sort.specs.declared.Counts.{Counts}
use Rattle.resolved_sort.specs.declared.SortId.{SortId}
use Rattle.resolved_sort.specs.declared.Refusal.{Refusal}
use Rattle.resolved_sort.specs.Tree.{Tree}
use Rattle.resolved_sort.specs.Interning.{full}
use Rattle.resolved_sort.specs.Storage.{sorts_of}
use Rattle.resolved_sort.specs.Checks.{first_failing}
use Rattle.resolved_sort.specs.Entries.{tree_at}
use Rattle.entry_answers.specs.SortsLeft.{SortsGrew, SortsPutBack, RanOut}
use Rattle.sort_text.specs.declared.Unread.TheVariants.{Refused, NotASort, NoRoom}
use Rattle.sort_text.specs.Parse.{parsed, stuck, line}
use Rattle.sort_text.specs.Reading.{read_checks, store}
use Rattle.sort_reader.specs.Answered.{ReadSays}

module _ (ws ix : List ℕ) (n e : ℕ) (bs vs jx : List ℕ) where
  pub read_is_the_lines_sort : (s : SortId) (k : Counts) → ReadSays ws ix n e bs vs jx (Ok (s, k))
      → (line bs ≡ parsed (tree_at vs k.sorts s.0) []) × (s.0 < k.sorts) × SortsGrew ws n e vs k × (jx ≡ cleared ix)
  read_is_the_lines_sort s k x = (x.is, x.listed, x.grew, x.zero_index)

  pub no_sort_is_left_unread : (at : ℕ) → ReadSays ws ix n e bs vs jx (Err (NotASort at)) → (at ≤ length bs) × (line bs ≡ stuck (drop at bs)) × (vs ≡ ws) × (jx ≡ ix)
  no_sort_is_left_unread at x = (x.inside, x.is, x.given, x.given_index)

  pub no_room_puts_back : ReadSays ws ix n e bs vs jx (Err NoRoom)
      → (first_failing (read_checks ws ix n e bs) ≡ Ok tt)
      × ((t : Tree) × (r : RanOut ws n e) × (line bs ≡ parsed t []) × (store t (sorts_of ws n e) ≡ full r.so_far)) × SortsPutBack ws n e vs
      × (jx ≡ cleared ix)
  no_room_puts_back x = (x.passed, (x.sort, x.ran_out, x.is, x.stored_so), x.put_back, x.zero_index)

  pub refused_by_the_first_failing : (c : Refusal) → ReadSays ws ix n e bs vs jx (Err (Refused c)) → (first_failing (read_checks ws ix n e bs) ≡ Err c) × (vs ≡ ws) × (jx ≡ ix)
  refused_by_the_first_failing c x = (x.first, x.given, x.given_index)
