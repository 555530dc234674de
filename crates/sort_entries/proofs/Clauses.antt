-- What is said of join and meet, each clause read alone, beside `bound_says_exactly`: the number answered stands for the join or meet, in words that have
-- grown; none is answered where there is none; without room the words are put back, and making ended at a sort that had no place; the index is then zero;
-- and a check alone refuses, with the words and the index as given. By the cases of the answer. Assumes nothing.
use Rattle.std.specs.Prelude as Rust
use mathlib.Core.Path.{◌≡◌, refl}
use mathlib.Core.Bool.{Bool}
use mathlib.Core.List.{List}
use mathlib.Core.Option.{none, some}
use mathlib.Core.Logic.{inl, inr}
use Prim.Native.Nat.{ℕ, ◌<◌}
use Rattle.std.specs.Prelude.{Ok, Err}
use Rattle.resolved_sort.specs.declared.Counts.{Counts}
use Rattle.resolved_sort.specs.declared.SortId.{SortId}
use Rattle.resolved_sort.specs.declared.Refusal.{Refusal}
use Rattle.resolved_sort.specs.declared.Refusal.TheVariants.{SortsFull}
use Rattle.resolved_sort.specs.Order.{bound}
use Rattle.resolved_sort.specs.Interning.{full}
use Rattle.words.specs.Words.{cleared}
use Rattle.resolved_sort.specs.Checks.{first_failing}
use Rattle.resolved_sort.specs.JoinMeet.{bound_checks}
use Rattle.resolved_sort.specs.Entries.{tree_at}
use Rattle.entry_answers.specs.SortsLeft.{SortsGrew, SortsPutBack, RanOut}
use Rattle.sort_entries.specs.Answered.{made_asked, BoundSays}

module _ (up : Bool) (ws ix : List ℕ) (n e a b : ℕ) (vs jx : List ℕ) where
  pub found_is_the_bound : (s : SortId) (k : Counts) → BoundSays up ws ix n e a b vs jx (Ok (Rust.Some s, k))
      → (bound up (tree_at ws n a) (tree_at ws n b) ≡ some (tree_at vs k.sorts s.0)) × (s.0 < k.sorts) × SortsGrew ws n e vs k
      × (jx ≡ cleared ix)
  found_is_the_bound s k x = (x.is, x.listed, x.grew, x.zero_index)

  pub none_is_no_bound : (k : Counts) → BoundSays up ws ix n e a b vs jx (Ok (Rust.None, k))
      → (bound up (tree_at ws n a) (tree_at ws n b) ≡ none) × SortsGrew ws n e vs k
      × (jx ≡ cleared ix)
  none_is_no_bound k x = (x.is, x.grew, x.zero_index)

  pub no_room_puts_back : BoundSays up ws ix n e a b vs jx (Err SortsFull)
      → (first_failing (bound_checks ws ix n e a b) ≡ Ok tt)
      × ((r : RanOut ws n e) × (made_asked up ws ix n e a b ≡ full r.so_far)) × SortsPutBack ws n e vs
      × (jx ≡ cleared ix)
  no_room_puts_back (inl x) = absurd (x.1 refl)
  no_room_puts_back (inr x) = (x.0.passed, (x.0.ran_out, x.0.made_so), x.0.put_back, x.0.zero_index)

  pub refused_by_the_first_failing : (c : Refusal) → (c ≡ SortsFull → ⊥) → BoundSays up ws ix n e a b vs jx (Err c)
      → (first_failing (bound_checks ws ix n e a b) ≡ Err c) × (vs ≡ ws) × (jx ≡ ix)
  refused_by_the_first_failing c f (inl x) = (x.0.first, x.0.given, x.0.given_index)
  refused_by_the_first_failing c f (inr x) = absurd (f x.1)
