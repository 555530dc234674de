-- A list that has grown from a checked storage by at most 200 sorts and entries: its storage has the old sorts under their numbers, and
-- begins with the fixed six if the old one does. Assumes nothing.
use mathlib.Core.Path.{◌≡◌, refl, ◌∙◌}
use mathlib.Core.Bool.{true, and-eq-true_iff}
use mathlib.Core.List.{List}
use Prim.Native.Nat.{ℕ, zero, suc, ◌+◌, ◌-◌, ◌≤◌}
use native.Mathlib.Omega.{arith}
use lib.ListN.{length}
use lib.Dec.{eqb, leb}
use borrow.Author.Tests.{leb-true, le-leb}
use Rattle.resolved_sort.specs.declared.Counts.{Counts}
use Rattle.resolved_sort.specs.Interning.{Sorts}
use Rattle.resolved_sort.specs.Storage.{max_entries, kind_at, sorts_of}
use Rattle.resolved_sort.specs.Checks.{all_below, fixed_six}
use Rattle.resolved_sort.specs.Entries.{counts_of, after}
use Rattle.resolved_sort.specs.Rows.{Checked}
use Rattle.resolved_sort.proofs.Trees.{length_trees}
use Rattle.resolved_sort.specs.Growing.{Grown}
use Rattle.resolved_sort.proofs.Unchanged.{longer, unchanged, look_unchanged}
use Rattle.std.proofs.lemmas.Bool.{and_from}
use Rattle.sort_text.proofs.Sizes.{Spent}
use Rattle.pair_line.specs.Room.{Begun}
use Rattle.pair_line.specs.Inner.Room.{RoomGrows}

module _ (ws : List ℕ) (n e : ℕ) (c : Checked ws n e) (S : Sorts) (g : Grown ws n e S) (k j : ℕ)
    (s : Spent k j (sorts_of ws n e) S) (p : k ≤ 200) (q : j ≤ 200) where
  grown_on : RoomGrows ws n e (after ws n e S) (length S.trees) (max_entries - S.entries)
  grown_on =
      record {
        checked = g.checked;
        longer = longer ws n e c S g;
        same = look_unchanged ws n e c S g;
        sorts = omega (arith, s.sorts, length_trees ws n, p);
        entries = omega (arith, s.entries, c.entries, q);
      }

  same_kinds : (m : ℕ) → m ≤ n → all_below m (λ i. eqb (kind_at (after ws n e S) i) i) ≡ all_below m (λ i. eqb (kind_at ws i) i)
  unfolding all_below
  same_kinds zero h = refl
  same_kinds (suc m) h = rw (same_kinds m (omega arith), (unchanged ws n e c S g).kinds m (omega arith))

  six_stays : fixed_six ws n ≡ true → fixed_six (after ws n e S) (length S.trees) ≡ true
  unfolding fixed_six
  six_stays h =
      let a = (and-eq-true_iff (leb 6 n) (all_below 6 (λ i. eqb (kind_at ws i) i))).0 h in
      let l = leb-true 6 n a.0 in
      and_from (leb 6 (length S.trees)) _ (le-leb 6 (length S.trees) (omega (arith, l, longer ws n e c S g))) (same_kinds 6 l ∙ a.1)

  begun_on : (m : ℕ) → Begun ws n e m → Begun (after ws n e S) (length S.trees) (max_entries - S.entries) (m + 200)
  begun_on m b = record {
    checked = g.checked;
    six = six_stays b.six;
    sorts = omega (
      arith,
      grown_on.sorts,
      b.sorts,
    );
    entries = omega (arith, grown_on.entries, b.entries);
  }

  -- as a call leaves it: its words and its counts
  module _ (vs : List ℕ) (K : Counts) (v : vs ≡ after ws n e S) (d : K ≡ counts_of S) where
    pub grows : RoomGrows ws n e vs K.sorts K.entries
    grows = rw (v, d) grown_on

    pub begun_still : (m : ℕ) → Begun ws n e m → Begun vs K.sorts K.entries (m + 200)
    begun_still m b = rw (v, d) (begun_on m b)
