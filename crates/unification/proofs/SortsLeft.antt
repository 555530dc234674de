-- What a call that makes sorts leaves of the lent lists, by its answer. A sort, or none: lists that have grown, with the sort in them under the number
-- answered. No room: words that read as before below the lengths, which stay. By the list of sorts that the call reached, which grew from the words.
-- Assumes nothing.
use mathlib.Core.Path.{◌≡◌, refl, ap, sym, ◌∙◌, subst}
use mathlib.Core.Bool.{true}
use mathlib.Core.List.{List}
use Prim.Native.Nat.{ℕ, ◌-◌, ◌<◌}
use native.Mathlib.Omega.{arith}
use lib.ListN.{length}
use Rattle.resolved_sort.specs.declared.SortId.{SortId}
use Rattle.resolved_sort.specs.declared.Counts.{Counts}
use Rattle.resolved_sort.specs.Entries.{Joined}
use Rattle.resolved_sort.specs.Entries.{At, Nothing, Full}
use Rattle.resolved_sort.specs.Tree.{Tree}
use Rattle.resolved_sort.specs.Interning.{Sorts, look, number, distinct, Outcome, made, nothing, full}
use Rattle.resolved_sort.specs.Storage.{max_entries, trees}
use Rattle.resolved_sort.specs.Checks.{row_fine_of, rows_fine, no_two_equal}
use Rattle.resolved_sort.specs.Entries.{after, Stored, stored}
use Rattle.resolved_sort.specs.Rows.{Checked, stored_at}
use Rattle.resolved_sort.proofs.Below.{below_each, each_below}
use Rattle.resolved_sort.proofs.Numbers.{look_number, number_below}
use Rattle.resolved_sort.proofs.RowTrees.{row_within}
use Rattle.resolved_sort.proofs.Fine.{run_inside, row_fine}
use Rattle.resolved_sort.specs.Growing.{Agrees, Grown, SortsKept, InTree}
use Rattle.resolved_sort.proofs.Append.{rows_agree, trees_agree}
use Rattle.resolved_sort.proofs.Unchanged.{longer, unchanged, length_after}
use Rattle.unification.specs.Making.{Lent}
use Rattle.unification.specs.Growing.{CheckedLent, Grows, with_sort_words, ReadsAs}
use Rattle.unification.proofs.SortsGrow.{agreeing_sorts_grow, sorts_grow}

-- a number of the list, with a sort of which P holds
abbrev pub SortWith : (Tree → Type 0) → Lent → ℕ → Type 0
SortWith P W a = (a < W.lengths.sorts) × P (look (trees W.sorts W.lengths.sorts) a)

-- A call on W answered and left the words us: a sort of which P holds; or none, and N; or there was no room.
unfoldable pub Leaves : (Tree → Type 0) → Type 0 → Lent → List ℕ → Joined → Type 0
Leaves P N W us (At id k) = Grows W (with_sort_words W us k.sorts k.entries) × SortWith P (with_sort_words W us k.sorts k.entries) id.0
Leaves P N W us (Nothing k) = Grows W (with_sort_words W us k.sorts k.entries) × N
Leaves P N W us Full = Grows W (with_sort_words W us W.lengths.sorts W.lengths.entries) × ReadsAs W us

module _ (W : Lent) (c : CheckedLent W) where
  abbrev ws : List ℕ
  ws = W.sorts

  abbrev n : ℕ
  n = W.lengths.sorts

  abbrev e : ℕ
  e = W.lengths.entries

  module _ (S : Sorts) (g : Grown ws n e S) where
    abbrev us : List ℕ
    us = after ws n e S

    abbrev old : Agrees ws us n e
    old = unchanged ws n e c.sorts S g

    -- an old row is fine among all rows, and its run is inside the old entries
    old_fine : (i : ℕ) → i < n → row_fine_of us e i ≡ true
    unfolding rows_fine
    old_fine i l =
        let was = below_each n (row_fine_of ws e) c.sorts.fine i l in
        let now = below_each (length S.trees) (row_fine_of us (max_entries - S.entries)) g.checked.fine i (omega (arith, l, longer ws n e c.sorts S g)) in
        row_fine us e i (row_within us (max_entries - S.entries) i now)
        (λ f. let r = run_inside ws e i was (sym (old.kinds i l) ∙ f) in
        record { short = omega (arith, r.short, old.counts i l); inside = omega (arith, r.inside, old.starts i l, old.counts i l) })

    old_checked : Checked us n e
    unfolding rows_fine no_two_equal
    old_checked =
        record {
          long = omega (arith, c.sorts.long, length_after ws n e c.sorts S g);
          sorts = c.sorts.sorts;
          entries = c.sorts.entries;
          fine = each_below n (row_fine_of us e) old_fine;
          differ = ap distinct (trees_agree ws us n (rows_agree ws us n e old c.sorts.fine)) ∙ c.sorts.differ;
        }

    old_sorts_grow : Grows W (with_sort_words W us n e)
    old_sorts_grow = agreeing_sorts_grow W c us n e old_checked (omega arith) (omega arith) (length_after ws n e c.sorts S g) old

  module _ (P : Tree → Type 0) (N : Type 0) where
    pub left_by : (S₀ : Sorts) (O : Outcome Tree) → SortsKept ws n e InTree S₀ O → ((t : Tree) (S : Sorts)
        → O ≡ made t S → P t) → ((S : Sorts) → O ≡ nothing S → N)
        → Leaves P N W (stored ws n e O).words (stored ws n e O).answer
    unfolding Leaves SortsKept stored
    left_by S₀ (made t S) k h f = (
      sorts_grow W c S k.0,
      (number_below S.trees t k.2, subst P (sym (ap (λ T. look T (number S.trees t)) k.0.reads ∙ look_number S.trees t k.2)) (h t S refl)),
    )
    left_by S₀ (nothing S) k h f = (sorts_grow W c S k.0, f S refl)
    left_by S₀ (full S) k h f = (old_sorts_grow S k.0, (old S k.0, length_after ws n e c.sorts S k.0))

-- The same by the equation that a call answers.
module _ (W : Lent) (P : Tree → Type 0) (N : Type 0) (r : Stored) (h : Leaves P N W r.words r.answer) (us : List ℕ) where
  pub leaves_sort : (id : SortId) (k : Counts) → r ≡ stored_at us (At id k)
      → Grows W (with_sort_words W us k.sorts k.entries) × SortWith P (with_sort_words W us k.sorts k.entries)
      id.0
  unfolding Leaves
  leaves_sort id k q = subst (λ r. Leaves P N W r.words r.answer) q h

  pub leaves_none : (k : Counts) → r ≡ stored_at us (Nothing k) → Grows W (with_sort_words W us k.sorts k.entries) × N
  unfolding Leaves
  leaves_none k q = subst (λ r. Leaves P N W r.words r.answer) q h

  pub leaves_full : r ≡ stored_at us Full → Grows W (with_sort_words W us W.lengths.sorts W.lengths.entries) × ReadsAs W us
  unfolding Leaves
  leaves_full q = subst (λ r. Leaves P N W r.words r.answer) q h
