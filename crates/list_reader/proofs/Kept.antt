-- What one more row of a table leaves: it is counted once, in its own table alone; below the ceiling it stands in the next place, and past it
-- no row changes. From where words are put. Assumes nothing.
use mathlib.Core.Path.{◌≡◌, refl, ◌∙◌}
use mathlib.Core.Bool.{Bool, true, false, cond}
use mathlib.Core.List.{List, [], ◌∷◌}
use Prim.Native.Nat.{ℕ, suc, ◌+◌, ◌<◌, ◌≤◌}
use native.Mathlib.Omega.{arith}
use lib.Dec.{ltb}
use lib.ListN.{length, get_or, set, take}
use lib.Seq.{sets, length-sets, get_or-set_same, get_or-set_other, get_or-take}
use borrow.Author.Tests.{ltb-true, lt-ltb, le-ltb}
use Rattle.std.proofs.lemmas.List.{length-take, length-take-le}
use Rattle.resolved_sort.proofs.Append.{get_d_sets_at}
use Rattle.list_memory.specs.declared.Table.{Table}
use Rattle.list_memory.specs.Memory.{memory_words, rows_at, rows_given}
use Rattle.list_memory.specs.Layouts.{table_number, layout_of, list_row_at}
use Rattle.list_reader.specs.Taking.{one_more_word, row_kept, appended}

-- a row that is kept ends before the counts
row_before_the_counts : (k : Table) (n : ℕ) → n < (layout_of k).ceiling → list_row_at k n + (layout_of k).width ≤ rows_at
unfolding layout_of
row_before_the_counts Table.Sorts n h = omega (arith, h)
row_before_the_counts Table.Entries n h = omega (arith, h)
row_before_the_counts Table.Nodes n h = omega (arith, h)
row_before_the_counts Table.NodeEntries n h = omega (arith, h)
row_before_the_counts Table.Vars n h = omega (arith, h)
row_before_the_counts Table.Exprs n h = omega (arith, h)
row_before_the_counts Table.Names n h = omega (arith, h)
row_before_the_counts Table.Constraints n h = omega (arith, h)
row_before_the_counts Table.Overloads n h = omega (arith, h)
row_before_the_counts Table.Sources n h = omega (arith, h)

sets_after : (vs l : List ℕ) (i j : ℕ) → i + length vs ≤ j → get_or (sets l i vs) j 0 ≡ get_or l j 0
sets_after [] l i j h = refl
sets_after (v ∷ vs) l i j h = sets_after vs (set l i v) (suc i) j (omega arith) ∙ get_or-set_other l i j v 0 (λ e. omega arith)

module _ (ws : List ℕ) (k : Table) (row : List ℕ) where
  abbrev n : ℕ
  n = rows_given ws (table_number k)

  same_length : length (row_kept ws k row) ≡ length ws
  unfolding row_kept
  same_length = go (ltb n (layout_of k).ceiling)
    where
      go : (b : Bool) → length (cond b (sets ws (list_row_at k n) (take (layout_of k).width row)) ws) ≡ length ws
      go true = length-sets ws (list_row_at k n) (take (layout_of k).width row)
      go false = refl

  pub row_is_counted_once : rows_at + table_number k < length ws → rows_given (appended ws k row) (table_number k) ≡ one_more_word n
  unfolding appended
  row_is_counted_once room = get_or-set_same (row_kept ws k row) (rows_at + table_number k) (one_more_word n) 0 (omega (arith, same_length, room))

  behind_the_rows : (i : ℕ) → rows_at ≤ i → get_or (row_kept ws k row) i 0 ≡ get_or ws i 0
  unfolding row_kept
  behind_the_rows i l = go (ltb n (layout_of k).ceiling) refl
    where
      go : (b : Bool) → ltb n (layout_of k).ceiling ≡ b
          → get_or (cond b (sets ws (list_row_at k n) (take (layout_of k).width row)) ws) i 0 ≡ get_or ws i 0
      go true e =
          sets_after (take (layout_of k).width row) ws (list_row_at k n) i
          (omega (arith, l, length-take (layout_of k).width row, row_before_the_counts k n (ltb-true n (layout_of k).ceiling e)))
      go false e = refl

  -- nor does it change another word behind the rows
  pub row_changes_no_other_word_behind_the_rows : (i : ℕ) → rows_at ≤ i → (i ≡ rows_at + table_number k → ⊥) → get_or (appended ws k row) i 0 ≡ get_or ws i 0
  unfolding appended
  row_changes_no_other_word_behind_the_rows i l d =
      get_or-set_other (row_kept ws k row) (rows_at + table_number k) i (one_more_word n) 0 d ∙ behind_the_rows i l

  -- past the ceiling
  pub row_past_the_ceiling_is_not_kept : (layout_of k).ceiling ≤ n → row_kept ws k row ≡ ws
  unfolding row_kept
  row_past_the_ceiling_is_not_kept h = rw (le-ltb n (layout_of k).ceiling h) refl

  -- below it
  pub row_stands_in_the_next_place : n < (layout_of k).ceiling → memory_words ≤ length ws → (layout_of k).width ≤ length row
      → (j : ℕ) → j < (layout_of k).width → get_or (row_kept ws k row) (list_row_at k n + j) 0 ≡ get_or row j 0
  unfolding row_kept
  row_stands_in_the_next_place h room long j l =
      let t : length (take (layout_of k).width row) ≡ (layout_of k).width = length-take-le (layout_of k).width row long in
      rw (lt-ltb n (layout_of k).ceiling h)
      (get_d_sets_at (take (layout_of k).width row) ws (list_row_at k n) j (omega (arith, t, room, row_before_the_counts k n h)) (omega (arith, t, l))
      ∙ get_or-take (layout_of k).width row j 0 l)
