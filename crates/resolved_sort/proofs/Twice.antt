-- Check 4 on rows: no two rows are the same exactly if no two sorts are equal, once check 3 has passed. By induction on
-- the list: where the rows before a row are distinct, it is the same as one of them exactly if its sort is among theirs.
-- Assumes nothing.
use mathlib.Core.Path.{◌≡◌, refl, sym, ◌∙◌, ap, subst}
use mathlib.Core.Bool.{Bool, true, false, not, and-eq-true_iff}
use mathlib.Core.List.{List}
use Prim.Native.Nat.{ℕ, zero, suc, ◌<◌}
use native.Mathlib.Omega.{arith}
use lib.ListN.{length}
use borrow.Author.Tests.{not-true}
use Rattle.resolved_sort.specs.Interning.{look, number, member, distinct}
use Rattle.resolved_sort.specs.Storage.{words_at, tree_of, row_of, trees}
use Rattle.resolved_sort.specs.Checks.{all_below, row_fine_of, rows_fine, no_two_equal}
use Rattle.resolved_sort.specs.Rows.{same_row, rows_differ}
use Rattle.resolved_sort.proofs.Below.{below_each, each_below}
use Rattle.resolved_sort.proofs.Numbers.{true_not_false, distinct_snoc, look_number, number_below, look_injective}
use Rattle.resolved_sort.proofs.Trees.{length_trees}
use Rattle.resolved_sort.proofs.RowTrees.{Within, row_within, row_of_tree}
use Rattle.resolved_sort.specs.Growing.{ListFine}
use Rattle.resolved_sort.proofs.Interned.{trees_differ, tests_agree, same_row_exactly, look_tree, row_of_look}

module _ (ws : List ℕ) (e : ℕ) where
  -- the rows before row m, all different, do not have its sort if none of them is the same row
  sort_is_new : (m : ℕ) → ListFine ws m e → row_fine_of ws e m ≡ true → ((i : ℕ) → i < m → same_row (words_at ws i) (words_at ws m) ≡ false)
      → (b : Bool) → member (trees ws m) (tree_of (trees ws m) (words_at ws m)) ≡ b → b ≡ false
  sort_is_new m k f h false q = refl
  sort_is_new m k f h true q =
      let t = tree_of (trees ws m) (words_at ws m) in
      let i = number (trees ws m) t in
      let l : i < m = subst (λ j. i < j) (length_trees ws m) (number_below (trees ws m) t q) in
      let w : Within (length (trees ws m)) (words_at ws m) = rw (length_trees ws m) (row_within ws e m f) in
      let r : words_at ws i ≡ words_at ws m =
      sym (row_of_look ws m e k i l) ∙ (ap (row_of (trees ws m)) (look_number (trees ws m) t q) ∙ row_of_tree
      (trees ws m) (words_at ws m) (trees_differ ws m e k) w) in
      absurd (true_not_false _ ((same_row_exactly _ _).1 r) (h i l))

  listed_before : (m : ℕ) → rows_fine ws m e ≡ true → distinct (trees ws m) ≡ true → ListFine ws m e
  unfolding no_two_equal
  listed_before m f d = record { fine = f; differ = d }

  to_distinct : (m : ℕ) → rows_fine ws m e ≡ true → rows_differ ws m ≡ true → distinct (trees ws m) ≡ true
  unfolding all_below trees rows_fine distinct
  to_distinct zero f h = refl
  to_distinct (suc m) f h =
      let p = (and-eq-true_iff (all_below m (row_fine_of ws e)) (row_fine_of ws e m)).0 f in
      let q = (and-eq-true_iff (rows_differ ws m) (all_below m (λ i. not (same_row (words_at ws i) (words_at ws m))))).0 h in
      let d : distinct (trees ws m) ≡ true = to_distinct m p.0 q.0 in
      distinct_snoc (trees ws m) _ d
      (sort_is_new m (listed_before m p.0 d) p.1
      (λ i l. not-true _ (below_each m (λ i. not (same_row (words_at ws i) (words_at ws m))) q.1 i l)) _ refl)

  module _ (n : ℕ) (k : ListFine ws n e) where
    rows_not_same : (j : ℕ) → j < n → (i : ℕ) → i < j → (b : Bool) → same_row (words_at ws i) (words_at ws j) ≡ b → not b ≡ true
    rows_not_same j h i l false q = refl
    rows_not_same j h i l true q =
        let t : look (trees ws n) i ≡ look (trees ws n) j =
        look_tree ws n e k i (omega arith) ∙ (ap (tree_of (trees ws n)) ((same_row_exactly _ _).0 q) ∙ sym (look_tree ws n e k j h)) in
        let s : i ≡ j = look_injective (trees ws n) i j (trees_differ ws n e k) (omega (arith, length_trees ws n)) (omega (arith, length_trees ws n)) t in
        absurd (omega arith)

    to_rows : rows_differ ws n ≡ true
    to_rows =
        each_below n (λ j. all_below j (λ i. not (same_row (words_at ws i) (words_at ws j))))
        (λ j h. each_below j (λ i. not (same_row (words_at ws i) (words_at ws j))) (λ i l. rows_not_same j h i l _ refl))

  -- check 4 by structure is check 4 by rows
  pub rows_differ_exactly : (n : ℕ) → rows_fine ws n e ≡ true → rows_differ ws n ≡ no_two_equal ws n
  unfolding no_two_equal
  rows_differ_exactly n f = tests_agree _ _ (to_distinct n f) (λ d. to_rows n (listed_before n f d))
