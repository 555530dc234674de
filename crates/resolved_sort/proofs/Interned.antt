-- In a checked list the scan for an equal row is the search for an equal sort: rows are equal exactly if the sorts that
-- they denote are. So interning by rows is interning by structure. Assumes nothing.
use mathlib.Core.Path.{◌≡◌, refl, sym, ◌∙◌, ap, ap₂}
use mathlib.Core.Bool.{Bool, true, false, ◌&&◌, and-eq-true_iff}
use mathlib.Core.Logic.{◌↔◌}
use mathlib.Core.List.{List, [], ◌∷◌}
use Prim.Native.Nat.{ℕ, ◌<◌}
use native.Mathlib.Omega.{arith}
use native.Mathlib.Nat.{add-zero, zero-add}
use lib.ListN.{length}
use lib.Dec.{eqb}
use borrow.Author.Tests.{eqb-true, eq-eqb}
use Rattle.resolved_sort.specs.Tree.{Tree, same}
use Rattle.resolved_sort.specs.Interning.{look, number, distinct}
use Rattle.resolved_sort.specs.Storage.{Row, words_at, tree_of, row_of, trees}
use Rattle.resolved_sort.specs.Checks.{row_fine_of, rows_fine, no_two_equal}
use Rattle.resolved_sort.specs.Rows.{Checked, same_words, same_row, first_from, find_row}
use Rattle.resolved_sort.proofs.Below.{below_each}
use Rattle.resolved_sort.proofs.Same.{same_exactly}
use Rattle.resolved_sort.proofs.Numbers.{first_is_number}
use Rattle.resolved_sort.proofs.Trees.{length_trees, look_row, look_longer}
use Rattle.resolved_sort.proofs.RowTrees.{Within, row_within, row_of_tree, tree_of_row, tree_of_agrees, within_longer}
use Rattle.resolved_sort.specs.Growing.{parts_in, ListFine}

-- two tests that pass together are equal
pub tests_agree : (a b : Bool) → (a ≡ true → b ≡ true) → (b ≡ true → a ≡ true) → a ≡ b
tests_agree true b f g = sym (f refl)
tests_agree false true f g = g refl
tests_agree false false f g = refl

words_equal : (xs ys : List ℕ) → same_words xs ys ≡ true → xs ≡ ys
unfolding same_words
words_equal [] [] e = refl
words_equal [] (y ∷ ys) e = cc
words_equal (x ∷ xs) [] e = cc
words_equal (x ∷ xs) (y ∷ ys) e = let h = (and-eq-true_iff (eqb x y) (same_words xs ys)).0 e in ap₂ ◌∷◌ (eqb-true x y h.0) (words_equal xs ys h.1)

words_same : (ys : List ℕ) → same_words ys ys ≡ true
unfolding same_words
words_same [] = refl
words_same (y ∷ ys) = rw (eq-eqb y y refl) (words_same ys)

rows_equal : (r s : Row) → same_row r s ≡ true → r ≡ s
unfolding same_row
rows_equal r s e =
    let h = (and-eq-true_iff (eqb r.kind s.kind && eqb r.part s.part) (same_words r.args s.args)).0 e in
    let g = (and-eq-true_iff (eqb r.kind s.kind) (eqb r.part s.part)).0 h.0 in
    let a : r.kind ≡ s.kind = eqb-true r.kind s.kind g.0 in
    let b : r.part ≡ s.part = eqb-true r.part s.part g.1 in
    let c : r.args ≡ s.args = words_equal r.args s.args h.1 in
    λ i. record { kind = a i; part = b i; args = c i }

row_same : (r : Row) → same_row r r ≡ true
unfolding same_row
row_same r = rw (eq-eqb r.kind r.kind refl, eq-eqb r.part r.part refl) (words_same r.args)

pub same_row_exactly : (r s : Row) → (same_row r s ≡ true) ↔ (r ≡ s)
same_row_exactly r s = (rows_equal r s, λ e. rw e (row_same s))

pub listed : {ws : List ℕ} {n e : ℕ} → Checked ws n e → ListFine ws n e
listed k = record { fine = k.fine; differ = k.differ }

module _ (ws : List ℕ) (n e : ℕ) (k : ListFine ws n e) where
  pub trees_differ : distinct (trees ws n) ≡ true
  unfolding no_two_equal
  trees_differ = k.differ

  pub row_below : (i : ℕ) → i < n → Within i (words_at ws i)
  unfolding rows_fine
  row_below i h = row_within ws e i (below_each n (row_fine_of ws e) k.fine i h)

  row_in_list : (i : ℕ) → i < n → Within (length (trees ws n)) (words_at ws i)
  row_in_list i h = within_longer i _ (words_at ws i) (omega (arith, length_trees ws n)) (row_below i h)

  -- the sort of a number is that of its row
  pub look_tree : (i : ℕ) → i < n → look (trees ws n) i ≡ tree_of (trees ws n) (words_at ws i)
  look_tree i h =
      look_row ws n i h ∙ tree_of_agrees (trees ws i) (trees ws n) i (λ x l. sym (look_longer ws i n x l (omega arith))) (words_at ws i) (row_below i h)

  pub row_of_look : (i : ℕ) → i < n → row_of (trees ws n) (look (trees ws n) i) ≡ words_at ws i
  row_of_look i h = ap (row_of (trees ws n)) (look_tree i h) ∙ row_of_tree (trees ws n) (words_at ws i) trees_differ (row_in_list i h)

  -- a row is equal to the row of a sort exactly if it denotes that sort
  pub row_found : (t : Tree) → parts_in (trees ws n) t ≡ true → (i : ℕ) → i < n → same_row (words_at ws i) (row_of (trees ws n) t) ≡ same (look (trees ws n) i) t
  row_found t p i h =
      tests_agree _ _
      (λ e. (same_exactly _ t).1 (look_tree i h ∙ (ap (tree_of (trees ws n)) ((same_row_exactly _ _).0 e) ∙ tree_of_row (trees ws n) t p)))
      (λ e. (same_row_exactly _ _).1 (sym (row_of_look i h) ∙ ap (row_of (trees ws n)) ((same_exactly _ t).0 e)))

  -- the scan finds a sort's number
  pub find_is_number : (t : Tree) → parts_in (trees ws n) t ≡ true → find_row ws n (row_of (trees ws n) t) ≡ number (trees ws n) t
  unfolding find_row
  find_is_number t p =
      ap (λ l. first_from (λ i. same_row (words_at ws i) (row_of (trees ws n) t)) l 0) (sym (length_trees ws n))
      ∙ (first_is_number (trees ws n) t (λ i. same_row (words_at ws i) (row_of (trees ws n) t)) 0
      (λ x l. ap (λ j. same_row (words_at ws j) (row_of (trees ws n) t)) (zero-add x) ∙ row_found t p x (omega (arith, length_trees ws n)))
      ∙ add-zero _)
