-- In a checked list whose index is filled, a lookup gives what the scan gives. And check 4 by the index: rows entered in
-- turn, each looked up before it is. While none was found the rows before differ, so that the lookup is the scan; one
-- that is found is a row twice. Assumes nothing.
use mathlib.Core.Path.{◌≡◌, refl, sym, ◌∙◌, ap}
use mathlib.Core.Bool.{Bool, true, false, cond, not}
use mathlib.Core.List.{List}
use Prim.Native.Nat.{ℕ, ◌+◌, ◌<◌, ◌≤◌}
use native.Mathlib.Omega.{arith}
use native.Mathlib.Numerals.{add-one}
use lib.ListN.{length}
use lib.Dec.{ltb}
use borrow.Author.Tests.{not-true, ltb-false, le-ltb}
use Rattle.std.specs.Prelude.{Option, Some, None, is_some}
use Rattle.resolved_sort.specs.declared.SortId.{SortId}
use Rattle.resolved_sort.specs.Tree.{Tree}
use Rattle.resolved_sort.specs.Interning.{number, need}
use Rattle.resolved_sort.specs.Storage.{Row, words_at, row_of, trees, max_sorts, append, append_row}
use Rattle.resolved_sort.specs.Checks.{all_below}
use Rattle.resolved_sort.specs.Rows.{Checked, same_row, first_from, find_row, found_row, rows_differ}
use Rattle.resolved_sort.specs.Growing.{parts_in, Fresh}
use Rattle.resolved_sort.proofs.Append.{checked_append, length_args}
use Rattle.resolved_sort.proofs.Trees.{length_trees}
use Rattle.resolved_sort.proofs.IndexAppend.{indexed_after_append}
use Rattle.resolved_sort.specs.Index.{lookup, entered, Indexed}
use Rattle.resolved_sort.proofs.Below.{below_each, each_below}
use Rattle.resolved_sort.proofs.Interned.{listed, find_is_number, same_row_exactly, tests_agree}
use Rattle.resolved_sort.proofs.Numbers.{true_not_false}
use Rattle.resolved_sort.proofs.Twice.{rows_differ_exactly}
use Rattle.resolved_sort.proofs.IndexFirst.{first_none, first_at_most}
use Rattle.resolved_sort.proofs.IndexScan.{RowsDiffer, filled_lookup_is_scan}

-- row j is none of those before it
abbrev new_row : List ℕ → ℕ → Bool
new_row ws j = all_below j (λ i. not (same_row (words_at ws i) (words_at ws j)))

-- rows that pass the test of each pair differ
rows_differ_by : (ws : List ℕ) (n : ℕ) → rows_differ ws n ≡ true → RowsDiffer ws n
rows_differ_by ws n e j h i l q =
    true_not_false (same_row (words_at ws i) (words_at ws j)) ((same_row_exactly _ _).1 q)
    (not-true _ (below_each j (λ i. not (same_row (words_at ws i) (words_at ws j))) (below_each n (new_row ws) e j h) i l))

-- "Whatever its words held at entry, within a call it gives the scan's result for every sort": once it is filled
module _ (ws ix : List ℕ) (n e : ℕ) (k : Checked ws n e) (held : Indexed ws n ix) where
  pub lookup_is_scan : (r : Row) → lookup ws ix r ≡ found_row ws n r
  lookup_is_scan r =
      filled_lookup_is_scan ws ix n (omega (arith, k.sorts)) (rows_differ_by ws n (rows_differ_exactly ws e n k.fine ∙ k.differ)) held r

  pub lookup_finds_number : (t : Tree) → parts_in (trees ws n) t ≡ true
      → lookup ws ix (row_of (trees ws n) t) ≡ cond (ltb (number (trees ws n) t) n) (Some (record { 0 = number (trees ws n) t })) None
  lookup_finds_number t p =
      lookup_is_scan (row_of (trees ws n) t)
      ∙ ap (λ (i : ℕ). cond (ltb i n) (Some (record { 0 = i })) None) (find_is_number ws n e (listed k) t p)

-- "after every insertion": a sort that was in no row appended and entered, a lookup gives the scan's result for every row
pub lookup_after_append : (ws : List ℕ) (n e : ℕ) (t : Tree) → Fresh ws n e t → (ix : List ℕ) → Indexed ws n ix → (us jx : List ℕ)
    → us ≡ append ws (trees ws n) e t → jx ≡ entered us ix n → (r : Row) → lookup us jx r ≡ found_row us (n + 1) r
lookup_after_append ws n e t f ix held us jx eu ej =
    let long : length (row_of (trees ws n) t).args ≡ need t = length_args (trees ws n) t in
    let as_row : us ≡ append_row ws n e (row_of (trees ws n) t) = eu ∙ ap (λ m. append_row ws m e (row_of (trees ws n) t)) (length_trees ws n) in
    let now : Indexed us (n + 1) jx =
    indexed_after_append ws n e (row_of (trees ws n) t) f.checked f.room (omega (arith, long, f.space)) ix held us jx as_row ej in
    lookup_is_scan us jx (n + 1) (e + need t) (rw (as_row, add-one n) (checked_append ws n e t f)) now

-- a row is new exactly if the scan of the rows before it finds none
module _ (ws : List ℕ) (m : ℕ) where
  abbrev test : ℕ → Bool
  test i = same_row (words_at ws i) (words_at ws m)

  not_found : (b : Bool) → b ≡ false → not b ≡ true
  not_found b e = rw e

  passes : (i : ℕ) → i < m → m ≤ first_from test m 0 → (b : Bool) → test i ≡ b → not b ≡ true
  passes i l h false e = refl
  passes i l h true e = absurd (omega (arith, first_at_most test m 0 i (omega arith) (omega arith) e))

  past_all : not (ltb (find_row ws m (words_at ws m)) m) ≡ true → m ≤ first_from test m 0
  unfolding find_row
  past_all e = omega (arith, ltb-false (first_from test m 0) m (not-true _ e))

  new_by_scan : new_row ws m ≡ not (ltb (find_row ws m (words_at ws m)) m)
  unfolding find_row
  new_by_scan =
      tests_agree _ _
      (λ e. not_found _
      (le-ltb _ m
      (omega (arith, first_none test m 0 (λ j h. not-true _ (below_each m (λ i. not (test i)) e j (omega arith)))))))
      (λ e. each_below m (λ i. not (test i)) (λ i l. passes i l (past_all e) (test i) refl))

some_by_true : (b : Bool) (s : SortId) → is_some (cond b (Some s) None) ≡ b
some_by_true true s = refl
some_by_true false s = refl

not_all : (n : ℕ) (p : ℕ → Bool) (j : ℕ) → j < n → p j ≡ false → (b : Bool) → all_below n p ≡ b → false ≡ b
not_all n p j h e false q = refl
not_all n p j h e true q = absurd (true_not_false (p j) (below_each n p q j h) e)

-- as check 4's loop meets it: row j looked up in the index of the rows before it, of which no two are equal
module _ (ws ix : List ℕ) (n j : ℕ) (few : n ≤ max_sorts) (inside : j < n) (passed : rows_differ ws j ≡ true) (held : Indexed ws j ix)
    (o : Option SortId) (found : o ≡ lookup ws ix (words_at ws j)) (b : Bool) (is : b ≡ is_some o) where
  by_scan : b ≡ ltb (find_row ws j (words_at ws j)) j
  by_scan =
      is
      ∙ (ap is_some (found ∙ filled_lookup_is_scan ws ix j (omega arith) (rows_differ_by ws j passed) held (words_at ws j)) ∙ some_by_true _ _)

  pub found_twice : b ≡ true → false ≡ rows_differ ws n
  found_twice e = not_all n (new_row ws) j inside (new_by_scan ws j ∙ ap not (sym by_scan ∙ e)) (rows_differ ws n) refl

  pub found_none : b ≡ false → rows_differ ws (j + 1) ≡ true
  unfolding all_below
  found_none e = rw (add-one j, passed) (new_by_scan ws j ∙ ap not (sym by_scan ∙ e))

pub none_differ_yet : (ws : List ℕ) → rows_differ ws 0 ≡ true
unfolding all_below
none_differ_yet ws = refl
