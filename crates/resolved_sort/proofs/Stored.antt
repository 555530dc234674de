-- What the code's interning leaves is what interning by structure leaves: the scan finds the sort's number, and a new row
-- is the new sort's. And every sort of a checked list has all its parts in the list. Assumes nothing.
use mathlib.Core.Path.{◌≡◌, refl, sym, ◌∙◌, ap, subst}
use mathlib.Core.Bool.{Bool, true, false, ◌&&◌, and-eq-true_iff}
use mathlib.Core.List.{List, [], ◌∷◌, ◌++◌}
use Prim.Native.Nat.{ℕ, zero, suc, ◌+◌, ◌-◌, ◌<◌, ◌≤◌}
use native.Mathlib.Omega.{arith}
use lib.ListN.{length}
use lib.Dec.{leb, ltb}
use borrow.Author.Tests.{ltb-true, leb-true, lt-ltb, le-ltb, le-leb}
use Rattle.resolved_sort.specs.declared.ResolvedSort.{ResolvedSort}
use Rattle.resolved_sort.specs.declared.ResolvedSort.TheVariants.{Unit as UnitRow, Primitive, Container, Function, Def, TypeVar}
use Rattle.resolved_sort.specs.Entries.{At, Full}
use Rattle.resolved_sort.specs.Tree.{Tree}
use Rattle.resolved_sort.specs.Interning.{look, number, member, need, made, full, fits, intern}
use Rattle.resolved_sort.specs.Storage.{max_sorts, max_entries, row_at, trees, row_of, append_row, sorts_of, entries_of, look_all}
use Rattle.resolved_sort.specs.Entries.{counts_of, stored}
use Rattle.resolved_sort.specs.Rows.{Checked, find_row, stored_at, joined_at, intern_row}
use Rattle.resolved_sort.proofs.Numbers.{number_below, number_past, member_look, number_snoc}
use Rattle.resolved_sort.proofs.Trees.{length_trees}
use Rattle.resolved_sort.proofs.RowTrees.{AllBelow}
use Rattle.resolved_sort.specs.Growing.{parts_in, Whole, Wholes}
use Rattle.resolved_sort.proofs.Interned.{listed, tests_agree, find_is_number}
use Rattle.resolved_sort.proofs.Pairs.{sort_of, Below, look_says, row_parts, arity_run}
use Rattle.resolved_sort.proofs.Append.{length_args}
use Rattle.resolved_sort.proofs.Grown.{after_none, more, after_one, length_more}

module _ (ws : List ℕ) (n e : ℕ) (k : Checked ws n e) (t : Tree) (p : parts_in (trees ws n) t ≡ true) where
  abbrev T : List Tree
  T = trees ws n

  found : member T t ≡ true → ltb (find_row ws n (row_of T t)) n ≡ true
  found m = ap (λ i. ltb i n) (find_is_number ws n e (listed k) t p) ∙ lt-ltb _ _ (subst (λ l. number T t < l) (length_trees ws n) (number_below T t m))

  not_found : member T t ≡ false → ltb (find_row ws n (row_of T t)) n ≡ false
  not_found m = ap (λ i. ltb i n) (find_is_number ws n e (listed k) t p ∙ (number_past T t m ∙ length_trees ws n)) ∙ le-ltb n n (omega arith)

  pub counts_kept : counts_of (sorts_of ws n e) ≡ record { sorts = n; entries = e }
  counts_kept =
      let a = length_trees ws n in
      let b : max_entries - (max_entries - e) ≡ e = omega (arith, k.entries) in
      λ i. record { sorts = a i; entries = b i }

  room_agrees : (ltb n max_sorts && leb (e + length (row_of T t).args) max_entries) ≡ fits t (sorts_of ws n e)
  room_agrees =
      tests_agree _ _
      (λ h. let x = (and-eq-true_iff (ltb n max_sorts) (leb (e + length (row_of T t).args) max_entries)).0 h in
      let y = ltb-true n max_sorts x.0 in
      let z = leb-true (e + length (row_of T t).args) max_entries x.1 in
      (and-eq-true_iff (ltb 0 (max_sorts - n)) (leb (need t) (max_entries - e))).1 (
        lt-ltb 0 (max_sorts - n)
            (omega arith),
        le-leb (need t) (max_entries - e) (omega (arith, length_args T t)),
      ))
      (λ h. let x = (and-eq-true_iff (ltb 0 (max_sorts - n)) (leb (need t) (max_entries - e))).0 h in
      let y = ltb-true 0 (max_sorts - n) x.0 in
      let z = leb-true (need t) (max_entries - e) x.1 in
      (and-eq-true_iff (ltb n max_sorts) (leb (e + length (row_of T t).args) max_entries)).1 (
        lt-ltb n max_sorts
            (omega arith),
        le-leb (e + length (row_of T t).args) max_entries
            (omega (arith, length_args T t, k.entries)),
      ))

  one_found : stored_at ws (joined_at (find_row ws n (row_of T t)) n e) ≡ stored ws n e (made t (sorts_of ws n e))
  unfolding stored
  one_found =
      let w = sym (after_none ws n e k) in
      let f = find_is_number ws n e (listed k) t p in
      let c = sym counts_kept in
      λ i. record { words = w i; answer = At (record { 0 = f i }) (c i) }

  one_new : member T t ≡ false → fits t (sorts_of ws n e) ≡ true
      → stored_at (append_row ws n e (row_of T t)) (joined_at n (n + 1) (e + length (row_of T t).args)) ≡ stored ws n e (made t (more ws n e t))
  unfolding stored
  one_new m f =
      let x = (and-eq-true_iff (ltb 0 (max_sorts - n)) (leb (need t) (max_entries - e))).0 f in
      let z = leb-true (need t) (max_entries - e) x.1 in
      let w = sym (after_one ws n e t) in
      let j : n ≡ number (T ++ (t ∷ [])) t = sym (number_snoc T t m ∙ length_trees ws n) in
      let a : n + 1 ≡ length (T ++ (t ∷ [])) = omega (arith, length_more ws n e t) in
      let b : e + length (row_of T t).args ≡ max_entries - (max_entries - e - need t) = omega (arith, length_args T t, k.entries) in
      λ i. record { words = w i; answer = At (record { 0 = j i }) (record { sorts = a i; entries = b i }) }

  no_room : stored_at ws Full ≡ stored ws n e (full (sorts_of ws n e))
  unfolding stored
  no_room = ap (λ us. stored_at us Full) (sym (after_none ws n e k))

  intern_by : (b c : Bool) → member T t ≡ b → fits t (sorts_of ws n e) ≡ c → intern_row ws n e (row_of T t) ≡ stored ws n e (intern t (sorts_of ws n e))
  unfolding intern_row intern
  intern_by true c m f = rw (found m, m) one_found
  intern_by false true m f = rw (not_found m, room_agrees, m, f) (one_new m f)
  intern_by false false m f = rw (not_found m, room_agrees, m, f) no_room

  -- interning by rows is interning by structure
  pub intern_row_interns : intern_row ws n e (row_of T t) ≡ stored ws n e (intern t (sorts_of ws n e))
  intern_row_interns = intern_by (member T t) (fits t (sorts_of ws n e)) refl refl

-- every sort of a checked list has all its parts in the list
module _ (ws : List ℕ) (n e : ℕ) (k : Checked ws n e) where
  member_at : (i : ℕ) → i < n → member (trees ws n) (look (trees ws n) i) ≡ true
  member_at i h = member_look (trees ws n) i (omega (arith, length_trees ws n))

  pub wholes_below : (m : ℕ) → ((i : ℕ) → i < m → Whole (trees ws n) (look (trees ws n) i)) → (xs : List ℕ)
      → AllBelow m xs → Wholes (trees ws n) (look_all (trees ws n) xs)
  unfolding Wholes look_all AllBelow
  wholes_below m f [] b = tt
  wholes_below m f (x ∷ xs) b = (f x b.0, wholes_below m f xs b.1)

  whole_row : (i : ℕ) → i < n → ((j : ℕ) → j < i → Whole (trees ws n) (look (trees ws n) j)) → (r : ResolvedSort) → Below ws e i r
      → member (trees ws n) (sort_of ws (trees ws n) r) ≡ true → Whole (trees ws n) (sort_of ws (trees ws n) r)
  unfolding Whole Below sort_of
  whole_row i h f UnitRow b m = m
  whole_row i h f (Primitive s) b m = m
  whole_row i h f (Container op subsort) b m = (m, f subsort.0 b)
  whole_row i h f (Function domain range) b m = (
    m,
    wholes_below i f (entries_of ws domain.start domain.count) b.3,
    f range.0 b.0,
    omega
        (arith, b.1, arity_run ws (trees ws n) domain.start domain.count),
  )
  whole_row i h f (Def c) b m = m
  whole_row i h f (TypeVar c) b m = m

  whole_step : (i : ℕ) → i < n → ((j : ℕ) → j < i → Whole (trees ws n) (look (trees ws n) j)) → Whole (trees ws n) (look (trees ws n) i)
  whole_step i h f =
      subst (Whole (trees ws n)) (sym (look_says ws n e k i h))
      (whole_row i h f (row_at ws i) (row_parts ws n e k i h) (subst (λ t. member (trees ws n) t ≡ true) (look_says ws n e k i h) (member_at i h)))

  whole_below : (m : ℕ) → m ≤ n → (i : ℕ) → i < m → Whole (trees ws n) (look (trees ws n) i)
  whole_below zero l i h = absurd (omega arith)
  whole_below (suc m) l i h = whole_step i (omega arith) (λ j q. whole_below m (omega arith) j (omega arith))

  pub look_whole : (i : ℕ) → i < n → Whole (trees ws n) (look (trees ws n) i)
  look_whole i h = whole_below n (omega arith) i h
