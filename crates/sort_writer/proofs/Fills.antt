-- The sizes as the loops find them: arguments from the last back to the first, sorts in rising number. In a list that passes
-- checks 3 and 4 they are the sizes of the sorts, by induction on the number. Assumes nothing.
use mathlib.Core.Path.{◌≡◌, refl, sym, ◌∙◌, ap, ap₂}
use mathlib.Core.List.{List, [], ◌∷◌}
use Prim.Native.Nat.{ℕ, zero, suc, ◌+◌, ◌-◌, ◌<◌, ◌≤◌}
use native.Mathlib.Omega.{arith}
use native.Mathlib.Decide.{dec_le}
use native.Mathlib.Numerals.{add-one}
use lib.ListN.{length, get_or, set, length-set}
use lib.Seq.{get_or-set_same, get_or-set_other}
use Rattle.resolved_sort.specs.declared.ResolvedSort.{ResolvedSort}
use Rattle.resolved_sort.specs.declared.ResolvedSort.TheVariants.{Unit as UnitRow, Primitive, Container, Function, Def, TypeVar}
use Rattle.resolved_sort.specs.Tree.{unit, def, typevar, Tree}
use Rattle.resolved_sort.specs.Interning.{look}
use Rattle.resolved_sort.specs.Storage.{entry_at, entries_of, row_at, look_all, trees}
use Rattle.resolved_sort.specs.Rows.{AllBelow}
use Rattle.resolved_sort.specs.Growing.{ListFine}
use Rattle.resolved_sort.proofs.Pairs.{sort_of, Below}
use Rattle.resolved_sort.proofs.Said.{first_entry}
use Rattle.sort_writer.specs.Inner.Sizes.{sized, sized_all, joined, run_size, row_size, sizes_to}
use Rattle.sort_writer.proofs.Rows.{row_says, row_parts}
use Rattle.sort_writer.proofs.Sizes.{size_of_none, size_of_primitive, size_of_container, size_of_function}
use Rattle.sort_writer.proofs.Sizes.{size_of_no_arguments, size_of_one, size_of_more}

run_more : (zs ws : List ℕ) (x s c : ℕ) → (c ≡ 0 → ⊥) → run_size zs (x ∷ entries_of ws s c) ≡ joined (get_or zs x 0) (joined 3 (run_size zs (entries_of ws s c)))
unfolding run_size entries_of
run_more zs ws x s zero h = absurd (h refl)
run_more zs ws x s (suc c) h = refl

-- the loop over the arguments of a run
module _ (zs ws : List ℕ) (s c : ℕ) where
  pub no_arguments : c ≡ 0 → 0 ≡ run_size zs (entries_of ws s c)
  unfolding run_size entries_of
  no_arguments e = rw e

  pub last_argument : (j x : ℕ) → j + 1 ≡ c → x ≡ get_or zs (entry_at ws (s + j)) 0 → x ≡ run_size zs (entries_of ws (s + j) (c - j))
  unfolding run_size entries_of
  last_argument j x h e = let z : c - j ≡ 1 = omega arith in rw z e

  pub one_argument_more : (j i x y z size : ℕ) → i + 1 ≡ j → j < c → size ≡ run_size zs (entries_of ws (s + j) (c - j)) → x ≡ get_or zs (entry_at ws (s + i)) 0
      → y ≡ joined 3 size → z ≡ joined x y → z ≡ run_size zs (entries_of ws (s + i) (c - i))
  one_argument_more j i x y z size h l q e f g =
      let p : s + i + 1 ≡ s + j = omega arith in
      let m : c - i - 1 ≡ c - j = omega arith in
      g
      ∙ (ap₂ joined e (f ∙ ap (joined 3) q)
      ∙ (sym (run_more zs ws (entry_at ws (s + i)) (s + j) (c - j) (λ w. omega arith))
      ∙ (ap₂ (λ (a b : ℕ). run_size zs (entry_at ws (s + i) ∷ entries_of ws a b)) (sym p) (sym m)
      ∙ ap (run_size zs) (sym (first_entry ws (s + i) (c - i) (λ w. omega arith))))))

-- the loop over the sorts
pub no_sort : (ws zs : List ℕ) → zs ≡ sizes_to ws zs 0
unfolding sizes_to
no_sort ws zs = refl

pub one_sort_more : (ws zs₀ zs : List ℕ) (i size : ℕ) (row : ResolvedSort) → zs ≡ sizes_to ws zs₀ i → row ≡ row_at ws i → size ≡ row_size ws zs row
    → set zs i size ≡ sizes_to ws zs₀ (i + 1)
unfolding sizes_to
one_sort_more ws zs₀ zs i size row e f g =
    ap₂ (λ l v. set l i v) e (g ∙ ap₂ (row_size ws) e f) ∙ ap (sizes_to ws zs₀) (sym (add-one i))

-- with right sizes below l, the sizes of rows with parts below l are right
module _ (T : List Tree) (zs : List ℕ) (l : ℕ) (right : (x : ℕ) → x < l → get_or zs x 0 ≡ sized (look T x)) where
  run_right : (xs : List ℕ) → AllBelow l xs → run_size zs xs ≡ sized_all (look_all T xs)
  unfolding run_size look_all AllBelow
  run_right [] h = size_of_no_arguments
  run_right (x ∷ []) h = right x h.0 ∙ size_of_one (look T x)
  run_right (x ∷ y ∷ xs) h =
      ap₂ (λ (a b : ℕ). joined a (joined 3 b)) (right x h.0) (run_right (y ∷ xs) h.1) ∙ size_of_more (look T x) (look T y) (look_all T xs)

  row_right : (ws : List ℕ) (e : ℕ) (row : ResolvedSort) → Below ws e l row → row_size ws zs row ≡ sized (sort_of ws T row)
  unfolding row_size sort_of Below
  row_right ws e UnitRow h = size_of_none unit refl
  row_right ws e (Primitive s) h = size_of_primitive s
  row_right ws e (Container op subsort) h = ap (joined _) (right subsort.0 h) ∙ size_of_container op (look T subsort.0)
  row_right ws e (Function domain range) h =
      ap₂ (λ (a b : ℕ). joined a (joined 4 b)) (run_right (entries_of ws domain.start domain.count) h.3) (right range.0 h.0)
      ∙ size_of_function (look_all T (entries_of ws domain.start domain.count)) (look T range.0)
  row_right ws e (Def n) h = size_of_none (def n) refl
  row_right ws e (TypeVar n) h = size_of_none (typevar n) refl

module _ (ws zs : List ℕ) (n e : ℕ) (k : ListFine ws n e) (room : n ≤ length zs) where
  length_sizes : (m : ℕ) → length (sizes_to ws zs m) ≡ length zs
  unfolding sizes_to
  length_sizes zero = refl
  length_sizes (suc m) = length-set (sizes_to ws zs m) m _ ∙ length_sizes m

  abbrev pub Right : ℕ → Type 0
  Right m = (i : ℕ) → i < m → get_or (sizes_to ws zs m) i 0 ≡ sized (look (trees ws n) i)

  right_more : (m : ℕ) → suc m ≤ n → Right m → (i : ℕ) → i < suc m → Dec (m ≤ i) → get_or (sizes_to ws zs (suc m)) i 0 ≡ sized (look (trees ws n) i)
  unfolding sizes_to
  right_more m h r i l (yes d) =
      let z : i ≡ m = omega arith in
      rw z
      (get_or-set_same (sizes_to ws zs m) m _ 0 (omega (arith, length_sizes m))
      ∙ (row_right (trees ws n) (sizes_to ws zs m) m r ws e (row_at ws m) (row_parts ws n e k m (omega arith)) ∙ ap
      sized (sym (row_says ws n e k m (omega arith)))))
  right_more m h r i l (no d) = get_or-set_other (sizes_to ws zs m) m i _ 0 (λ q. omega arith) ∙ r i (omega arith)

  -- the size found for each sort is its size
  pub sizes_right : (m : ℕ) → m ≤ n → Right m
  sizes_right zero h i l = absurd (omega arith)
  sizes_right (suc m) h i l = right_more m h (sizes_right m (omega arith)) i l (dec_le m i)
