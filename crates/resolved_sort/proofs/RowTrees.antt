-- Rows and sorts over a list in which no two sorts are equal: a row whose parts have numbers in the list is the row of
-- its sort, and a sort whose parts are in the list is the sort of its row. By the fourteen kinds. Assumes nothing.
use mathlib.Core.Path.{◌≡◌, refl, sym, ap, ap₂, subst}
use mathlib.Core.Bool.{true, cond, ◌&&◌, and-eq-true_iff}
use mathlib.Core.List.{List, [], ◌∷◌}
use Prim.Native.Nat.{ℕ, zero, suc, ◌+◌, ◌<◌, ◌≤◌}
use native.Mathlib.Omega.{arith}
use native.Mathlib.Nat.{add-zero}
use lib.ListN.{length}
use lib.Dec.{eqb, leb, ltb}
use borrow.Author.Tests.{ltb-true, leb-true}
use Rattle.resolved_sort.specs.declared.Sort.{Sort}
use Rattle.resolved_sort.specs.declared.ComplexSort.{ComplexSort}
use Rattle.resolved_sort.specs.Tree.{unit, primitive, def, typevar, Tree, flat, container, function, Trees, no_args, arg}
use Rattle.resolved_sort.specs.Interning.{look, number, member, distinct}
use Rattle.resolved_sort.specs.Storage.{last_kind, function_kind, kind_at, part_at, start_at, count_at, entry_at}
use Rattle.resolved_sort.specs.Storage.{entries_of, Row, words_at, resolved, row_at, look_all, tree_of, numbers}
use Rattle.resolved_sort.specs.Storage.{row_of, kind_flat, kind_op, part_flat}
use Rattle.resolved_sort.specs.Checks.{all_below, parts_below, row_fine_of}
unfoldable pub use Rattle.resolved_sort.specs.Rows.{AllBelow}
use Rattle.resolved_sort.proofs.Below.{below_each}
use Rattle.resolved_sort.proofs.Numbers.{look_number, number_look, number_below}
use Rattle.resolved_sort.specs.Growing.{members, parts_in}

-- a row whose parts are numbered below l, with nothing in the words that are not looked at
pub record Within (l : ℕ) (r : Row) : Type 0 where
  pub known : r.kind ≤ last_kind
  pub plain : r.kind < 6 → r.part ≡ 0
  pub part : 6 ≤ r.kind → r.kind ≤ function_kind → r.part < l
  pub no_run : (r.kind ≡ function_kind → ⊥) → r.args ≡ []
  pub args : AllBelow l r.args

-- case by case over the kinds
pub by_kind : (P : ℕ → Type 0) → P 0 → P 1 → P 2 → P 3 → P 4 → P 5 → P 6 → P 7 → P 8 → P 9 → P 10 → P 11 → P 12 → P 13 → (k : ℕ) → k ≤ last_kind → P k
by_kind P p0 p1 p2 p3 p4 p5 p6 p7 p8 p9 p10 p11 p12 p13 zero h = p0
by_kind P p0 p1 p2 p3 p4 p5 p6 p7 p8 p9 p10 p11 p12 p13 (suc zero) h = p1
by_kind P p0 p1 p2 p3 p4 p5 p6 p7 p8 p9 p10 p11 p12 p13 (suc (suc zero)) h = p2
by_kind P p0 p1 p2 p3 p4 p5 p6 p7 p8 p9 p10 p11 p12 p13 (suc (suc (suc zero))) h = p3
by_kind P p0 p1 p2 p3 p4 p5 p6 p7 p8 p9 p10 p11 p12 p13 (suc (suc (suc (suc zero)))) h = p4
by_kind P p0 p1 p2 p3 p4 p5 p6 p7 p8 p9 p10 p11 p12 p13 (suc (suc (suc (suc (suc zero))))) h = p5
by_kind P p0 p1 p2 p3 p4 p5 p6 p7 p8 p9 p10 p11 p12 p13 (suc (suc (suc (suc (suc (suc zero)))))) h = p6
by_kind P p0 p1 p2 p3 p4 p5 p6 p7 p8 p9 p10 p11 p12 p13 (suc (suc (suc (suc (suc (suc (suc zero))))))) h = p7
by_kind P p0 p1 p2 p3 p4 p5 p6 p7 p8 p9 p10 p11 p12 p13 (suc (suc (suc (suc (suc (suc (suc (suc zero)))))))) h = p8
by_kind P p0 p1 p2 p3 p4 p5 p6 p7 p8 p9 p10 p11 p12 p13 (suc (suc (suc (suc (suc (suc (suc (suc (suc zero))))))))) h = p9
by_kind P p0 p1 p2 p3 p4 p5 p6 p7 p8 p9 p10 p11 p12 p13 (suc (suc (suc (suc (suc (suc (suc (suc (suc (suc zero)))))))))) h = p10
by_kind P p0 p1 p2 p3 p4 p5 p6 p7 p8 p9 p10 p11 p12 p13 (suc (suc (suc (suc (suc (suc (suc (suc (suc (suc (suc zero))))))))))) h = p11
by_kind P p0 p1 p2 p3 p4 p5 p6 p7 p8 p9 p10 p11 p12 p13 (suc (suc (suc (suc (suc (suc (suc (suc (suc (suc (suc (suc zero)))))))))))) h = p12
by_kind P p0 p1 p2 p3 p4 p5 p6 p7 p8 p9 p10 p11 p12 p13 (suc (suc (suc (suc (suc (suc (suc (suc (suc (suc (suc (suc (suc zero))))))))))))) h = p13
by_kind P p0 p1 p2 p3 p4 p5 p6 p7 p8 p9 p10 p11 p12 p13
    (suc (suc (suc (suc (suc (suc (suc (suc (suc (suc (suc (suc (suc (suc k)))))))))))))) h = absurd (omega arith)

abbrev pub row : ℕ → ℕ → List ℕ → Row
row k p xs = record { kind = k; part = p; args = xs }

pub numbers_look_all : (T : List Tree) (xs : List ℕ) → distinct T ≡ true → AllBelow (length T) xs → numbers T (look_all T xs) ≡ xs
unfolding numbers look_all AllBelow
numbers_look_all T [] d h = refl
numbers_look_all T (x ∷ xs) d h = ap₂ ◌∷◌ (number_look T x d h.0) (numbers_look_all T xs d h.1)

parts_make_row : (k p q : ℕ) (xs ys : List ℕ) → p ≡ q → xs ≡ ys → row k p xs ≡ row k q ys
parts_make_row k p q xs ys e f = rw (e, f)

module _ (T : List Tree) (d : distinct T ≡ true) (p : ℕ) (xs : List ℕ) where
  plain_row : (k : ℕ) → k < 6 → Within (length T) (row k p xs) → row k 0 [] ≡ row k p xs
  plain_row k h w = parts_make_row k 0 p [] xs (sym (w.plain h)) (sym (w.no_run (λ e. omega arith)))

  container_row : (k : ℕ) → 6 ≤ k → k < 11 → Within (length T) (row k p xs) → row k (number T (look T p)) [] ≡ row k p xs
  container_row k l h w = parts_make_row k (number T (look T p)) p [] xs (number_look T p d (w.part l (omega arith))) (sym (w.no_run (λ e. omega arith)))

  function_row : Within (length T) (row 11 p xs) → row 11 (number T (look T p)) (numbers T (look_all T xs)) ≡ row 11 p xs
  function_row w = parts_make_row 11 (number T (look T p)) p (numbers T (look_all T xs)) xs (number_look T p d
      (w.part (omega arith) (omega arith))) (numbers_look_all T xs d w.args)

  named_row : (k : ℕ) → 11 < k → Within (length T) (row k p xs) → row k p [] ≡ row k p xs
  named_row k h w = parts_make_row k p p [] xs refl (sym (w.no_run (λ e. omega arith)))

-- the row of the sort of a row is that row
pub row_of_tree : (T : List Tree) (r : Row) → distinct T ≡ true → Within (length T) r → row_of T (tree_of T r) ≡ r
unfolding row_of tree_of kind_flat kind_op part_flat
row_of_tree T r d w =
    by_kind (λ k. (p : ℕ) (xs : List ℕ) → Within (length T) (row k p xs) → row_of T (tree_of T (row k p xs)) ≡ row k p xs)
    (λ p xs w. plain_row T d p xs 0 (omega arith) w)
    (λ p xs w. plain_row T d p xs 1 (omega arith) w)
    (λ p xs w. plain_row T d p xs 2 (omega arith) w)
    (λ p xs w. plain_row T d p xs 3 (omega arith) w)
    (λ p xs w. plain_row T d p xs 4 (omega arith) w)
    (λ p xs w. plain_row T d p xs 5 (omega arith) w)
    (λ p xs w. container_row T d p xs 6 (omega arith) (omega arith) w)
    (λ p xs w. container_row T d p xs 7 (omega arith) (omega arith) w)
    (λ p xs w. container_row T d p xs 8 (omega arith) (omega arith) w)
    (λ p xs w. container_row T d p xs 9 (omega arith) (omega arith) w)
    (λ p xs w. container_row T d p xs 10 (omega arith) (omega arith) w)
    (λ p xs w. function_row T d p xs w)
    (λ p xs w. named_row T d p xs 12 (omega arith) w)
    (λ p xs w. named_row T d p xs 13 (omega arith) w)
    r.kind w.known r.part r.args w

pub look_all_numbers : (T : List Tree) (ts : Trees) → members T ts ≡ true → look_all T (numbers T ts) ≡ ts
unfolding numbers look_all members
look_all_numbers T no_args h = refl
look_all_numbers T (arg t ts) h =
    let p = (and-eq-true_iff (member T t) (members T ts)).0 h in
    ap₂ arg (look_number T t p.0) (look_all_numbers T ts p.1)

pub numbers_below : (T : List Tree) (ts : Trees) → members T ts ≡ true → AllBelow (length T) (numbers T ts)
unfolding numbers members AllBelow
numbers_below T no_args h = tt
numbers_below T (arg t ts) h =
    let p = (and-eq-true_iff (member T t) (members T ts)).0 h in
    (number_below T t p.0, numbers_below T ts p.1)

-- the sort of the row of a sort is that sort
pub tree_of_row : (T : List Tree) (t : Tree) → parts_in T t ≡ true → tree_of T (row_of T t) ≡ t
unfolding row_of tree_of kind_flat kind_op part_flat parts_in
tree_of_row T (flat unit) h = refl
tree_of_row T (flat (primitive Sort.Bool)) h = refl
tree_of_row T (flat (primitive Sort.Pos)) h = refl
tree_of_row T (flat (primitive Sort.Nat)) h = refl
tree_of_row T (flat (primitive Sort.Int)) h = refl
tree_of_row T (flat (primitive Sort.Real)) h = refl
tree_of_row T (flat (def n)) h = refl
tree_of_row T (flat (typevar n)) h = refl
tree_of_row T (container ComplexSort.List s) h = ap (container ComplexSort.List) (look_number T s h)
tree_of_row T (container ComplexSort.Set s) h = ap (container ComplexSort.Set) (look_number T s h)
tree_of_row T (container ComplexSort.FSet s) h = ap (container ComplexSort.FSet) (look_number T s h)
tree_of_row T (container ComplexSort.Bag s) h = ap (container ComplexSort.Bag) (look_number T s h)
tree_of_row T (container ComplexSort.FBag s) h = ap (container ComplexSort.FBag) (look_number T s h)
tree_of_row T (function ts u) h =
    let p = (and-eq-true_iff (members T ts) (member T u)).0 h in
    ap₂ function (look_all_numbers T ts p.0) (look_number T u p.1)

-- a row that passes check 3 has its parts below its own number
pub below_run : (ws : List ℕ) (i s c : ℕ) → ((j : ℕ) → j < c → entry_at ws (s + j) < i) → AllBelow i (entries_of ws s c)
unfolding AllBelow entries_of
below_run ws i s zero h = tt
below_run ws i s (suc c) h = (
  subst (λ j. entry_at ws j < i) (add-zero s) (h 0 (omega arith)),
  below_run ws i (s + 1) c (λ j l. subst (λ k. entry_at ws k < i) (omega arith) (h (suc j) (omega arith))),
)

module _ (ws : List ℕ) (e i p s c : ℕ) where
  abbrev pub read : ℕ → Row
  read k = row k (cond (ltb k 6) 0 p) (cond (eqb k function_kind) (entries_of ws s c) [])

  abbrev Fine : ℕ → Type 0
  Fine k = parts_below ws e i (resolved k p (record { start = s; count = c })) ≡ true → Within i (read k)

  pub plain_within : (k : ℕ) → k < 6 → Within i (row k 0 [])
  unfolding AllBelow
  plain_within k h = record { known = omega arith; plain = λ l. refl; part = λ l m. absurd (omega arith); no_run = λ n. refl; args = tt }

  pub container_within : (k : ℕ) → 6 ≤ k → k < 11 → ltb p i ≡ true → Within i (row k p [])
  unfolding AllBelow
  container_within k h l t = record { known = omega arith; plain = λ l. absurd (omega arith); part = λ l m. ltb-true p i t; no_run = λ n. refl; args = tt }

  function_within : (leb c 16 && leb (s + c) e && ltb p i && all_below c (λ j. ltb (entry_at ws (s + j)) i)) ≡ true → Within i (row 11 p (entries_of ws s c))
  function_within t =
      let u = (and-eq-true_iff (leb c 16 && leb (s + c) e && ltb p i) (all_below c (λ j. ltb (entry_at ws (s + j)) i))).0 t in
      let v = (and-eq-true_iff (leb c 16 && leb (s + c) e) (ltb p i)).0 u.0 in
      record {
        known = omega arith;
        plain = λ l. absurd (omega arith);
        part = λ l m. ltb-true p i v.1;
        no_run = λ n. absurd (n refl);
        args = below_run ws i s c (λ j l. ltb-true _ _ (below_each c (λ j. ltb (entry_at ws (s + j)) i) u.1 j l));
      }

  pub named_within : (k : ℕ) → 11 < k → k ≤ 13 → Within i (row k p [])
  unfolding AllBelow
  named_within k h m = record { known = omega arith; plain = λ l. absurd (omega arith); part = λ l m. absurd (omega arith); no_run = λ n. refl; args = tt }

  fine_within : (k : ℕ) → k ≤ last_kind → Fine k
  unfolding parts_below resolved
  fine_within k l = by_kind Fine
      (λ h. plain_within 0 (omega arith))
      (λ h. plain_within 1 (omega arith))
      (λ h. plain_within 2 (omega arith))
      (λ h. plain_within 3 (omega arith))
      (λ h. plain_within 4 (omega arith))
      (λ h. plain_within 5 (omega arith))
      (λ h. container_within 6 (omega arith) (omega arith) h)
      (λ h. container_within 7 (omega arith) (omega arith) h)
      (λ h. container_within 8 (omega arith) (omega arith) h)
      (λ h. container_within 9 (omega arith) (omega arith) h)
      (λ h. container_within 10 (omega arith) (omega arith) h)
      (λ h. function_within h)
      (λ h. named_within 12 (omega arith) (omega arith))
      (λ h. named_within 13 (omega arith) (omega arith))
      k l

pub row_within : (ws : List ℕ) (e i : ℕ) → row_fine_of ws e i ≡ true → Within i (words_at ws i)
unfolding row_fine_of
row_within ws e i h =
    let p = (and-eq-true_iff (leb (kind_at ws i) last_kind) (parts_below ws e i (row_at ws i))).0 h in
    fine_within ws e i (part_at ws i) (start_at ws i) (count_at ws i) (kind_at ws i) (leb-true _ _ p.0) p.1

-- two lists that agree below l give a row with parts below l one sort
pub look_all_agrees : (T U : List Tree) (l : ℕ) → ((x : ℕ) → x < l → look T x ≡ look U x) → (xs : List ℕ) → AllBelow l xs → look_all T xs ≡ look_all U xs
unfolding look_all AllBelow
look_all_agrees T U l h [] b = refl
look_all_agrees T U l h (x ∷ xs) b = ap₂ arg (h x b.0) (look_all_agrees T U l h xs b.1)

pub tree_of_agrees : (T U : List Tree) (l : ℕ) → ((x : ℕ) → x < l → look T x ≡ look U x) → (r : Row) → Within l r → tree_of T r ≡ tree_of U r
unfolding tree_of
tree_of_agrees T U l h r w =
    by_kind (λ k. (p : ℕ) (xs : List ℕ) → Within l (row k p xs) → tree_of T (row k p xs) ≡ tree_of U (row k p xs))
    (λ p xs w. refl)
    (λ p xs w. refl)
    (λ p xs w. refl)
    (λ p xs w. refl)
    (λ p xs w. refl)
    (λ p xs w. refl)
    (λ p xs w. ap (container ComplexSort.List) (h p (w.part (omega arith) (omega arith))))
    (λ p xs w. ap (container ComplexSort.Set) (h p (w.part (omega arith) (omega arith))))
    (λ p xs w. ap (container ComplexSort.FSet) (h p (w.part (omega arith) (omega arith))))
    (λ p xs w. ap (container ComplexSort.Bag) (h p (w.part (omega arith) (omega arith))))
    (λ p xs w. ap (container ComplexSort.FBag) (h p (w.part (omega arith) (omega arith))))
    (λ p xs w. ap₂ function (look_all_agrees T U l h xs w.args) (h p (w.part (omega arith) (omega arith))))
    (λ p xs w. refl)
    (λ p xs w. refl)
    r.kind w.known r.part r.args w

pub weaken_all : (l m : ℕ) (xs : List ℕ) → l ≤ m → AllBelow l xs → AllBelow m xs
unfolding AllBelow
weaken_all l m [] h b = tt
weaken_all l m (x ∷ xs) h b = (omega (arith, b.0), weaken_all l m xs h b.1)

pub within_longer : (l m : ℕ) (r : Row) → l ≤ m → Within l r → Within m r
within_longer l m r h w =
    record { known = w.known; plain = w.plain; part = λ a b. omega (arith, w.part a b); no_run = w.no_run; args = weaken_all l m r.args h w.args }
