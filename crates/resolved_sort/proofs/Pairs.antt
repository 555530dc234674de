-- What two rows side by side say of their sorts, in a checked list: by the pair that the code takes apart. Where the
-- pair is none of the three, the two sorts have nothing in common. Assumes nothing.
use mathlib.Core.Path.{◌≡◌, refl, sym, ◌∙◌, ap, subst}
use mathlib.Core.Bool.{Bool, true, false, cond}
use mathlib.Core.List.{List, [], ◌∷◌}
use Prim.Native.Nat.{ℕ, zero, suc, ◌+◌, ◌<◌, ◌≤◌}
use native.Mathlib.Omega.{arith}
use lib.ListN.{length}
use lib.Dec.{eqb}
use borrow.Author.Tests.{eqb-true, eqb-false}
use Rattle.resolved_sort.specs.declared.SortId.{SortId}
use Rattle.resolved_sort.specs.declared.Sort.{Sort}
use Rattle.resolved_sort.specs.declared.ComplexSort.{ComplexSort}
use Rattle.resolved_sort.specs.declared.Run.{Run}
use Rattle.resolved_sort.specs.declared.ResolvedSort.{ResolvedSort}
use Rattle.resolved_sort.specs.declared.ResolvedSort.TheVariants.{Unit as UnitRow, Primitive, Container, Function, Def, TypeVar}
use Rattle.resolved_sort.specs.Inner.Pairs.{Pair}
use Rattle.resolved_sort.specs.Inner.Pairs.{Primitives, Containers, Functions, Other}
use Rattle.resolved_sort.specs.Tree.{Flat, unit, primitive, def, typevar, Tree, flat, container, function, Trees, arity, family}
use Rattle.resolved_sort.specs.Interning.{look}
use Rattle.resolved_sort.specs.Storage.{last_kind, function_kind, kind_at, part_at, start_at, count_at, entries_of, resolved, row_at, look_all, tree_of, trees}
use Rattle.resolved_sort.specs.Checks.{row_fine_of, rows_fine}
use Rattle.resolved_sort.specs.Rows.{Checked}
use Rattle.resolved_sort.specs.Inner.Pairs.{with_primitive, with_container, with_function, pair_of, pair_at}
use Rattle.resolved_sort.proofs.Below.{below_each}
use Rattle.resolved_sort.proofs.Numbers.{look_injective}
use Rattle.resolved_sort.proofs.Trees.{length_trees}
use Rattle.resolved_sort.proofs.RowTrees.{AllBelow, Within, read, by_kind}
use Rattle.resolved_sort.proofs.Fine.{run_inside}
use Rattle.resolved_sort.proofs.Interned.{listed, trees_differ, row_below, look_tree}

-- the sort that a row says, with the sorts of the list given
unfoldable pub sort_of : List ℕ → List Tree → ResolvedSort → Tree
sort_of ws T UnitRow = flat unit
sort_of ws T (Primitive s) = flat (primitive s)
sort_of ws T (Container op subsort) = container op (look T subsort.0)
sort_of ws T (Function domain range) = function (look_all T (entries_of ws domain.start domain.count)) (look T range.0)
sort_of ws T (Def n) = flat (def n)
sort_of ws T (TypeVar n) = flat (typevar n)

module _ (ws : List ℕ) (T : List Tree) (e i p s c : ℕ) where
  said : (k : ℕ) → k ≤ last_kind → tree_of T (read ws e i p s c k) ≡ sort_of ws T (resolved k p (record { start = s; count = c }))
  unfolding tree_of sort_of resolved
  said k l = by_kind (λ k. tree_of T (read ws e i p s c k) ≡ sort_of ws T (resolved k p (record { start = s; count = c })))
      refl
      refl
      refl
      refl
      refl
      refl
      refl
      refl
      refl
      refl
      refl
      refl
      refl
      refl
      k l

-- What a row says has its parts below its own number; a function's run is short and inside the entries.
unfoldable pub Below : List ℕ → ℕ → ℕ → ResolvedSort → Type 0
Below ws e i UnitRow = Unit {0}
Below ws e i (Primitive s) = Unit {0}
Below ws e i (Container op subsort) = subsort.0 < i
Below ws e i (Function domain range) =
    (range.0 < i) × (domain.count ≤ 16) × (domain.start + domain.count ≤ e) × AllBelow i (entries_of ws domain.start domain.count)
Below ws e i (Def n) = Unit {0}
Below ws e i (TypeVar n) = Unit {0}

module _ (ws : List ℕ) (e i p s c : ℕ) where
  parts_below : (k : ℕ) → k ≤ last_kind → Within i (read ws e i p s c k) → (k ≡ function_kind → (c ≤ 16) × (s + c ≤ e))
      → Below ws e i (resolved k p (record { start = s; count = c }))
  unfolding Below resolved
  parts_below k l =
      by_kind (λ k. Within i (read ws e i p s c k) → (k ≡ function_kind → (c ≤ 16) × (s + c ≤ e))
      → Below ws e i (resolved k p (record { start = s; count = c })))
      (λ w f. tt)
      (λ w f. tt)
      (λ w f. tt)
      (λ w f. tt)
      (λ w f. tt)
      (λ w f. tt)
      (λ w f. w.part (omega arith) (omega arith))
      (λ w f. w.part (omega arith) (omega arith))
      (λ w f. w.part (omega arith) (omega arith))
      (λ w f. w.part (omega arith) (omega arith))
      (λ w f. w.part (omega arith) (omega arith))
      (λ w f. (w.part (omega arith) (omega arith), (f refl).0, (f refl).1, w.args))
      (λ w f. tt)
      (λ w f. tt)
      k l

module _ (ws : List ℕ) (n e : ℕ) (k : Checked ws n e) where
  -- the sort of a number is what its row says
  pub look_says : (i : ℕ) → i < n → look (trees ws n) i ≡ sort_of ws (trees ws n) (row_at ws i)
  look_says i h =
      look_tree ws n e (listed k) i h
      ∙ said ws (trees ws n) e i (part_at ws i) (start_at ws i) (count_at ws i) (kind_at ws i) (row_below ws n e (listed k) i h).known

  pub row_parts : (i : ℕ) → i < n → Below ws e i (row_at ws i)
  unfolding rows_fine
  row_parts i h =
      parts_below ws e i (part_at ws i) (start_at ws i) (count_at ws i) (kind_at ws i) (row_below ws n e (listed k) i h).known (row_below ws n e (listed k) i h)
      (λ f. let r = run_inside ws e i (below_each n (row_fine_of ws e) k.fine i h) f in (r.short, r.inside))

-- Two sorts that no order relates and that have no bound: heads of different families, or different numbers of arguments.
pub data Unlike : Tree → Tree → Type 0 where
  flats : {a b : Flat} → (family a ≡ family b → ⊥) → Unlike (flat a) (flat b)
  flat_container : {a : Flat} {p : ComplexSort} {t : Tree} → Unlike (flat a) (container p t)
  flat_function : {a : Flat} {ts : Trees} {u : Tree} → Unlike (flat a) (function ts u)
  container_flat : {o : ComplexSort} {s : Tree} {b : Flat} → Unlike (container o s) (flat b)
  container_function : {o : ComplexSort} {s : Tree} {ts : Trees} {u : Tree} → Unlike (container o s) (function ts u)
  function_flat : {ss : Trees} {r : Tree} {b : Flat} → Unlike (function ss r) (flat b)
  function_container : {ss : Trees} {r : Tree} {p : ComplexSort} {t : Tree} → Unlike (function ss r) (container p t)
  functions : {ss ts : Trees} {r u : Tree} → (arity ss ≡ arity ts → ⊥) → Unlike (function ss r) (function ts u)

primitive_family : (s : Sort) → (0 < family (primitive s)) × (family (primitive s) < 3)
unfolding family
primitive_family Sort.Bool = (omega arith, omega arith)
primitive_family Sort.Pos = (omega arith, omega arith)
primitive_family Sort.Nat = (omega arith, omega arith)
primitive_family Sort.Int = (omega arith, omega arith)
primitive_family Sort.Real = (omega arith, omega arith)

length_entries : (ws : List ℕ) (s c : ℕ) → length (entries_of ws s c) ≡ c
unfolding entries_of
length_entries ws s zero = refl
length_entries ws s (suc c) = ap suc (length_entries ws (s + 1) c)

pub arity_look_all : (T : List Tree) (xs : List ℕ) → arity (look_all T xs) ≡ length xs
unfolding arity look_all
arity_look_all T [] = refl
arity_look_all T (x ∷ xs) = omega (arith, arity_look_all T xs)

pub arity_run : (ws : List ℕ) (T : List Tree) (s c : ℕ) → arity (look_all T (entries_of ws s c)) ≡ c
arity_run ws T s c = arity_look_all T (entries_of ws s c) ∙ length_entries ws s c

-- what a pair says of the two rows that it came from
unfoldable pub Says : ResolvedSort → ResolvedSort → Pair → Type 0
Says R Q (Primitives l r) = (R ≡ Primitive l) × (Q ≡ Primitive r)
Says R Q (Containers o s p t) = (R ≡ Container o s) × (Q ≡ Container p t)
Says R Q (Functions c ls lr rs rr) = (R ≡ Function (record { start = ls; count = c }) lr) × (Q ≡ Function (record { start = rs; count = c }) rr)
Says R Q Other = (ws : List ℕ) (T : List Tree) → (sort_of ws T R ≡ sort_of ws T Q → ⊥) → Unlike (sort_of ws T R) (sort_of ws T Q)

functions_say : (d c : Run) (r u : SortId) (b : Bool) → eqb d.count c.count ≡ b
    → Says (Function d r) (Function c u) (cond b (Functions d.count d.start r c.start u) Other)
unfolding Says sort_of
functions_say d c r u true q = (refl, ap (λ (k : ℕ). Function (record { start = c.start; count = k }) u) (sym (eqb-true _ _ q)))
functions_say d c r u false q =
    λ ws T n. functions (λ e. eqb-false _ _ q (sym (arity_run ws T d.start d.count) ∙ (e ∙ arity_run ws T c.start c.count)))

pub pair_says : (R Q : ResolvedSort) → Says R Q (pair_of R Q)
unfolding pair_of with_primitive with_container with_function Says sort_of family
pair_says UnitRow UnitRow = λ ws T x. absurd (x refl)
pair_says UnitRow (Primitive m) = λ ws T x. flats {a = unit} {b = primitive m} (λ e. omega (arith, primitive_family m))
pair_says UnitRow (Container p t) = λ ws T x. flat_container
pair_says UnitRow (Function c u) = λ ws T x. flat_function
pair_says UnitRow (Def k) = λ ws T x. flats {a = unit} {b = def k} (λ e. omega arith)
pair_says UnitRow (TypeVar k) = λ ws T x. flats {a = unit} {b = typevar k} (λ e. omega arith)
pair_says (Primitive l) UnitRow = λ ws T x. flats {a = primitive l} {b = unit} (λ e. omega (arith, primitive_family l))
pair_says (Primitive l) (Primitive m) = (refl, refl)
pair_says (Primitive l) (Container p t) = λ ws T x. flat_container
pair_says (Primitive l) (Function c u) = λ ws T x. flat_function
pair_says (Primitive l) (Def k) = λ ws T x. flats {a = primitive l} {b = def k} (λ e. omega (arith, primitive_family l))
pair_says (Primitive l) (TypeVar k) = λ ws T x. flats {a = primitive l} {b = typevar k} (λ e. omega (arith, primitive_family l))
pair_says (Container o s) UnitRow = λ ws T x. container_flat
pair_says (Container o s) (Primitive m) = λ ws T x. container_flat
pair_says (Container o s) (Container p t) = (refl, refl)
pair_says (Container o s) (Function c u) = λ ws T x. container_function
pair_says (Container o s) (Def k) = λ ws T x. container_flat
pair_says (Container o s) (TypeVar k) = λ ws T x. container_flat
pair_says (Function d r) UnitRow = λ ws T x. function_flat
pair_says (Function d r) (Primitive m) = λ ws T x. function_flat
pair_says (Function d r) (Container p t) = λ ws T x. function_container
pair_says (Function d r) (Function c u) = functions_say d c r u (eqb d.count c.count) refl
pair_says (Function d r) (Def k) = λ ws T x. function_flat
pair_says (Function d r) (TypeVar k) = λ ws T x. function_flat
pair_says (Def n) UnitRow = λ ws T x. flats {a = def n} {b = unit} (λ e. omega arith)
pair_says (Def n) (Primitive m) = λ ws T x. flats {a = def n} {b = primitive m} (λ e. omega (arith, primitive_family m))
pair_says (Def n) (Container p t) = λ ws T x. flat_container
pair_says (Def n) (Function c u) = λ ws T x. flat_function
pair_says (Def n) (Def k) = λ ws T x. flats {a = def n} {b = def k} (λ e. x (ap (λ (j : ℕ). flat (def j)) (omega arith)))
pair_says (Def n) (TypeVar k) = λ ws T x. flats {a = def n} {b = typevar k} (λ e. omega arith)
pair_says (TypeVar n) UnitRow = λ ws T x. flats {a = typevar n} {b = unit} (λ e. omega arith)
pair_says (TypeVar n) (Primitive m) = λ ws T x. flats {a = typevar n} {b = primitive m} (λ e. omega (arith, primitive_family m))
pair_says (TypeVar n) (Container p t) = λ ws T x. flat_container
pair_says (TypeVar n) (Function c u) = λ ws T x. flat_function
pair_says (TypeVar n) (Def k) = λ ws T x. flats {a = typevar n} {b = def k} (λ e. omega arith)
pair_says (TypeVar n) (TypeVar k) = λ ws T x. flats {a = typevar n} {b = typevar k} (λ e. x (ap (λ (j : ℕ). flat (typevar j)) (omega arith)))

-- the same of the sorts of two different numbers
module _ (ws : List ℕ) (n e a b : ℕ) where
  pub record OfPrimitives (l r : Sort) : Type 0 where
    pub lhs : look (trees ws n) a ≡ flat (primitive l)
    pub rhs : look (trees ws n) b ≡ flat (primitive r)

  pub record OfContainers (o : ComplexSort) (s : SortId) (p : ComplexSort) (t : SortId) : Type 0 where
    pub lhs : look (trees ws n) a ≡ container o (look (trees ws n) s.0)
    pub rhs : look (trees ws n) b ≡ container p (look (trees ws n) t.0)
    pub lhs_below : s.0 < a
    pub rhs_below : t.0 < b

  pub record OfFunctions (c ls : ℕ) (lr : SortId) (rs : ℕ) (rr : SortId) : Type 0 where
    pub lhs : look (trees ws n) a ≡ function (look_all (trees ws n) (entries_of ws ls c)) (look (trees ws n) lr.0)
    pub rhs : look (trees ws n) b ≡ function (look_all (trees ws n) (entries_of ws rs c)) (look (trees ws n) rr.0)
    pub lhs_below : lr.0 < a
    pub rhs_below : rr.0 < b
    pub short : c ≤ 16
    pub lhs_run : ls + c ≤ e
    pub rhs_run : rs + c ≤ e
    pub lhs_args : AllBelow a (entries_of ws ls c)
    pub rhs_args : AllBelow b (entries_of ws rs c)

  unfoldable pub SortsSay : Pair → Type 0
  SortsSay (Primitives l r) = OfPrimitives l r
  SortsSay (Containers o s p t) = OfContainers o s p t
  SortsSay (Functions c ls lr rs rr) = OfFunctions c ls lr rs rr
  SortsSay Other = Unlike (look (trees ws n) a) (look (trees ws n) b)

  module _ (k : Checked ws n e) (ha : a < n) (hb : b < n) (d : a ≡ b → ⊥) where
    differ : look (trees ws n) a ≡ look (trees ws n) b → ⊥
    differ q = d (look_injective (trees ws n) a b (trees_differ ws n e (listed k)) (omega (arith, length_trees ws n)) (omega (arith, length_trees ws n)) q)

    from_rows : (x : Pair) → Says (row_at ws a) (row_at ws b) x → SortsSay x
    unfolding Says SortsSay sort_of Below
    from_rows (Primitives l r) s =
        record { lhs = look_says ws n e k a ha ∙ ap (sort_of ws (trees ws n)) s.0; rhs = look_says ws n e k b hb ∙ ap (sort_of ws (trees ws n)) s.1 }
    from_rows (Containers o l p r) s =
        record {
          lhs = look_says ws n e k a ha ∙ ap (sort_of ws (trees ws n)) s.0;
          rhs = look_says ws n e k b hb ∙ ap (sort_of ws (trees ws n)) s.1;
          lhs_below = subst (Below ws e a) s.0 (row_parts ws n e k a ha);
          rhs_below = subst (Below ws e b) s.1 (row_parts ws n e k b hb);
        }
    from_rows (Functions c ls lr rs rr) s =
        let l = subst (Below ws e a) s.0 (row_parts ws n e k a ha) in
        let r = subst (Below ws e b) s.1 (row_parts ws n e k b hb) in
        record {
          lhs = look_says ws n e k a ha ∙ ap (sort_of ws (trees ws n)) s.0;
          rhs = look_says ws n e k b hb ∙ ap (sort_of ws (trees ws n)) s.1;
          lhs_below = l.0;
          rhs_below = r.0;
          short = l.1;
          lhs_run = l.2;
          rhs_run = r.2;
          lhs_args = l.3;
          rhs_args = r.3;
        }
    from_rows Other s =
        subst (λ t. Unlike t (look (trees ws n) b)) (sym (look_says ws n e k a ha))
        (subst (Unlike (sort_of ws (trees ws n) (row_at ws a))) (sym (look_says ws n e k b hb))
        (s ws (trees ws n) (λ q. differ (look_says ws n e k a ha ∙ (q ∙ sym (look_says ws n e k b hb))))))

    pub pair_of_sorts : SortsSay (pair_at ws a b)
    pair_of_sorts = from_rows (pair_at ws a b) (pair_says (row_at ws a) (row_at ws b))
