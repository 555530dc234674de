-- Materializable as `is_materializable` meets it: by what the rows say of two different sorts. Parts and arguments are
-- compared by number. Assumes nothing.
use mathlib.Core.Path.{◌≡◌, refl, sym, ap, ap₂, ◌∙◌}
use mathlib.Core.Bool.{Bool, true, false, ◌&&◌, and-true, and-false, and-eq-true_iff, false≢true}
use mathlib.Core.List.{List, [], ◌∷◌}
use Prim.Native.Nat.{ℕ, zero, suc, ◌+◌, ◌<◌}
use native.Mathlib.Omega.{arith}
use lib.ListN.{length}
use lib.Dec.{eqb}
use borrow.Author.Tests.{eqb-true, eqb-false, eq-eqb, ne_eqb}
use Rattle.std.specs.Prelude.{Option, Some, None}
use Rattle.std.specs.Option.{option_eq}
use Rattle.std.specs.declared.cmp.Ordering.{Ordering}
use Rattle.std.specs.declared.cmp.Ordering.TheVariants.{Less, Equal, Greater}
use Rattle.resolved_sort.specs.declared.SortId.{SortId}
use Rattle.resolved_sort.specs.declared.Sort.{Sort}
use Rattle.resolved_sort.specs.declared.ComplexSort.{ComplexSort}
use Rattle.resolved_sort.specs.Tree.{primitive, Tree, flat, container, family, level, family_op, level_op}
use Rattle.resolved_sort.specs.Order.{le_op, le, ordering, ordering_of, materializable}
use Rattle.resolved_sort.specs.declared.Run.{Run}
use Rattle.resolved_sort.specs.declared.ResolvedSort.{ResolvedSort}
use Rattle.resolved_sort.specs.declared.ResolvedSort.TheVariants.{Function}
use Rattle.resolved_sort.specs.Storage.{row_at, entries_of}
use Rattle.resolved_sort.specs.Entries.{tree_at}
use Rattle.resolved_sort.specs.Rows.{Checked, same_words}
use Rattle.resolved_sort.proofs.Heads.{head_flips, head_antisym, op_injective}
use Rattle.resolved_sort.proofs.Order.{le_flips, le_antisym}
use Rattle.resolved_sort.proofs.Materializable.{materializable_refl}
use Rattle.resolved_sort.proofs.SameNumbers.{number_of_tree, same_by_number, sames_by_entries}
use Rattle.resolved_sort.proofs.Pairs.{Unlike, OfPrimitives, OfContainers, OfFunctions}
use Rattle.resolved_sort.proofs.RowsSay.{functions, unlike_functions}
use Rattle.resolved_sort.proofs.Unlikes.{unlike_materializable}
use Rattle.sort_order.specs.Heads.{heads_ordering}
use Rattle.sort_order.proofs.Orders.{ordering_of_primitives}

-- whether an order says Less
abbrev pub is_less : Option Ordering → Bool
is_less None = false
is_less (Some Less) = true
is_less (Some Equal) = false
is_less (Some Greater) = false

-- what a test against Less says
pub less_tested : {b : Bool} (eq : Ordering → Ordering → Bool) (o : Option Ordering) → b ≡ option_eq eq o (Some Less)
    → eq Less Less ≡ true → eq Equal Less ≡ false → eq Greater Less ≡ false → b ≡ is_less o
less_tested eq None h l e g = h
less_tested eq (Some Less) h l e g = h ∙ l
less_tested eq (Some Equal) h l e g = h ∙ e
less_tested eq (Some Greater) h l e g = h ∙ g

-- Less is "equal to or below" of two that differ.
less_of_different : (x y : Bool) → (x ≡ true → y ≡ true → ⊥) → is_less (ordering_of x y) ≡ x
less_of_different true true h = absurd (h refl refl)
less_of_different true false h = refl
less_of_different false true h = refl
less_of_different false false h = refl

less_of_trees : (s t : Tree) → (s ≡ t → ⊥) → is_less (ordering s t) ≡ le true s t
unfolding ordering
less_of_trees s t d = less_of_different (le true s t) (le false s t) (λ e f. d (le_antisym true s t e (sym (le_flips false s t) ∙ f)))

less_of_ops : (o p : ComplexSort) → (o ≡ p → ⊥) → is_less (heads_ordering family_op level_op o p) ≡ le_op true o p
unfolding heads_ordering
less_of_ops o p d =
    less_of_different (le_op true o p) (le_op false o p) (λ e f. d (head_antisym family_op level_op true op_injective o p
    e (sym (head_flips family_op level_op false o p) ∙ f)))

-- runs that have the same entries have as many
words_as_long : (xs ys : List ℕ) → same_words xs ys ≡ true → length xs ≡ length ys
unfolding same_words
words_as_long [] [] e = refl
words_as_long [] (y ∷ ys) e = absurd (false≢true e)
words_as_long (x ∷ xs) [] e = absurd (false≢true e)
words_as_long (x ∷ xs) (y ∷ ys) e = ap suc (words_as_long xs ys ((and-eq-true_iff (eqb x y) (same_words xs ys)).0 e).1)

length_entries : (ws : List ℕ) (s n : ℕ) → length (entries_of ws s n) ≡ n
unfolding entries_of
length_entries ws s zero = refl
length_entries ws s (suc n) = ap suc (length_entries ws (s + 1) n)

pub counts_same : (ws : List ℕ) {x : Bool} (l r : Run) → x ≡ same_words (entries_of ws l.start l.count) (entries_of ws r.start r.count) → x ≡ true
    → l.count ≡ r.count
counts_same ws l r e f =
    sym (length_entries ws l.start l.count) ∙ (words_as_long _ _ (sym e ∙ f) ∙ length_entries ws r.start r.count)

pub by_count : (ws : List ℕ) {x : Bool} (l r : Run) → x ≡ same_words (entries_of ws l.start l.count) (entries_of ws r.start r.count) → l.count ≡ r.count
    → x ≡ same_words (entries_of ws l.start l.count) (entries_of ws r.start l.count)
by_count ws l r e q = e ∙ ap (λ (c : ℕ). same_words (entries_of ws l.start l.count) (entries_of ws r.start c)) (sym q)

module _ (ws : List ℕ) (n : ℕ) where
  pub materializable_of_equal : (a b : ℕ) → a ≡ b → true ≡ materializable (tree_at ws n a) (tree_at ws n b)
  materializable_of_equal a b e = sym (materializable_refl (tree_at ws n a)) ∙ ap (λ (i : ℕ). materializable (tree_at ws n a) (tree_at ws n i)) e

  pub materializable_of_unlike : (a b : ℕ) → Unlike (tree_at ws n a) (tree_at ws n b) → false ≡ materializable (tree_at ws n a) (tree_at ws n b)
  materializable_of_unlike a b h = sym (unlike_materializable h)

  module _ {e a b : ℕ} (k : Checked ws n e) (ha : a < n) (hb : b < n) (d : a ≡ b → ⊥) where
    differ : {s t : Tree} → tree_at ws n a ≡ s → tree_at ws n b ≡ t → s ≡ t → ⊥
    differ p q r = d (number_of_tree k ha hb (p ∙ (r ∙ sym q)))

    pub materializable_of_primitive : {l r : Sort} {x : Option Ordering} {y : Bool} → OfPrimitives ws n e a b l r
        → x ≡ heads_ordering (λ s. family (primitive s)) (λ s. level (primitive s)) l r → y ≡ is_less x
        → y ≡ materializable (tree_at ws n a) (tree_at ws n b)
    unfolding le materializable
    materializable_of_primitive {l} {r} h f g =
        g ∙ (ap is_less (f ∙ ordering_of_primitives l r)
        ∙ (less_of_trees (flat (primitive l)) (flat (primitive r)) (differ h.lhs h.rhs) ∙ sym (ap₂ materializable h.lhs h.rhs)))

    module _ {o p : ComplexSort} {s t : SortId} (h : OfContainers ws n e a b o s p t) where
      by_parts : materializable (tree_at ws n a) (tree_at ws n b) ≡ (le_op true o p && eqb s.0 t.0)
      unfolding materializable
      by_parts =
          ap₂ materializable h.lhs h.rhs
          ∙ ap (◌&&◌ (le_op true o p)) (same_by_number k (omega (arith, h.lhs_below)) (omega (arith, h.rhs_below)))

      pub materializable_of_containers : {x : Option Ordering} {y : Bool} → s.0 ≡ t.0 → x ≡ heads_ordering family_op level_op o p → y ≡ is_less x
          → y ≡ materializable (tree_at ws n a) (tree_at ws n b)
      materializable_of_containers q f g =
          g
          ∙ (ap is_less f
          ∙ (less_of_ops o p (λ r. differ h.lhs h.rhs (ap₂ container r (ap (tree_at ws n) q)))
          ∙ sym (by_parts ∙ (ap (◌&&◌ (le_op true o p)) (eq-eqb _ _ q) ∙ and-true (le_op true o p)))))

      pub not_materializable_containers : (s.0 ≡ t.0 → ⊥) → false ≡ materializable (tree_at ws n a) (tree_at ws n b)
      not_materializable_containers q = sym (by_parts ∙ (ap (◌&&◌ (le_op true o p)) (ne_eqb _ _ q) ∙ and-false (le_op true o p)))

    module _ {c ls rs : ℕ} {lr rr : SortId} (h : OfFunctions ws n e a b c ls lr rs rr) {x : Bool} (f : x ≡ same_words
        (entries_of ws ls c) (entries_of ws rs c)) where
      by_entries : materializable (tree_at ws n a) (tree_at ws n b) ≡ (x && materializable (tree_at ws n lr.0) (tree_at ws n rr.0))
      unfolding materializable
      by_entries =
          ap₂ materializable h.lhs h.rhs
          ∙ ap (λ (z : Bool). z && materializable (tree_at ws n lr.0) (tree_at ws n rr.0))
          (sames_by_entries k (omega arith) (omega arith) (entries_of ws ls c) (entries_of ws rs c) h.lhs_args h.rhs_args ∙ sym f)

      pub materializable_of_functions : {y : Bool} → x ≡ true → y ≡ materializable (tree_at ws n lr.0)
          (tree_at ws n rr.0) → y ≡ materializable (tree_at ws n a) (tree_at ws n b)
      materializable_of_functions q g = g ∙ sym (by_entries ∙ ap (λ (z : Bool). z && materializable (tree_at ws n lr.0) (tree_at ws n rr.0)) q)

      pub not_materializable_functions : x ≡ false → false ≡ materializable (tree_at ws n a) (tree_at ws n b)
      not_materializable_functions q = sym (by_entries ∙ ap (λ (z : Bool). z && materializable (tree_at ws n lr.0) (tree_at ws n rr.0)) q)

    pub not_same_arguments : {l r : ResolvedSort} → l ≡ row_at ws a → r ≡ row_at ws b → {c c' : Run} {u v : SortId} → l ≡ Function c u → r ≡ Function c' v
        → {x : Bool} → x ≡ same_words (entries_of ws c.start c.count) (entries_of ws c'.start c'.count) → x ≡ false
        → false ≡ materializable (tree_at ws n a) (tree_at ws n b)
    not_same_arguments el er {c} {c'} f g {x} i j = go (eqb c.count c'.count) refl
      where
        go : (t : Bool) → eqb c.count c'.count ≡ t → false ≡ materializable (tree_at ws n a) (tree_at ws n b)
        go true q =
            let z = eqb-true c.count c'.count q in
            not_materializable_functions (functions k ha hb d el er f g z) (by_count ws c c' i z) j
        go false q = materializable_of_unlike a b (unlike_functions k ha hb d el er f g (eqb-false c.count c'.count q))
