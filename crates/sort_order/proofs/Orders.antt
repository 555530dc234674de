-- Orders of independent positions taken together, and the order as `partial_cmp` meets it: by what the rows say of the two
-- sorts, and argument by argument. Assumes nothing.
use mathlib.Core.Path.{◌≡◌, refl, sym, ap, ap₂, ◌∙◌}
use mathlib.Core.Bool.{Bool, true, false, ◌&&◌, and_assoc}
use mathlib.Core.List.{List}
use Prim.Native.Nat.{ℕ, ◌+◌, ◌-◌, ◌<◌, ◌≤◌}
use native.Mathlib.Omega.{arith}
use Rattle.std.specs.Prelude.{Option, Some, None}
use Rattle.std.specs.declared.cmp.Ordering.{Ordering}
use Rattle.std.specs.declared.cmp.Ordering.TheVariants.{Less, Equal, Greater}
use Rattle.resolved_sort.specs.declared.SortId.{SortId}
use Rattle.resolved_sort.specs.declared.Sort.{Sort}
use Rattle.resolved_sort.specs.declared.ComplexSort.{ComplexSort}
use Rattle.resolved_sort.specs.Tree.{primitive, Tree, flat, container, function, Trees, no_args, arg, family, level, family_op, level_op}
use Rattle.resolved_sort.specs.Order.{le, les, ordering, ordering_of}
use Rattle.resolved_sort.specs.Storage.{entry_at, entries_of, look_all}
use Rattle.resolved_sort.specs.Inner.Storage.{args_at}
use Rattle.resolved_sort.specs.Entries.{tree_at}
use Rattle.resolved_sort.proofs.Order.{le_refl, le_flips}
use Rattle.resolved_sort.proofs.Pairs.{Unlike, OfPrimitives, OfContainers, OfFunctions}
use Rattle.resolved_sort.proofs.Said.{first_entry}
use Rattle.resolved_sort.proofs.Unlikes.{unlike_ordering}
use Rattle.sort_order.specs.Heads.{heads_ordering}
use Rattle.sort_order.specs.Inner.Answers.{at_most, at_least, combined}

most_of : (a b : Bool) → at_most (ordering_of a b) ≡ a
most_of true true = refl
most_of true false = refl
most_of false true = refl
most_of false false = refl

least_of : (a b : Bool) → at_least (ordering_of a b) ≡ b
least_of true true = refl
least_of true false = refl
least_of false true = refl
least_of false false = refl

combined_orders : (a b c d : Bool) → combined (ordering_of a b) (ordering_of c d) ≡ ordering_of (a && c) (b && d)
unfolding combined
combined_orders a b c d = rw (most_of a b, most_of c d, least_of a b, least_of c d)

combined_equal : (o : Option Ordering) → combined (Some Equal) o ≡ o
unfolding combined
combined_equal None = refl
combined_equal (Some Equal) = refl
combined_equal (Some Less) = refl
combined_equal (Some Greater) = refl

combined_with_equal : (o : Option Ordering) → combined o (Some Equal) ≡ o
unfolding combined
combined_with_equal None = refl
combined_with_equal (Some Equal) = refl
combined_with_equal (Some Less) = refl
combined_with_equal (Some Greater) = refl

combined_assoc : (x y z : Option Ordering) → combined (combined x y) z ≡ combined x (combined y z)
unfolding combined
combined_assoc x y z = rw (
  most_of (at_most x && at_most y) (at_least x && at_least y),
  least_of (at_most x && at_most y) (at_least x && at_least y),
  most_of (at_most y && at_most z) (at_least y && at_least z),
  least_of (at_most y && at_most z) (at_least y && at_least z),
  and_assoc (at_most x) (at_most y) (at_most z),
  and_assoc (at_least x) (at_least y) (at_least z),
)

-- the order of functions by their arguments, which go the other way
unfoldable pub args_ordering : Trees → Trees → Option Ordering
args_ordering ss ts = ordering_of (les false ss ts) (les true ss ts)

ordering_self : (t : Tree) → Some Equal ≡ ordering t t
unfolding ordering
ordering_self t = rw (le_refl true t, le_refl false t)

ordering_flips : (s t : Tree) → ordering t s ≡ ordering_of (le false s t) (le true s t)
unfolding ordering
ordering_flips s t = ap₂ ordering_of (le_flips true t s) (le_flips false t s)

pub ordering_of_primitives : (l r : Sort) → heads_ordering (λ s. family (primitive s)) (λ s. level (primitive s)) l r ≡ ordering (flat (primitive l)) (flat (primitive r))
unfolding heads_ordering ordering le
ordering_of_primitives l r = refl

ordering_of_parts : (o p : ComplexSort) (s t : Tree) → combined (heads_ordering family_op level_op o p) (ordering s t) ≡ ordering (container o s) (container p t)
unfolding heads_ordering ordering le
ordering_of_parts o p s t = combined_orders _ _ (le true s t) (le false s t)

ordering_of_args : (ss ts : Trees) (r u : Tree) → combined (args_ordering ss ts) (ordering r u) ≡ ordering (function ss r) (function ts u)
unfolding ordering le args_ordering
ordering_of_args ss ts r u = combined_orders (les false ss ts) (les true ss ts) (le true r u) (le false r u)

args_by_first : (s t : Tree) (ss ts : Trees) → combined (ordering t s) (args_ordering ss ts) ≡ args_ordering (arg s ss) (arg t ts)
unfolding le args_ordering
args_by_first s t ss ts = rw (ordering_flips s t) (combined_orders (le false s t) (le true s t) (les false ss ts) (les true ss ts))

-- the arguments from the k-th on
abbrev pub args_from : List ℕ → ℕ → ℕ → ℕ → ℕ → Trees
args_from ws n s c k = args_at ws n (s + k) (c - k)

pub args_from_start : (ws : List ℕ) (n s c : ℕ) → args_from ws n s c 0 ≡ args_at ws n s c
args_from_start ws n s c =
    let a : s + 0 ≡ s = omega arith in
    let b : c - 0 ≡ c = omega arith in
    λ i. args_at ws n (a i) (b i)

pub args_from_end : (ws : List ℕ) (n s c k : ℕ) → c ≤ k → args_from ws n s c k ≡ no_args
unfolding look_all entries_of
args_from_end ws n s c k h = let z : c - k ≡ 0 = omega arith in rw z

pub args_from_next : (ws : List ℕ) (n s c k : ℕ) → k < c
    → args_from ws n s c k ≡ arg (tree_at ws n (entry_at ws (s + k))) (args_from ws n s c (k + 1))
unfolding look_all
args_from_next ws n s c k h =
    let a : s + k + 1 ≡ s + (k + 1) = omega arith in
    let b : c - k - 1 ≡ c - (k + 1) = omega arith in
    rw (first_entry ws (s + k) (c - k) (λ q. omega arith), a, b)

module _ (ws : List ℕ) (n : ℕ) where
  -- what the arguments that are left come to, with what came before them
  abbrev pub LeftOf : (s t c k : ℕ) (o : Option Ordering) → Type 0
  LeftOf s t c k o = combined o (args_ordering (args_from ws n s c k) (args_from ws n t c k)) ≡ args_ordering (args_at ws n s c) (args_at ws n t c)

  pub left_at_start : (s t c : ℕ) → LeftOf s t c 0 (Some Equal)
  left_at_start s t c = combined_equal _ ∙ ap₂ args_ordering (args_from_start ws n s c) (args_from_start ws n t c)

  pub left_next : (s t c k : ℕ) (o : Option Ordering) → LeftOf s t c k o → k < c → {l r : ℕ} → l ≡ entry_at ws (s + k) → r ≡ entry_at ws (t + k)
      → {x z : Option Ordering} → x ≡ ordering (tree_at ws n r) (tree_at ws n l) → z ≡ combined o x → LeftOf s t c (k + 1) z
  left_next s t c k o inv h {l} {r} p q {x} f g =
      ap (λ y. combined y (args_ordering (args_from ws n s c (k + 1)) (args_from ws n t c (k + 1)))) g
      ∙ (combined_assoc o x _
      ∙ (ap (combined o) (ap (λ y. combined y (args_ordering (args_from ws n s c (k + 1)) (args_from ws n t c (k + 1))))
      (f ∙ ap₂ (λ (i j : ℕ). ordering (tree_at ws n i) (tree_at ws n j)) q p)
      ∙ (args_by_first (tree_at ws n (entry_at ws (s + k))) (tree_at ws n (entry_at ws (t + k))) _ _
      ∙ sym (ap₂ args_ordering (args_from_next ws n s c k h) (args_from_next ws n t c k h))))
      ∙ inv))

  left_at_end : (s t c k : ℕ) (o : Option Ordering) → LeftOf s t c k o → c ≤ k → o ≡ args_ordering (args_at ws n s c) (args_at ws n t c)
  unfolding args_ordering le
  left_at_end s t c k o inv h =
      sym (combined_with_equal o)
      ∙ (ap (combined o) (sym (ap₂ args_ordering (args_from_end ws n s c k h) (args_from_end ws n t c k h))) ∙ inv)

  pub ordering_of_equal : (a b : ℕ) → a ≡ b → Some Equal ≡ ordering (tree_at ws n a) (tree_at ws n b)
  ordering_of_equal a b e = ordering_self (tree_at ws n a) ∙ ap (λ (i : ℕ). ordering (tree_at ws n a) (tree_at ws n i)) e

  pub ordering_of_primitive : {e a b : ℕ} {l r : Sort} {o : Option Ordering} → OfPrimitives ws n e a b l r
      → o ≡ heads_ordering (λ s. family (primitive s)) (λ s. level (primitive s)) l r
      → o ≡ ordering (tree_at ws n a) (tree_at ws n b)
  ordering_of_primitive {l = l} {r = r} h g = g ∙ (ordering_of_primitives l r ∙ sym (ap₂ ordering h.lhs h.rhs))

  pub ordering_of_containers : {e a b : ℕ} {o p : ComplexSort} {s t : SortId} {x y z : Option Ordering} → OfContainers ws n e a b o s p t
      → x ≡ heads_ordering family_op level_op o p → y ≡ ordering (tree_at ws n s.0) (tree_at ws n t.0)
      → z ≡ combined x y → z ≡ ordering (tree_at ws n a) (tree_at ws n b)
  ordering_of_containers {o = o} {p = p} {s = s} {t = t} h f g i =
      i ∙ (ap₂ combined f g ∙ (ordering_of_parts o p (tree_at ws n s.0) (tree_at ws n t.0) ∙ sym (ap₂ ordering h.lhs h.rhs)))

  pub ordering_of_functions : {e a b c ls rs : ℕ} {lr rr : SortId} (x : Option Ordering) {y z : Option Ordering} → OfFunctions ws n e a b c ls lr rs rr
      → {k : ℕ} → LeftOf ls rs c k x → c ≤ k → y ≡ ordering (tree_at ws n lr.0) (tree_at ws n rr.0)
      → z ≡ combined x y → z ≡ ordering (tree_at ws n a) (tree_at ws n b)
  ordering_of_functions {c = c} {ls = ls} {rs = rs} {lr = lr} {rr = rr} x h {k} inv l g i =
      i
      ∙ (ap₂ combined (left_at_end ls rs c k x inv l) g
      ∙ (ordering_of_args (args_at ws n ls c) (args_at ws n rs c) (tree_at ws n lr.0) (tree_at ws n rr.0) ∙ sym (ap₂ ordering h.lhs h.rhs)))

  pub ordering_of_unlike : (a b : ℕ) → Unlike (tree_at ws n a) (tree_at ws n b) → None ≡ ordering (tree_at ws n a) (tree_at ws n b)
  ordering_of_unlike a b h = sym (unlike_ordering h)
