-- Join and meet as the code meets them: each law's premises are what a callee ensures, what a test says or what a match
-- binds, and its conclusion is the call's own equation. Assumes nothing.
use mathlib.Core.Path.{◌≡◌, refl, sym, ◌∙◌, ap, ap₂, subst}
use mathlib.Core.Bool.{Bool, true, false, cond, not, and-eq-true_iff}
use mathlib.Core.List.{List, [], ◌∷◌}
use mathlib.Core.Option.{none, some}
use Prim.Native.Nat.{ℕ, ◌-◌, ◌<◌}
use native.Mathlib.Omega.{arith}
use lib.Dec.{eqb}
use borrow.Author.Tests.{eq-eqb, ne_eqb}
use Rattle.resolved_sort.specs.declared.SortId.{SortId}
use Rattle.resolved_sort.specs.declared.Sort.{Sort}
use Rattle.resolved_sort.specs.declared.ComplexSort.{ComplexSort}
use Rattle.resolved_sort.specs.declared.Counts.{Counts}
use Rattle.resolved_sort.specs.Entries.{Joined}
use Rattle.resolved_sort.specs.Entries.{At, Nothing, Full}
use Rattle.resolved_sort.specs.Tree.{Flat, primitive, Tree, flat, container, function, Trees, arity, family, level, same}
use Rattle.resolved_sort.specs.Order.{le_level, bound_flat, bound_op}
use Rattle.resolved_sort.specs.Interning.{Sorts, look, number, member, need, Outcome, made, nothing, ◌then◌, where_some, intern, make, makes}
use Rattle.resolved_sort.specs.Storage.{max_entries, kind_op, function_kind, trees, row_of, look_all, sorts_of}
use Rattle.resolved_sort.specs.Entries.{counts_of, stored}
use Rattle.resolved_sort.specs.Rows.{Checked, stored_at, intern_row}
use Rattle.resolved_sort.specs.Bounds.{bound_at, intern_at}
use Rattle.resolved_sort.specs.Inner.Bounds.{container_at}
use Rattle.resolved_sort.proofs.Same.{same_exactly}
use Rattle.resolved_sort.proofs.Numbers.{true_not_false, same_refl, number_look, member_look, look_injective}
use Rattle.resolved_sort.proofs.Trees.{length_trees}
use Rattle.resolved_sort.proofs.RowTrees.{AllBelow, numbers_look_all}
use Rattle.resolved_sort.specs.Growing.{parts_in, members, SortsKept, InTree}
use Rattle.resolved_sort.proofs.Interned.{listed, trees_differ}
use Rattle.resolved_sort.proofs.Pairs.{Unlike, flats, functions, OfPrimitives, OfContainers}
use Rattle.resolved_sort.proofs.Grown.{grown_none, after_none}
use Rattle.resolved_sort.proofs.Kept.{make_kept}
use Rattle.resolved_sort.proofs.Stored.{intern_row_interns, look_whole}
use Rattle.resolved_sort.proofs.Reached.{Reached, reached, stopped, ended, reached_checked, reached_below, reached_sort, intern_after}

-- the clauses of `make`, by what is known of the two sorts
flat_itself : (up : Bool) (a : Flat) → bound_flat up a a ≡ some a
unfolding bound_flat
flat_itself up a = rw (eq-eqb (family a) (family a) refl) (ap some (either (le_level up (level a) (level a)) a))
  where
    either : (b : Bool) (a : Flat) → cond b a a ≡ a
    either true a = refl
    either false a = refl

when_true : {A : Type 0} (b : Bool) (x y : A) → b ≡ true → elim b [ true ↦ x | false ↦ y ] ≡ x
when_true true x y e = refl
when_true false x y e = absurd (true_not_false false e refl)

when_false : {A : Type 0} (b : Bool) (x y : A) → b ≡ false → elim b [ true ↦ x | false ↦ y ] ≡ y
when_false true x y e = absurd (true_not_false true refl e)
when_false false x y e = refl

pub make_itself : (up : Bool) (t : Tree) (S : Sorts) → make up t t S ≡ made t S
unfolding make
make_itself up (flat a) S = rw (flat_itself up a)
make_itself up (container o s) S = when_true (same (container o s) (container o s)) _ _ (same_refl (container o s))
make_itself up (function ss r) S = when_true (same (function ss r) (function ss r)) _ _ (same_refl (function ss r))

not_same : (s t : Tree) → (s ≡ t → ⊥) → (b : Bool) → same s t ≡ b → b ≡ false
not_same s t n false e = refl
not_same s t n true e = absurd (n ((same_exactly s t).0 e))

pub make_containers : (up : Bool) (o p : ComplexSort) (s t : Tree) (S : Sorts) → (container o s ≡ container p t → ⊥)
    → make up (container o s) (container p t) S ≡ where_some (bound_op up o p) S (λ q. make up s t S then (λ v S. intern (container q v) S))
unfolding make
make_containers up o p s t S n = when_false (same (container o s) (container p t)) _ _ (not_same (container o s) (container p t) n _ refl)

pub make_functions : (up : Bool) (ss ts : Trees) (r u : Tree) (S : Sorts) → (function ss r ≡ function ts u → ⊥) → arity ss ≡ arity ts
    → make up (function ss r) (function ts u) S ≡ makes (not up) ss ts S then (λ vs S. make up r u S then (λ v S. intern (function vs v) S))
unfolding make
make_functions up ss ts r u S n e =
    when_false (same (function ss r) (function ts u)) _ _ (not_same (function ss r) (function ts u) n _ refl)
    ∙ when_true (eqb (arity ss) (arity ts)) _ _ (eq-eqb (arity ss) (arity ts) e)

other_family : (up : Bool) (a b : Flat) → (family a ≡ family b → ⊥) → bound_flat up a b ≡ none
unfolding bound_flat
other_family up a b f = rw (ne_eqb (family a) (family b) f)

pub make_unlike : (up : Bool) (s t : Tree) (S : Sorts) → (s ≡ t → ⊥) → Unlike s t → make up s t S ≡ nothing S
unfolding make
make_unlike up (flat a) (flat b) S n (flats f) = rw (other_family up a b f)
make_unlike up (flat a) (container p t) S n u = refl
make_unlike up (flat a) (function ts u) S n v = refl
make_unlike up (container o s) (flat b) S n u = refl
make_unlike up (container o s) (container p t) S n u = elim u [ ]
make_unlike up (container o s) (function ts u) S n v = refl
make_unlike up (function ss r) (flat b) S n u = refl
make_unlike up (function ss r) (container p t) S n u = refl
make_unlike up (function ss r) (function ts u) S n (functions f) =
    when_false (same (function ss r) (function ts u)) _ _ (not_same (function ss r) (function ts u) n _ refl)
    ∙ when_false (eqb (arity ss) (arity ts)) _ _ (ne_eqb (arity ss) (arity ts) f)

-- the answers of one call
module _ (ws : List ℕ) (C : Counts) (k : Checked ws C.sorts C.entries) where
  abbrev n : ℕ
  n = C.sorts

  abbrev e : ℕ
  e = C.entries

  abbrev T : List Tree
  T = trees ws n

  abbrev S : Sorts
  S = sorts_of ws n e

  pub counts_are : counts_of S ≡ C
  counts_are =
      let a = length_trees ws n in
      let b : max_entries - (max_entries - e) ≡ e = omega (arith, k.entries) in
      λ i. record { sorts = a i; entries = b i }

  pub answer_old : (i : SortId) → i.0 < n → stored_at ws (At i C) ≡ stored ws n e (made (look T i.0) S)
  unfolding stored
  answer_old i h =
      let w = sym (after_none ws n e k) in
      let j = sym (number_look T i.0 (trees_differ ws n e (listed k)) (omega (arith, length_trees ws n))) in
      let c = sym counts_are in
      λ x. record { words = w x; answer = At (record { 0 = j x }) (c x) }

  pub answer_none : stored_at ws (Nothing C) ≡ stored ws n e (nothing S)
  unfolding stored
  answer_none =
      let w = sym (after_none ws n e k) in
      let c = sym counts_are in
      λ x. record { words = w x; answer = Nothing (c x) }

  module _ (up : Bool) (a b : SortId) (ha : a.0 < n) (hb : b.0 < n) where
    pub bound_itself : a.0 ≡ b.0 → stored_at ws (At a C) ≡ bound_at up ws n e a.0 b.0
    unfolding bound_at
    bound_itself q = answer_old a ha ∙ ap (stored ws n e) (sym (ap (λ j. make up (look T a.0) (look T j) S) (sym q) ∙ make_itself up (look T a.0) S))

    module _ (d : a.0 ≡ b.0 → ⊥) where
      differ : look T a.0 ≡ look T b.0 → ⊥
      differ q = d (look_injective T a.0 b.0 (trees_differ ws n e (listed k)) (omega (arith, length_trees ws n)) (omega (arith, length_trees ws n)) q)

      pub bound_unlike : Unlike (look T a.0) (look T b.0) → stored_at ws (Nothing C) ≡ bound_at up ws n e a.0 b.0
      unfolding bound_at
      bound_unlike u = answer_none ∙ ap (stored ws n e) (sym (make_unlike up (look T a.0) (look T b.0) S differ u))

      module _ (l r : Sort) (o : OfPrimitives ws n e a.0 b.0 l r) where
        made_number : make up (look T a.0) (look T b.0) S ≡ where_some (bound_flat up (primitive l) (primitive r)) S (λ c. made (flat c) S)
        unfolding make
        made_number = ap₂ (λ x y. make up x y S) o.lhs o.rhs

        by_farther : (f g : Bool) → stored_at ws (cond f (cond g (At b C) (At a C)) (Nothing C))
            ≡ stored ws n e (where_some (cond f (some (cond g (primitive r) (primitive l))) none) S (λ c. made (flat c) S))
        by_farther true true = answer_old b hb ∙ ap (λ t. stored ws n e (made t S)) o.rhs
        by_farther true false = answer_old a ha ∙ ap (λ t. stored ws n e (made t S)) o.lhs
        by_farther false g = answer_none

        -- the farther of two numbers
        pub bound_number : stored_at ws (cond (eqb (family (primitive l)) (family (primitive r)))
            (cond (le_level up (level (primitive l)) (level (primitive r))) (At b C) (At a C)) (Nothing C)) ≡ bound_at up ws n e a.0 b.0
        unfolding bound_at bound_flat
        bound_number =
            by_farther (eqb (family (primitive l)) (family (primitive r))) (le_level up (level (primitive l)) (level (primitive r)))
            ∙ ap (stored ws n e) (sym made_number)

      module _ (o : ComplexSort) (s : SortId) (p : ComplexSort) (t : SortId) (c : OfContainers ws n e a.0 b.0 o s p t) where
        pub bound_container : container_at up ws n e o s.0 p t.0 ≡ bound_at up ws n e a.0 b.0
        unfolding container_at bound_at
        bound_container =
            ap (stored ws n e)
            (sym (ap₂ (λ x y. make up x y S) c.lhs c.rhs ∙ make_containers up o p (look T s.0)
            (look T t.0) S (λ q. differ (c.lhs ∙ (q ∙ sym c.rhs)))))

  -- two containers, by operators and parts
  module _ (up : Bool) (o : ComplexSort) (s : SortId) (p : ComplexSort) (t : SortId) (hs : s.0 < n) (ht : t.0 < n) where
    pub container_none : bound_op up o p ≡ none → stored_at ws (Nothing C) ≡ container_at up ws n e o s.0 p t.0
    unfolding container_at
    container_none z = rw z answer_none

    module _ (q : ComplexSort) (xq : bound_op up o p ≡ some q) (vs : List ℕ) (r : Joined) (er : stored_at vs r ≡ bound_at up ws n e s.0 t.0) where
      abbrev part : Outcome Tree
      part = make up (look T s.0) (look T t.0) S

      part_kept : SortsKept ws n e InTree S part
      part_kept = make_kept ws n e up (look T s.0) (look T t.0) S (grown_none ws n e k) (look_whole ws n e k s.0 hs) (look_whole ws n e k t.0 ht)

      to_part : stored_at vs r ≡ stored ws n e part
      unfolding bound_at
      to_part = er

      container_is : container_at up ws n e o s.0 p t.0 ≡ stored ws n e (part then (λ v S. intern (container q v) S))
      unfolding container_at
      container_is = rw xq

      pub container_stops : (K : Counts) → r ≡ Nothing K → stored_at vs (Nothing K) ≡ container_at up ws n e o s.0 p t.0
      container_stops K z =
          let f : stored_at vs (Nothing K) ≡ stored ws n e part = ap (stored_at vs) (sym z) ∙ to_part in
          let g = stopped ws n e part vs K f in
          f ∙ sym (container_is ∙ (ap (λ O. stored ws n e (O then (λ v S. intern (container q v) S))) g.1 ∙ ap (stored ws n e) (sym g.1)))

      pub container_ends : r ≡ Full → stored_at vs Full ≡ container_at up ws n e o s.0 p t.0
      container_ends z =
          let f : stored_at vs Full ≡ stored ws n e part = ap (stored_at vs) (sym z) ∙ to_part in
          let g = ended ws n e part vs f in
          f ∙ sym (container_is ∙ (ap (λ O. stored ws n e (O then (λ v S. intern (container q v) S))) g.1 ∙ ap (stored ws n e) (sym g.1)))

      module _ (c : SortId) (K : Counts) (z : r ≡ At c K) where
        there : Reached ws n e S part vs c K
        there = reached ws n e S part part_kept vs c K (ap (stored_at vs) (sym z) ∙ to_part)

        pub container_checked : Checked vs K.sorts K.entries
        container_checked = reached_checked ws n e S part vs c K there

        pub container_below : c.0 < K.sorts
        container_below = reached_below ws n e S part vs c K there

        pub container_made : (us : List ℕ) (w : Joined) → stored_at us w ≡ intern_at vs K.sorts K.entries (container q (look (trees vs K.sorts) c.0))
            → stored_at us w ≡ container_at up ws n e o s.0 p t.0
        unfolding parts_in need
        container_made us w f =
            f ∙ (ap (λ v. intern_at vs K.sorts K.entries (container q v)) (reached_sort ws n e S part vs c K there)
            ∙ (intern_after ws n e S part vs c K there (container q there.sort) there.inside (omega arith)
            ∙ sym (container_is ∙ ap (λ O. stored ws n e (O then (λ v S. intern (container q v) S))) there.is)))

  -- interning a container and a function by the numbers of their parts
  member_at : (i : ℕ) → i < n → member T (look T i) ≡ true
  member_at i h = member_look T i (omega (arith, length_trees ws n))

  number_at : (i : ℕ) → i < n → number T (look T i) ≡ i
  number_at i h = number_look T i (trees_differ ws n e (listed k)) (omega (arith, length_trees ws n))

  pub generic_interns : (o : ComplexSort) (s : ℕ) → s < n
      → intern_row ws n e (record { kind = kind_op o; part = s; args = [] }) ≡ intern_at ws n e (container o (look T s))
  unfolding intern_at row_of parts_in
  generic_interns o s h =
      ap (λ j. intern_row ws n e (record { kind = kind_op o; part = j; args = [] })) (sym (number_at s h))
      ∙ intern_row_interns ws n e k (container o (look T s)) (member_at s h)

  pub members_below : (xs : List ℕ) → AllBelow n xs → members T (look_all T xs) ≡ true
  unfolding members look_all AllBelow
  members_below [] b = refl
  members_below (x ∷ xs) b = (and-eq-true_iff (member T (look T x)) (members T (look_all T xs))).1 (member_at x b.0, members_below xs b.1)

  pub function_interns : (xs : List ℕ) (s : ℕ) → AllBelow n xs → s < n
      → intern_row ws n e (record { kind = function_kind; part = s; args = xs }) ≡ intern_at ws n e (function (look_all T xs) (look T s))
  unfolding intern_at row_of parts_in
  function_interns xs s b h =
      ap₂ (λ j ys. intern_row ws n e (record { kind = function_kind; part = j; args = ys })) (sym (number_at s h))
      (sym (numbers_look_all T xs (trees_differ ws n e (listed k)) (subst (λ l. AllBelow l xs) (sym (length_trees ws n)) b)))
      ∙ intern_row_interns ws n e k (function (look_all T xs) (look T s)) ((and-eq-true_iff (members T (look_all T xs))
      (member T (look T s))).1 (members_below xs b, member_at s h))
