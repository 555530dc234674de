-- Interning, join and meet keep the list grown from its storage: what they answer is in the list, and what was in the
-- list stays there under its number. By the clauses of `make`. Assumes nothing.
use mathlib.Core.Path.{◌≡◌, refl, sym, ◌∙◌, ap, subst}
use mathlib.Core.Bool.{Bool, true, false, cond, not, and-eq-true_iff}
use mathlib.Core.List.{List, [], ◌∷◌, ◌++◌, append_assoc, append-nil}
use mathlib.Core.Option.{Option, none, some}
use Prim.Native.Nat.{ℕ, ◌+◌, ◌-◌, ◌≤◌}
use native.Mathlib.Omega.{arith}
use lib.ListN.{length}
use lib.Dec.{eqb, leb, ltb}
use borrow.Author.Tests.{ltb-true, leb-true}
use Rattle.resolved_sort.specs.declared.ComplexSort.{ComplexSort}
use Rattle.resolved_sort.specs.Tree.{Flat, Tree, flat, container, function, Trees, no_args, arg, arity, family, level, same}
use Rattle.resolved_sort.specs.Order.{le_level, bound_flat, bound_op}
use Rattle.resolved_sort.specs.Interning.{Sorts, member, need, Outcome, made, nothing, full, ◌then◌, where_some, fits, intern, make, makes}
use Rattle.resolved_sort.specs.Storage.{max_sorts, max_entries}
use Rattle.resolved_sort.specs.Entries.{after}
use Rattle.resolved_sort.proofs.Numbers.{member_grows, member_snoc_last}
use Rattle.resolved_sort.specs.Growing.{parts_in, members, Fresh, Grown, SortsExtend, Whole, Wholes, InTree, SortsKept}
use Rattle.resolved_sort.proofs.Grown.{grown_one, grown_both}

pub extends_refl : (S : Sorts) → SortsExtend S S
extends_refl S = ([], sym (append-nil S.trees))

pub extends_trans : (S₁ S₂ S₃ : Sorts) → SortsExtend S₁ S₂ → SortsExtend S₂ S₃ → SortsExtend S₁ S₃
extends_trans S₁ S₂ S₃ a b = (a.0 ++ b.0, b.1 ∙ (ap (λ T. T ++ b.0) a.1 ∙ append_assoc S₁.trees a.0 b.0))

pub member_extends : (S S' : Sorts) (t : Tree) → SortsExtend S S' → member S.trees t ≡ true → member S'.trees t ≡ true
member_extends S S' t x m = rw x.1 (member_grows S.trees x.0 t m)

pub members_extends : (S S' : Sorts) (ts : Trees) → SortsExtend S S' → members S.trees ts ≡ true → members S'.trees ts ≡ true
unfolding members
members_extends S S' no_args x m = refl
members_extends S S' (arg t ts) x m =
    let p = (and-eq-true_iff (member S.trees t) (members S.trees ts)).0 m in
    (and-eq-true_iff (member S'.trees t) (members S'.trees ts)).1 (member_extends S S' t x p.0, members_extends S S' ts x p.1)

mutual
  unfolding Whole Wholes

  whole_grows : (T U : List Tree) (t : Tree) → Whole T t → Whole (T ++ U) t
  whole_grows T U (flat a) w = member_grows T U (flat a) w
  whole_grows T U (container o s) w = (member_grows T U (container o s) w.0, whole_grows T U s w.1)
  whole_grows T U (function ss r) w = (member_grows T U (function ss r) w.0, wholes_grow T U ss w.1, whole_grows T U r w.2, w.3)

  wholes_grow : (T U : List Tree) (ts : Trees) → Wholes T ts → Wholes (T ++ U) ts
  wholes_grow T U no_args w = tt
  wholes_grow T U (arg t ts) w = (whole_grows T U t w.0, wholes_grow T U ts w.1)

pub whole_extends : (S S' : Sorts) (t : Tree) → SortsExtend S S' → Whole S.trees t → Whole S'.trees t
whole_extends S S' t x w = rw x.1 (whole_grows S.trees x.0 t w)

pub wholes_extend : (S S' : Sorts) (ts : Trees) → SortsExtend S S' → Wholes S.trees ts → Wholes S'.trees ts
wholes_extend S S' ts x w = rw x.1 (wholes_grow S.trees x.0 ts w)

abbrev pub InTrees : ℕ → Sorts → Trees → Type 0
InTrees n S ts = (members S.trees ts ≡ true) × (arity ts ≡ n)

module _ (ws : List ℕ) (n e : ℕ) where
  pub kept_before : {B : Type 0} (On : Sorts → B → Type 0) (S₀ S : Sorts) → SortsExtend S₀ S → (P : Outcome B)
      → SortsKept ws n e On S P → SortsKept ws n e On S₀ P
  unfolding SortsKept
  kept_before On S₀ S x (made b S') g = (g.0, extends_trans S₀ S S' x g.1, g.2)
  kept_before On S₀ S x (nothing S') g = (g.0, extends_trans S₀ S S' x g.1)
  kept_before On S₀ S x (full S') g = (g.0, extends_trans S₀ S S' x g.1)

  pub kept_then : {A B : Type 0} (In : Sorts → A → Type 0) (On : Sorts → B → Type 0) (S₀ : Sorts) (O : Outcome A) (k : A → Sorts → Outcome B)
      → SortsKept ws n e In S₀ O → ((a : A) (S : Sorts) → Grown ws n e S → SortsExtend S₀ S → In S a
      → SortsKept ws n e On S (k a S)) → SortsKept ws n e On S₀ (O then k)
  unfolding SortsKept
  kept_then In On S₀ (made a S) k h f = kept_before On S₀ S h.1 (k a S) (f a S h.0 h.1 h.2)
  kept_then In On S₀ (nothing S) k h f = h
  kept_then In On S₀ (full S) k h f = h

  kept_some : {A B : Type 0} (On : Sorts → B → Type 0) (S : Sorts) (x : Option A) (k : A → Outcome B)
      → Grown ws n e S → ((a : A) → x ≡ some a → SortsKept ws n e On S (k a)) → SortsKept ws n e On S (where_some x S k)
  unfolding SortsKept
  kept_some On S none k g f = (g, extends_refl S)
  kept_some On S (some a) k g f = f a refl

  -- one more sort
  module _ (S : Sorts) (g : Grown ws n e S) (t : Tree) (p : parts_in S.trees t ≡ true) (q : need t ≤ 16) where
    abbrev grown : Sorts
    grown = record { trees = S.trees ++ (t ∷ []); rows = S.rows - 1; entries = S.entries - need t }

    fresh : member S.trees t ≡ false → fits t S ≡ true → Fresh (after ws n e S) (length S.trees) (max_entries - S.entries) t
    fresh m f =
        let h = (and-eq-true_iff (ltb 0 S.rows) (leb (need t) S.entries)).0 f in
        let a = ltb-true 0 S.rows h.0 in
        let b = leb-true (need t) S.entries h.1 in
        record {
          checked = g.checked;
          absent = rw g.reads m;
          parts = rw g.reads p;
          short = q;
          room = omega
              (arith, g.rows, a);
          space = omega (arith, b, g.entries);
        }

    grown_more : member S.trees t ≡ false → fits t S ≡ true → Grown ws n e grown
    grown_more m f =
        let h = (and-eq-true_iff (ltb 0 S.rows) (leb (need t) S.entries)).0 f in
        let b = leb-true (need t) S.entries h.1 in
        let x : max_sorts - length S.trees - 1 ≡ S.rows - 1 = omega (arith, g.rows) in
        let y : max_entries - (max_entries - S.entries) - need t ≡ S.entries - need t = omega (arith, b, g.entries) in
        grown_both ws n e S grown g
        (subst (Grown (after ws n e S) (length S.trees) (max_entries - S.entries))
        (λ i. record { trees = g.reads i ++ (t ∷ []); rows = x i; entries = y i })
        (grown_one (after ws n e S) (length S.trees) (max_entries - S.entries) t (fresh m f)))

    intern_by : (b c : Bool) → member S.trees t ≡ b → fits t S ≡ c → SortsKept ws n e InTree S (cond b (made t S) (cond c (made t grown) (full S)))
    unfolding SortsKept
    intern_by true c m f = (g, extends_refl S, m)
    intern_by false true m f = (grown_more m f, ((t ∷ []), refl), member_snoc_last S.trees t)
    intern_by false false m f = (g, extends_refl S)

    pub intern_kept : SortsKept ws n e InTree S (intern t S)
    unfolding intern
    intern_kept = intern_by (member S.trees t) (fits t S) refl refl

  -- join and meet
  one_of_two : (P : Flat → Type 0) (a b c : Flat) (f l : Bool) → cond f (some (cond l b a)) none ≡ some c → P a → P b → P c
  one_of_two P a b c true true h x y = let q : b ≡ c = cc in subst P q y
  one_of_two P a b c true false h x y = let q : a ≡ c = cc in subst P q x
  one_of_two P a b c false l h x y = let z : ◌≡◌ {A = ℕ} 0 1 = cc in absurd (omega arith)

  flat_kept : (up : Bool) (a b : Flat) (S : Sorts) → Grown ws n e S → InTree S (flat a) → InTree S (flat b) → (c : Flat) → bound_flat up a b ≡ some c
      → SortsKept ws n e InTree S (made (flat c) S)
  unfolding SortsKept bound_flat
  flat_kept up a b S g x y c h =
      (g, extends_refl S, one_of_two (λ d. InTree S (flat d)) a b c (eqb (family a) (family b)) (le_level up (level a) (level b)) h x y)

  stays : {A : Type 0} (In : Sorts → A → Type 0) (S : Sorts) → Grown ws n e S → SortsKept ws n e In S (nothing S)
  unfolding SortsKept
  stays In S g = (g, extends_refl S)

  itself : (S : Sorts) (t : Tree) → Grown ws n e S → InTree S t → SortsKept ws n e InTree S (made t S)
  unfolding SortsKept
  itself S t g m = (g, extends_refl S, m)

  pub container_interned : (q : ComplexSort) (v : Tree) (S : Sorts) → Grown ws n e S → InTree S v → SortsKept ws n e InTree S (intern (container q v) S)
  unfolding parts_in need
  container_interned q v S g m = intern_kept S g (container q v) m (omega arith)

  pub function_interned : (vs : Trees) (v : Tree) (S : Sorts) → Grown ws n e S → members S.trees vs ≡ true
      → arity vs ≤ 16 → InTree S v → SortsKept ws n e InTree S (intern (function vs v) S)
  unfolding parts_in need
  function_interned vs v S g m l w = intern_kept S g (function vs v) ((and-eq-true_iff (members S.trees vs) (member S.trees v)).1 (m, w)) l

  by_test : {A : Type 0} (P : Outcome A → Type 0) (b : Bool) (x y : Outcome A) → P x → P y → P (elim b [ true ↦ x | false ↦ y ])
  by_test P true x y p q = p
  by_test P false x y p q = q

  none_made : (S : Sorts) → Grown ws n e S → SortsKept ws n e (InTrees 0) S (made no_args S)
  unfolding SortsKept members arity
  none_made S g = (g, extends_refl S, (refl, refl))

  one_made : (v : Tree) (k : ℕ) (S S₀ : Sorts) → InTree S₀ v → Grown ws n e S → SortsExtend S₀ S → (vs : Trees)
      → InTrees k S vs → SortsKept ws n e (InTrees (k + 1)) S (made (arg v vs) S)
  unfolding SortsKept members arity
  one_made v k S S₀ m g x vs h =
      (g, extends_refl S, ((and-eq-true_iff (member S.trees v) (members S.trees vs)).1 (member_extends S₀ S v x m, h.0), ap (λ j. j + 1) h.1))

  mutual
    unfolding make makes Whole Wholes arity

    pub make_kept : (up : Bool) (s t : Tree) (S : Sorts) → Grown ws n e S → Whole S.trees s → Whole S.trees t → SortsKept ws n e InTree S (make up s t S)
    make_kept up (flat a) (flat b) S g x y = kept_some InTree S (bound_flat up a b) (λ c. made (flat c) S) g (flat_kept up a b S g x y)
    make_kept up (flat a) (container p t) S g x y = stays InTree S g
    make_kept up (flat a) (function ts u) S g x y = stays InTree S g
    make_kept up (container o s) (flat b) S g x y = stays InTree S g
    make_kept up (container o s) (container p t) S g x y =
        by_test (SortsKept ws n e InTree S) (same (container o s) (container p t)) _ _ (itself S (container o s) g x.0)
        (kept_some InTree S (bound_op up o p) _ g
        (λ q h. kept_then InTree InTree S (make up s t S) _ (make_kept up s t S g x.1 y.1) (λ v S₁ g₁ x₁ m. container_interned q v S₁ g₁ m)))
    make_kept up (container o s) (function ts u) S g x y = stays InTree S g
    make_kept up (function ss r) (flat b) S g x y = stays InTree S g
    make_kept up (function ss r) (container p t) S g x y = stays InTree S g
    make_kept up (function ss r) (function ts u) S g x y =
        by_test (SortsKept ws n e InTree S) (same (function ss r) (function ts u)) _ _ (itself S (function ss r) g x.0)
        (by_test (SortsKept ws n e InTree S) (eqb (arity ss) (arity ts)) _ _
        (kept_then (InTrees (arity ss)) InTree S (makes (not up) ss ts S) _ (makes_kept (not up) ss ts S g x.1 y.1)
        (λ vs S₁ g₁ x₁ m. kept_then InTree InTree S₁ (make up r u S₁) _ (make_kept up r u S₁ g₁ (whole_extends S S₁ r
        x₁ x.2) (whole_extends S S₁ u x₁ y.2))
        (λ v S₂ g₂ x₂ w. function_interned vs v S₂ g₂ (members_extends S₁ S₂ vs x₂ m.0) (omega (arith, x.3, m.1)) w)))
        (stays InTree S g))

    pub makes_kept : (up : Bool) (ss ts : Trees) (S : Sorts) → Grown ws n e S → Wholes S.trees ss
        → Wholes S.trees ts → SortsKept ws n e (InTrees (arity ss)) S (makes up ss ts S)
    makes_kept up no_args no_args S g x y = none_made S g
    makes_kept up no_args (arg t ts) S g x y = stays (InTrees 0) S g
    makes_kept up (arg s ss) no_args S g x y = stays (InTrees (arity (arg s ss))) S g
    makes_kept up (arg s ss) (arg t ts) S g x y =
        kept_then InTree (InTrees (arity ss + 1)) S (make up s t S) _ (make_kept up s t S g x.0 y.0)
        (λ v S₁ g₁ x₁ m. kept_then (InTrees (arity ss)) (InTrees (arity ss + 1)) S₁ (makes up ss ts S₁) _
        (makes_kept up ss ts S₁ g₁ (wholes_extend S S₁ ss x₁ x.1) (wholes_extend S S₁ ts x₁ y.1))
        (λ vs S₂ g₂ x₂ h. one_made v (arity ss) S₂ S₁ m g₂ x₂ vs h))
