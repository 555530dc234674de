-- The list that resolve leaves. What it makes is appended to a list that grew from its storage and leaves such a list, with its answer in it, so
-- that a call after another goes on as if the two were one; and a sort of the list is found there, with nothing made. By the clauses of
-- `resolve_term`. Assumes nothing.
use mathlib.Core.Path.{◌≡◌, refl, ◌∙◌, ap, ap₂, subst}
use mathlib.Core.Bool.{true, and-eq-true_iff}
use mathlib.Core.List.{List, [], ◌∷◌}
use mathlib.Core.Option.{Option, none, some}
use Prim.Native.Nat.{ℕ, zero, suc, ◌-◌, ◌<◌, ◌≤◌}
use native.Mathlib.Omega.{arith}
use native.Mathlib.Numerals.{add-one}
use lib.ListN.{length, get_or}
use Rattle.resolved_sort.specs.Tree.{unit, Tree, flat, container, function, Trees, no_args, arg, arity}
use Rattle.resolved_sort.specs.Interning.{Sorts, look, number, member, need, made, ◌then◌, intern}
use Rattle.resolved_sort.specs.Storage.{max_entries}
use Rattle.resolved_sort.specs.Entries.{after}
use Rattle.resolved_sort.proofs.Numbers.{look_number, number_below}
use Rattle.resolved_sort.specs.Growing.{parts_in, members, Grown, SortsExtend, SortsKept, InTree, Whole, Wholes}
use Rattle.resolved_sort.proofs.Grown.{grown_none, sorts_again}
use Rattle.resolved_sort.proofs.Kept.{extends_refl, member_extends, kept_then, intern_kept, container_interned, function_interned}
use Rattle.resolved_sort.proofs.Stored.{look_whole}
use Rattle.unification.specs.Term.{Head, flat_head, container_head, function_head, stray_head, Term, var, app, Terms, no_part, part, term_of, terms_of}
use Rattle.unification.specs.Resolve.{firsts, tree_over, resolve_term, resolve_terms}

-- how many parts there are
unfoldable pub count : Terms → ℕ
count no_part = 0
count (part t ts) = suc (count ts)

-- n is as many parts as the head stands over, and a function has at most 16 arguments
abbrev pub HeadOver : Head → ℕ → Type 0
HeadOver (flat_head a) n = n ≡ 0
HeadOver (container_head o) n = n ≡ 1
HeadOver (function_head k) n = (n ≡ suc k) × (k ≤ 16)
HeadOver (stray_head k) n = ⊥

-- each head of the term stands over as many parts as it should
unfoldable mutual
  pub Formed : Term → Type 0
  Formed (var v) = Unit {0}
  Formed (app h ts) = HeadOver h (count ts) × AllFormed ts

  pub AllFormed : Terms → Type 0
  AllFormed no_part = Unit {0}
  AllFormed (part t ts) = Formed t × AllFormed ts

-- sorts that are in the list, as many as there are parts
unfoldable pub AllIn : List Tree → List Tree → Type 0
AllIn T [] = Unit {0}
AllIn T (u ∷ us) = (member T u ≡ true) × AllIn T us

abbrev pub InLists : ℕ → Sorts → List Tree → Type 0
InLists k S us = AllIn S.trees us × (length us ≡ k)

-- a default, where there is one, is in the list
abbrev pub DefaultIn : Option Tree → Sorts → Type 0
DefaultIn none S = Unit {0}
DefaultIn (some t) S = InTree S t

pub default_extends : (d : Option Tree) (S S' : Sorts) → SortsExtend S S' → DefaultIn d S → DefaultIn d S'
default_extends none S S' x i = tt
default_extends (some t) S S' x i = member_extends S S' t x i

firsts_in : (T : List Tree) (k : ℕ) (us : List Tree) → AllIn T us → members T (firsts k us) ≡ true
unfolding firsts members AllIn
firsts_in T zero us a = refl
firsts_in T (suc k) [] a = refl
firsts_in T (suc k) (u ∷ us) a = (and-eq-true_iff (member T u) (members T (firsts k us))).1 (a.0, firsts_in T k us a.1)

pub firsts_arity : (k : ℕ) (us : List Tree) → k ≤ length us → arity (firsts k us) ≡ k
unfolding firsts arity
firsts_arity zero us l = refl
firsts_arity (suc k) [] l = absurd (omega arith)
firsts_arity (suc k) (u ∷ us) l = omega (arith, firsts_arity k us (omega arith))

one_in : (T : List Tree) (us : List Tree) (k : ℕ) → k < length us → AllIn T us → member T (get_or us k (flat unit)) ≡ true
unfolding AllIn
one_in T [] k l a = absurd (omega arith)
one_in T (u ∷ us) zero l a = a.0
one_in T (u ∷ us) (suc k) l a = one_in T us k (omega arith) a.1

module _ (ws : List ℕ) (n e : ℕ) where
  -- a head interned over sorts of the list
  pub head_interned : (h : Head) (us : List Tree) (k : ℕ) (S : Sorts) → Grown ws n e S → HeadOver h k → InLists k S us
      → SortsKept ws n e InTree S (intern (tree_over h us) S)
  unfolding tree_over parts_in need
  head_interned (flat_head a) us k S g o m = intern_kept ws n e S g (flat a) refl (omega arith)
  head_interned (container_head q) us k S g o m = container_interned ws n e q (get_or us 0 (flat unit)) S g
      (one_in S.trees us 0 (omega (arith, o, m.1)) m.0)
  head_interned (function_head j) us k S g o m =
      function_interned ws n e (firsts j us) (get_or us j (flat unit)) S g (firsts_in S.trees j us m.0)
      (omega (arith, o, m.1, firsts_arity j us (omega (arith, o.0, m.1))))
      (one_in S.trees us j (omega (arith, o.0, m.1)) m.0)
  head_interned (stray_head x) us k S g o m = absurd o

  none_resolved : (S : Sorts) → Grown ws n e S → SortsKept ws n e (InLists 0) S (made [] S)
  unfolding SortsKept AllIn
  none_resolved S g = (g, extends_refl S, (tt, refl))

  one_resolved : (u : Tree) (k : ℕ) (S₀ S : Sorts) → InTree S₀ u → Grown ws n e S → SortsExtend S₀ S
      → (us : List Tree) → InLists k S us → SortsKept ws n e (InLists (suc k)) S (made (u ∷ us) S)
  unfolding SortsKept AllIn
  one_resolved u k S₀ S m g x us a = (g, extends_refl S, ((member_extends S₀ S u x m, a.0), ap suc a.1))

  default_kept : (d : Option Tree) (v : ℕ) (S : Sorts) → Grown ws n e S → DefaultIn d S → SortsKept ws n e InTree S (resolve_term d (var v) S)
  unfolding SortsKept resolve_term
  default_kept none v S g i = (g, extends_refl S)
  default_kept (some t) v S g i = (g, extends_refl S, i)

  mutual
    unfolding resolve_term resolve_terms Formed AllFormed count

    pub resolve_kept : (d : Option Tree) (t : Term) (S : Sorts) → Grown ws n e S → DefaultIn d S → Formed t → SortsKept ws n e InTree S (resolve_term d t S)
    resolve_kept d (var v) S g i f = default_kept d v S g i
    resolve_kept d (app h ts) S g i f =
        kept_then ws n e (InLists (count ts)) InTree S (resolve_terms d ts S) _ (resolves_kept d ts S g i f.1)
        (λ us S₁ g₁ x₁ m. head_interned h us (count ts) S₁ g₁ f.0 m)

    pub resolves_kept : (d : Option Tree) (ts : Terms) (S : Sorts) → Grown ws n e S → DefaultIn d S → AllFormed ts
        → SortsKept ws n e (InLists (count ts)) S (resolve_terms d ts S)
    resolves_kept d no_part S g i f = none_resolved S g
    resolves_kept d (part t ts) S g i f =
        kept_then ws n e InTree (InLists (suc (count ts))) S (resolve_term d t S) _ (resolve_kept d t S g i f.0)
        (λ u S₁ g₁ x₁ m. kept_then ws n e (InLists (count ts)) (InLists (suc (count ts))) S₁ (resolve_terms d ts S₁) _
        (resolves_kept d ts S₁ g₁ (default_extends d S S₁ x₁ i) f.1)
        (λ us S₂ g₂ x₂ a. one_resolved u (count ts) S₁ S₂ m g₂ x₂ us a))

-- One call after another. A list that grew is stored, reads as itself there, and what is made of it from there on is stored as if it were made in one
-- call.
module _ (ws : List ℕ) (n e : ℕ) (S : Sorts) (g : Grown ws n e S) where
  abbrev pub words_then : List ℕ
  words_then = after ws n e S

  abbrev pub sorts_then : ℕ
  sorts_then = length S.trees

  abbrev pub entries_then : ℕ
  entries_then = max_entries - S.entries

  pub grown_there : Grown words_then sorts_then entries_then S
  grown_there = subst (Grown words_then sorts_then entries_then) (sorts_again ws n e S g) (grown_none words_then sorts_then entries_then g.checked)

-- A sort of the list is found there, and nothing is made.
intern_found : (t : Tree) (S : Sorts) → member S.trees t ≡ true → intern t S ≡ made t S
unfolding intern
intern_found t S m = rw m

-- the arguments as a list, in front of others
unfoldable pub listed : Trees → List Tree → List Tree
listed no_args us = us
listed (arg t ts) us = t ∷ listed ts us

pub firsts_listed : (ts : Trees) (us : List Tree) → firsts (arity ts) (listed ts us) ≡ ts
unfolding firsts arity listed
firsts_listed no_args us = refl
firsts_listed (arg t ts) us = ap (λ k. firsts k (t ∷ listed ts us)) (add-one (arity ts)) ∙ ap (arg t) (firsts_listed ts us)

pub last_listed : (ts : Trees) (r : Tree) → get_or (listed ts (r ∷ [])) (arity ts) (flat unit) ≡ r
unfolding arity listed
last_listed no_args r = refl
last_listed (arg t ts) r = ap (λ k. get_or (t ∷ listed ts (r ∷ [])) k (flat unit)) (add-one (arity ts)) ∙ last_listed ts r

module _ (d : Option Tree) (S : Sorts) where
  mutual
    unfolding resolve_term resolve_terms tree_over term_of terms_of Whole Wholes listed

    whole_is_found : (t : Tree) → Whole S.trees t → resolve_term d (term_of t) S ≡ made t S
    whole_is_found (flat a) w = intern_found (flat a) S w
    whole_is_found (container o t) w =
        ap (λ O. O then (λ u S. resolve_terms d no_part S then (λ us S. made (u ∷ us) S)) then
        (λ us S. intern (tree_over (container_head o) us) S)) (whole_is_found t w.1)
        ∙ intern_found (container o t) S w.0
    whole_is_found (function ts r) w =
        ap (λ O. O then (λ us S. intern (tree_over (function_head (arity ts)) us) S))
        (wholes_are_found ts (part (term_of r) no_part) (r ∷ []) w.1
        (ap (λ O. O then (λ u S. resolve_terms d no_part S then (λ us S. made (u ∷ us) S)))
        (whole_is_found r w.2)))
        ∙ (ap₂ (λ us u. intern (function us u) S) (firsts_listed ts (r ∷ [])) (last_listed ts r) ∙ intern_found (function ts r) S w.0)

    wholes_are_found : (ts : Trees) (xs : Terms) (us : List Tree) → Wholes S.trees ts
        → resolve_terms d xs S ≡ made us S → resolve_terms d (terms_of ts xs) S ≡ made (listed ts us) S
    wholes_are_found no_args xs us w q = q
    wholes_are_found (arg t ts) xs us w q =
        ap (λ O. O then (λ u S. resolve_terms d (terms_of ts xs) S then (λ us S. made (u ∷ us) S))) (whole_is_found t w.0)
        ∙ ap (λ O. O then (λ us S. made (t ∷ us) S)) (wholes_are_found ts xs us w.1 q)

-- the parts of a sort of a grown list are its sorts
pub member_whole : (ws : List ℕ) (n e : ℕ) (S : Sorts) → Grown ws n e S → (t : Tree) → member S.trees t ≡ true → Whole S.trees t
member_whole ws n e S g t m =
    let w = look_whole (after ws n e S) (length S.trees) (max_entries - S.entries) g.checked (number S.trees t) (number_below S.trees t m) in
    subst (Whole S.trees) (look_number S.trees t m) (subst (λ T. Whole T (look T (number S.trees t))) g.reads w)

pub sort_is_found : (ws : List ℕ) (n e : ℕ) (S : Sorts) → Grown ws n e S → (d : Option Tree) (t : Tree)
    → member S.trees t ≡ true → resolve_term d (term_of t) S ≡ made t S
sort_is_found ws n e S g d t m = whole_is_found d S t (member_whole ws n e S g t m)
