-- A pair never runs out of room (15): storing a sort makes at most as many sorts and entries as it has nodes, and a line of 200 bytes
-- has at most 200 nodes. By the clauses of `store`. Assumes nothing.
use mathlib.Core.Path.{◌≡◌, refl, sym, ◌∙◌, ap, ap₂, subst}
use mathlib.Core.Bool.{Bool, true, false, cond}
use mathlib.Core.List.{List, [], ◌∷◌, ◌++◌}
use Prim.Native.Nat.{ℕ, ◌+◌, ◌-◌, ◌≤◌, ◌<◌}
use native.Mathlib.Omega.{arith}
use lib.ListN.{length}
use Rattle.resolved_sort.specs.declared.ComplexSort.{ComplexSort}
use Rattle.resolved_sort.specs.Tree.{Flat, Tree, flat, container, function, Trees, no_args, arg, arity}
use Rattle.resolved_sort.specs.Interning.{Sorts, member, need, Outcome, made, nothing, full, ◌then◌, fits, intern, make}
use Rattle.resolved_sort.specs.Storage.{sorts_of}
use Rattle.sort_text.specs.Parse.{parsed, line}
use Rattle.sort_text.specs.Reading.{store, stores}
use Rattle.sort_text.specs.Readable.{size, sizes}
use Rattle.sort_text.proofs.WhatIsRead.{line_nodes}
use Rattle.sort_text.proofs.Sizes.{entries_of, entries_in, entries_below_size, Spent, Within, within_more}
use Rattle.sort_text.proofs.Sizes.{within_then, intern_within, made_within, AnyTree, make_within}
use Rattle.sort_text.specs.PairRoom.{list_after, is_full, two_stored, PairFits}

abbrev pub Is : {A : Type 0} → A → A → Type 0
Is t u = u ≡ t

-- interning what is equal to t
interned_as : (t u : Tree) (j : ℕ) (S : Sorts) → u ≡ t → need t ≡ j → 0 < S.rows → j ≤ S.entries → Within (Is t) 1 j S (intern u S)
interned_as t u j S e n p q =
    subst (λ v. Within (Is t) 1 j S (intern v S)) (sym e)
    (subst (λ i. Within (Is t) 1 i S (intern t S)) n (intern_within t S p (omega arith)))

flat_need : (a : Flat) → need (flat a) ≡ 0
unfolding need
flat_need a = refl

container_need : (o : ComplexSort) (t : Tree) → need (container o t) ≡ 0
unfolding need
container_need o t = refl

function_need : (ts : Trees) (r : Tree) → need (function ts r) ≡ arity ts
unfolding need
function_need ts r = refl

mutual
  unfolding store stores size sizes entries_of entries_in

  -- Storing a sort stores that sort, with at most one more sort for each of its nodes.
  pub store_within : (t : Tree) (S : Sorts) → size t ≤ S.rows → entries_of t ≤ S.entries → Within (Is t) (size t) (entries_of t) S (store t S)
  store_within (flat a) S p q = interned_as (flat a) (flat a) 0 S refl (flat_need a) p q
  store_within (container o t) S p q =
      within_more (Is (container o t)) (size t + 1) (entries_of t + 0) (size t + 1) (entries_of t) S _ (omega arith) (omega arith)
      (within_then (Is t) (Is (container o t)) (size t) (entries_of t) 1 0 S (store t S) _ (store_within t S (omega arith) q)
      (λ u S₁ e x. interned_as (container o t) (container o u) 0 S₁ (ap (container o) e) (container_need o t) (omega (arith, x)) (omega arith)))
  store_within (function ts r) S p q =
      within_more (Is (function ts r)) (sizes ts + (size r + 1)) (entries_in ts + (entries_of r + arity ts))
      (sizes ts + size r + 1) (entries_in ts + entries_of r + arity ts) S _ (omega arith) (omega arith)
      (within_then (Is ts) (Is (function ts r)) (sizes ts) (entries_in ts) (size r + 1) (entries_of r + arity ts) S
      (stores ts S) _ (stores_within ts S (omega arith) (omega arith))
      (λ us S₁ d x. within_then (Is r) (Is (function ts r)) (size r) (entries_of r) 1 (arity ts) S₁ (store r S₁) _
      (store_within r S₁ (omega (arith, x)) (omega (arith, x)))
      (λ v S₂ e y. interned_as (function ts r) (function us v) (arity ts) S₂ (ap₂ function d e) (function_need ts r)
      (omega (arith, x, y)) (omega (arith, x, y)))))

  pub stores_within : (ts : Trees) (S : Sorts) → sizes ts ≤ S.rows → entries_in ts ≤ S.entries → Within (Is ts) (sizes ts) (entries_in ts) S (stores ts S)
  stores_within no_args S p q = made_within (Is no_args) 0 0 no_args S refl
  stores_within (arg t ts) S p q =
      within_then (Is t) (Is (arg t ts)) (size t) (entries_of t) (sizes ts) (entries_in ts) S (store t S) _ (store_within t S (omega arith) (omega arith))
      (λ u S₁ d x. within_more (Is (arg t ts)) (sizes ts + 0) (entries_in ts + 0) (sizes ts) (entries_in ts) S₁ _ (omega arith) (omega arith)
      (within_then (Is ts) (Is (arg t ts)) (sizes ts) (entries_in ts) 0 0 S₁ (stores ts S₁) _ (stores_within ts S₁ (omega (arith, x)) (omega (arith, x)))
      (λ us S₂ e y. made_within (Is (arg t ts)) 0 0 (arg u us) S₂ (ap₂ arg d e))))

-- Storing a sort always comes to that sort, or to the end of room.
unfoldable pub Makes : {A : Type 0} → Outcome A → Type 0
Makes (made a S) = Unit {0}
Makes (nothing S) = ⊥
Makes (full S) = Unit {0}

makes_then : {A B : Type 0} (O : Outcome A) (k : A → Sorts → Outcome B) → Makes O → ((a : A) (S : Sorts) → Makes (k a S)) → Makes (O then k)
unfolding Makes
makes_then (made a S) k h f = f a S
makes_then (nothing S) k h f = h
makes_then (full S) k h f = tt

intern_makes : (t : Tree) (S : Sorts) → Makes (intern t S)
unfolding intern Makes
intern_makes t S = by (member S.trees t) (fits t S)
  where
    by : (b c : Bool) → Makes (cond b (made t S)
        (cond c (made t (record { trees = S.trees ++ (t ∷ []); rows = S.rows - 1; entries = S.entries - need t }))
        (full S)))
    by true c = tt
    by false true = tt
    by false false = tt

mutual
  unfolding store stores Makes

  pub store_makes : (t : Tree) (S : Sorts) → Makes (store t S)
  store_makes (flat a) S = intern_makes (flat a) S
  store_makes (container o t) S = makes_then (store t S) _ (store_makes t S) (λ u S₁. intern_makes (container o u) S₁)
  store_makes (function ts r) S = makes_then (stores ts S) _ (stores_make ts S) (λ us S₁. makes_then (store r S₁) _
      (store_makes r S₁) (λ v S₂. intern_makes (function us v) S₂))

  stores_make : (ts : Trees) (S : Sorts) → Makes (stores ts S)
  stores_make no_args S = tt
  stores_make (arg t ts) S = makes_then (store t S) _ (store_makes t S) (λ u S₁. makes_then (stores ts S₁) _ (stores_make ts S₁) (λ us S₂. tt))

pub within_fits : {A : Type 0} (In : A → Type 0) (k j : ℕ) (S : Sorts) (O : Outcome A) → Within In k j S O → (is_full O ≡ false) × Spent k j S (list_after O)
unfolding Within is_full list_after
within_fits In k j S (made a S') h = (refl, h.1)
within_fits In k j S (nothing S') h = (refl, h)
within_fits In k j S (full S') h = absurd h

pub store_fits : (t : Tree) (S : Sorts) → size t ≤ S.rows → size t ≤ S.entries
    → (is_full (store t S) ≡ false) × Spent (size t) (size t) S (list_after (store t S))
store_fits t S p q =
    let l = entries_below_size t in
    within_fits (Is t) (size t) (size t) S (store t S) (within_more (Is t) (size t) (entries_of t) (size t) (size t) S
    (store t S) (omega arith) (omega arith) (store_within t S p (omega arith)))

pub make_fits : (up : Bool) (s t : Tree) (S : Sorts) → size s ≤ S.rows → size s ≤ S.entries
    → (is_full (make up s t S) ≡ false) × Spent (size s) (size s) S (list_after (make up s t S))
make_fits up s t S p q =
    let l = entries_below_size s in
    within_fits AnyTree (size s) (size s) S (make up s t S)
    (within_more AnyTree (size s) (entries_of s) (size s) (size s) S (make up s t S) (omega arith) (omega arith) (make_within up s t S p (omega arith)))

-- 800 sorts and 800 entries are room enough.
pub pair_fits : (bs cs bs' cs' : List ℕ) (s t : Tree) (S : Sorts) → length bs ≤ 200 → length bs' ≤ 200 → line bs ≡ parsed s cs → line bs' ≡ parsed t cs'
    → 800 ≤ S.rows → 800 ≤ S.entries → PairFits s t S
pair_fits bs cs bs' cs' s t S l l' e e' p q =
    let m = line_nodes bs cs s e in
    let m' = line_nodes bs' cs' t e' in
    let S₁ = list_after (store s S) in
    let a = store_fits s S (omega arith) (omega arith) in
    let S₂ = two_stored s t S in
    let b = store_fits t S₁ (omega (arith, a.1)) (omega (arith, a.1)) in
    let S₃ = list_after (make true s t S₂) in
    let c = make_fits true s t S₂ (omega (arith, a.1, b.1)) (omega (arith, a.1, b.1)) in
    let d = make_fits false s t S₃ (omega (arith, a.1, b.1, c.1)) (omega (arith, a.1, b.1, c.1)) in
    record { first = a.0; second = b.0; join = c.0; meet = d.0 }

-- The fixed six sorts leave 1,018 sorts and 4,096 entries, so a pair always fits.
pub pair_fits_from_six : (bs cs bs' cs' ws : List ℕ) (s t : Tree) → length bs ≤ 200 → length bs' ≤ 200 → line bs ≡ parsed s cs → line bs' ≡ parsed t cs'
    → PairFits s t (sorts_of ws 6 0)
pair_fits_from_six bs cs bs' cs' ws s t l l' e e' = pair_fits bs cs bs' cs' s t (sorts_of ws 6 0) l l' e e' (omega arith) (omega arith)

-- What fits did not end the room.
pub fits_is_not_full : {A : Type 0} (o : Outcome A) → is_full o ≡ false → (S : Sorts) → o ≡ full S → ⊥
unfolding is_full
fits_is_not_full (made a T) e S f = let z : ◌≡◌ {A = ℕ} 0 1 = cc in omega arith
fits_is_not_full (nothing T) e S f = let z : ◌≡◌ {A = ℕ} 0 1 = cc in omega arith
fits_is_not_full (full T) e S f = let z : ◌≡◌ {A = ℕ} 0 1 = cc in omega arith

-- What that says of the four, each after the one before.
module _ (s t : Tree) (S : Sorts) (p : PairFits s t S) (s' : Tree) (S₁ : Sorts) (e : store s S ≡ made s' S₁) where
  pub second_fits : is_full (store t S₁) ≡ false
  unfolding list_after
  second_fits = subst (λ o. is_full (store t (list_after o)) ≡ false) e p.second

  module _ (t' : Tree) (S₂ : Sorts) (f : store t S₁ ≡ made t' S₂) where
    two_stored_lem : two_stored s t S ≡ S₂
    unfolding list_after
    two_stored_lem = ap (λ o. list_after (store t (list_after o))) e ∙ ap list_after f

    pub join_fits : is_full (make true s t S₂) ≡ false
    join_fits = subst (λ U. is_full (make true s t U) ≡ false) two_stored_lem p.join

    meet_after : is_full (make false s t (list_after (make true s t S₂))) ≡ false
    meet_after = subst (λ U. is_full (make false s t (list_after (make true s t U))) ≡ false) two_stored_lem p.meet

    pub meet_fits : (u : Tree) (S₃ : Sorts) → make true s t S₂ ≡ made u S₃ → is_full (make false s t S₃) ≡ false
    unfolding list_after
    meet_fits u S₃ g = subst (λ o. is_full (make false s t (list_after o)) ≡ false) g meet_after

    pub meet_fits_without_join : (S₃ : Sorts) → make true s t S₂ ≡ nothing S₃ → is_full (make false s t S₃) ≡ false
    unfolding list_after
    meet_fits_without_join S₃ g = subst (λ o. is_full (make false s t (list_after o)) ≡ false) g meet_after
