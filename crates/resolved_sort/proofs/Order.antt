-- "Equal to or below" is a partial order, and what `order` answers. The test is read as a relation `Le` with a rule for each
-- kind of sort, so that an argument has a case for each rule. Assumes nothing.
use mathlib.Core.Path.{◌≡◌, refl, sym, ap, ap₂, ◌∙◌}
use mathlib.Core.Bool.{Bool, true, false, not, ◌&&◌, and-eq-true_iff, true≢false, false≢true}
use mathlib.Core.Logic.{◌↔◌, ◌≢◌}
use Rattle.std.specs.Prelude.{Option as Answer, Some, None}
use Rattle.std.specs.declared.cmp.Ordering.{Ordering}
use Rattle.std.specs.declared.cmp.Ordering.TheVariants.{Less, Equal as Same, Greater}
use Rattle.resolved_sort.specs.declared.ComplexSort.{ComplexSort}
use Rattle.resolved_sort.specs.Order.{PartialOrder}
use Rattle.resolved_sort.specs.Order.{Unrelated, Equal, Below, Above}
use Rattle.resolved_sort.specs.Tree.{Flat, Tree, flat, container, function, Trees, no_args, arg, family, level, family_op, level_op}
use Rattle.resolved_sort.specs.Order.{le_flat, le_op, le, les, order, order_of, OrderSays, ordering, ordering_of, OrderingSays, partial_order_of}
use Rattle.resolved_sort.proofs.Heads.{head_refl, head_trans, head_flips, head_antisym, flat_injective, op_injective}

-- The rules: flat sorts by heads, containers by operator and part, functions by arguments the other way and range.
mutual
  pub data Le : Bool → Tree → Tree → Type 0 where
    flats : {up : Bool} {a b : Flat} → le_flat up a b ≡ true → Le up (flat a) (flat b)
    containers : {up : Bool} {o p : ComplexSort} {s t : Tree} → le_op up o p ≡ true → Le up s t → Le up (container o s) (container p t)
    functions : {up : Bool} {ss ts : Trees} {r u : Tree} → Les (not up) ss ts → Le up r u → Le up (function ss r) (function ts u)

  pub data Les : Bool → Trees → Trees → Type 0 where
    ends : {up : Bool} → Les up no_args no_args
    args : {up : Bool} {s t : Tree} {ss ts : Trees} → Le up s t → Les up ss ts → Les up (arg s ss) (arg t ts)

mutual
  unfolding le

  from_le : {up : Bool} {s t : Tree} → Le up s t → le up s t ≡ true
  from_le (flats h) = h
  from_le (containers h p) = (and-eq-true_iff _ _).1 (h, from_le p)
  from_le (functions ps p) = (and-eq-true_iff _ _).1 (from_les ps, from_le p)

  from_les : {up : Bool} {ss ts : Trees} → Les up ss ts → les up ss ts ≡ true
  from_les ends = refl
  from_les (args p ps) = (and-eq-true_iff _ _).1 (from_le p, from_les ps)

mutual
  unfolding le

  to_le : (up : Bool) (s t : Tree) → le up s t ≡ true → Le up s t
  to_le up (flat a) (flat b) e = flats e
  to_le up (flat a) (container p t) e = absurd (false≢true e)
  to_le up (flat a) (function ts u) e = absurd (false≢true e)
  to_le up (container o s) (flat b) e = absurd (false≢true e)
  to_le up (container o s) (container p t) e = let h = (and-eq-true_iff _ _).0 e in containers h.0 (to_le up s t h.1)
  to_le up (container o s) (function ts u) e = absurd (false≢true e)
  to_le up (function ss r) (flat b) e = absurd (false≢true e)
  to_le up (function ss r) (container p t) e = absurd (false≢true e)
  to_le up (function ss r) (function ts u) e = let h = (and-eq-true_iff _ _).0 e in functions (to_les (not up) ss ts h.0) (to_le up r u h.1)

  to_les : (up : Bool) (ss ts : Trees) → les up ss ts ≡ true → Les up ss ts
  to_les up no_args no_args e = ends
  to_les up no_args (arg t ts) e = absurd (false≢true e)
  to_les up (arg s ss) no_args e = absurd (false≢true e)
  to_les up (arg s ss) (arg t ts) e = let h = (and-eq-true_iff _ _).0 e in args (to_le up s t h.0) (to_les up ss ts h.1)

pub le_exactly : (up : Bool) (s t : Tree) → (le up s t ≡ true) ↔ Le up s t
le_exactly up s t = (to_le up s t, from_le)

mutual
  pub Le-refl : (up : Bool) (s : Tree) → Le up s s
  Le-refl up (flat a) = flats (head_refl family level up a)
  Le-refl up (container o s) = containers (head_refl family_op level_op up o) (Le-refl up s)
  Le-refl up (function ss r) = functions (Les-refl (not up) ss) (Le-refl up r)

  pub Les-refl : (up : Bool) (ss : Trees) → Les up ss ss
  Les-refl up no_args = ends
  Les-refl up (arg s ss) = args (Le-refl up s) (Les-refl up ss)

mutual
  Le-trans : {up : Bool} {s t u : Tree} → Le up s t → Le up t u → Le up s u
  Le-trans {up} (flats h) (flats k) = flats (head_trans family level up _ _ _ h k)
  Le-trans {up} (containers h p) (containers k q) = containers (head_trans family_op level_op up _ _ _ h k) (Le-trans p q)
  Le-trans (functions ps p) (functions qs q) = functions (Les-trans ps qs) (Le-trans p q)

  Les-trans : {up : Bool} {ss ts us : Trees} → Les up ss ts → Les up ts us → Les up ss us
  Les-trans ends ends = ends
  Les-trans (args p ps) (args q qs) = args (Le-trans p q) (Les-trans ps qs)

mutual
  Le-antisym : {up : Bool} {s t : Tree} → Le up s t → Le up t s → s ≡ t
  Le-antisym {up} (flats h) (flats k) = ap flat (head_antisym family level up flat_injective _ _ h k)
  Le-antisym {up} (containers h p) (containers k q) = ap₂ container (head_antisym family_op level_op up op_injective _ _ h k) (Le-antisym p q)
  Le-antisym (functions ps p) (functions qs q) = ap₂ function (Les-antisym ps qs) (Le-antisym p q)

  Les-antisym : {up : Bool} {ss ts : Trees} → Les up ss ts → Les up ts ss → ss ≡ ts
  Les-antisym ends ends = refl
  Les-antisym (args p ps) (args q qs) = ap₂ arg (Le-antisym p q) (Les-antisym ps qs)

-- The partial order.
pub le_refl : (up : Bool) (s : Tree) → le up s s ≡ true
le_refl up s = from_le (Le-refl up s)

pub le_trans : (up : Bool) (s t u : Tree) → le up s t ≡ true → le up t u ≡ true → le up s u ≡ true
le_trans up s t u e f = from_le (Le-trans (to_le up s t e) (to_le up t u f))

pub le_antisym : (up : Bool) (s t : Tree) → le up s t ≡ true → le up t s ≡ true → s ≡ t
le_antisym up s t e f = Le-antisym (to_le up s t e) (to_le up t s f)

-- The two directions are each other's converse.
mutual
  unfolding le

  pub le_flips : (up : Bool) (s t : Tree) → le up s t ≡ le (not up) t s
  le_flips up (flat a) (flat b) = head_flips family level up a b
  le_flips up (flat a) (container p t) = refl
  le_flips up (flat a) (function ts u) = refl
  le_flips up (container o s) (flat b) = refl
  le_flips up (container o s) (container p t) = ap₂ ◌&&◌ (head_flips family_op level_op up o p) (le_flips up s t)
  le_flips up (container o s) (function ts u) = refl
  le_flips up (function ss r) (flat b) = refl
  le_flips up (function ss r) (container p t) = refl
  le_flips up (function ss r) (function ts u) = ap₂ ◌&&◌ (les_flips (not up) ss ts) (le_flips up r u)

  pub les_flips : (up : Bool) (ss ts : Trees) → les up ss ts ≡ les (not up) ts ss
  les_flips up no_args no_args = refl
  les_flips up no_args (arg t ts) = refl
  les_flips up (arg s ss) no_args = refl
  les_flips up (arg s ss) (arg t ts) = ap₂ ◌&&◌ (le_flips up s t) (les_flips up ss ts)

module _ (s t : Tree) where
  order_is : (x y : Bool) → le true s t ≡ x → le true t s ≡ y → order s t ≡ order_of x y
  unfolding order
  order_is x y e f = ap₂ order_of e (le_flips false s t ∙ f)

  pub order_says : OrderSays s t (order s t)
  order_says = go (le true s t) refl (le true t s) refl
    where
      go : (x : Bool) → le true s t ≡ x → (y : Bool) → le true t s ≡ y → OrderSays s t (order s t)
      go true e true f = rw (order_is true true e f) (le_antisym true s t e f)
      go true e false f = rw (order_is true false e f) (e, λ i. true≢false (sym (rw i (le_refl true t)) ∙ f))
      go false e true f = rw (order_is false true e f) (f, λ i. true≢false (sym (rw i (le_refl true t)) ∙ e))
      go false e false f = rw (order_is false false e f) (e, f)

strict : (s t : Tree) → le true s t ≡ true → s ≢ t → le true t s ≡ false
strict s t e n = go (le true t s) refl
  where
    go : (x : Bool) → le true t s ≡ x → x ≡ false
    go true f = absurd (n (le_antisym true s t e f))
    go false f = refl

pub order_exactly : (s t : Tree) (answer : PartialOrder) → (order s t ≡ answer) ↔ OrderSays s t answer
order_exactly s t answer = (λ e. rw e at (order_says s t), back answer)
  where
    back : (answer : PartialOrder) → OrderSays s t answer → order s t ≡ answer
    back Equal e = order_is s t true true (rw e (le_refl true t)) (rw e (le_refl true t))
    back Below h = order_is s t true false h.0 (strict s t h.0 h.1)
    back Above h = order_is s t false true (strict t s h.0 (λ e. h.1 (sym e))) h.0
    back Unrelated h = order_is s t false false h.0 h.1

-- the same of the answer of the code
module _ (s t : Tree) where
  ordering_is : (x y : Bool) → le true s t ≡ x → le true t s ≡ y → ordering s t ≡ ordering_of x y
  unfolding ordering
  ordering_is x y e f = ap₂ ordering_of e (le_flips false s t ∙ f)

  pub ordering_says : OrderingSays s t (ordering s t)
  ordering_says = go (le true s t) refl (le true t s) refl
    where
      go : (x : Bool) → le true s t ≡ x → (y : Bool) → le true t s ≡ y → OrderingSays s t (ordering s t)
      go true e true f = rw (ordering_is true true e f) (le_antisym true s t e f)
      go true e false f = rw (ordering_is true false e f) (e, λ i. true≢false (sym (rw i (le_refl true t)) ∙ f))
      go false e true f = rw (ordering_is false true e f) (f, λ i. true≢false (sym (rw i (le_refl true t)) ∙ e))
      go false e false f = rw (ordering_is false false e f) (e, f)

pub ordering_exactly : (s t : Tree) (answer : Answer Ordering) → (ordering s t ≡ answer) ↔ OrderingSays s t answer
ordering_exactly s t answer = (λ e. rw e at (ordering_says s t), back answer)
  where
    back : (answer : Answer Ordering) → OrderingSays s t answer → ordering s t ≡ answer
    back (Some Same) e = ordering_is s t true true (rw e (le_refl true t)) (rw e (le_refl true t))
    back (Some Less) h = ordering_is s t true false h.0 (strict s t h.0 h.1)
    back (Some Greater) h = ordering_is s t false true (strict t s h.0 (λ e. h.1 (sym e))) h.0
    back None h = ordering_is s t false false h.0 h.1

pub order_by_ordering : (s t : Tree) → partial_order_of (ordering s t) ≡ order s t
unfolding order ordering
order_by_ordering s t = go (le true s t) (le false s t)
  where
    go : (x y : Bool) → partial_order_of (ordering_of x y) ≡ order_of x y
    go true true = refl
    go true false = refl
    go false true = refl
    go false false = refl
