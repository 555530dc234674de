-- Join and meet are the least upper and the greatest lower bound, and exist exactly if some bound exists: one law over the
-- direction. The least bounds of a sort's parts make the sort's; the parts of flat sorts are heads. Assumes nothing.
use mathlib.Core.Path.{◌≡◌, refl, sym, ◌∙◌}
use mathlib.Core.Bool.{Bool, true, false, not}
use mathlib.Core.Option.{Option, none, some, bind}
use mathlib.Core.Logic.{◌↔◌}
use Prim.Native.Nat.{ℕ}
use native.Mathlib.Omega.{arith}
use Rattle.resolved_sort.specs.declared.ComplexSort.{ComplexSort}
use Rattle.resolved_sort.specs.Tree.{Flat, Tree, flat, container, function, Trees, no_args, arg, arity}
use Rattle.resolved_sort.specs.Order.{le_flat, le_op, le, bound, bounds, bound_flat, bound_op, join, meet, map₁}
use Rattle.resolved_sort.proofs.Least.{LeastBound, least_moves, least_of_same, least_unique, least_of_two, least_of_three}
use Rattle.resolved_sort.proofs.Heads.{flat_bound, op_bound}
use Rattle.resolved_sort.proofs.Order.{Le, flats, containers, functions, Les, ends, args, le_exactly, le_refl, le_trans, le_antisym, le_flips}

-- Sorts with a bound are of one kind, and lists of one length.
abbrev kind : Tree → ℕ
kind (flat a) = 0
kind (container o s) = 1
kind (function ss r) = 2

one_kind : {up : Bool} {s t w : Tree} → Le up s w → Le up t w → kind s ≡ kind t
one_kind (flats h) (flats k) = refl
one_kind (containers h p) (containers k q) = refl
one_kind (functions ps p) (functions qs q) = refl

one_arity : {up : Bool} {ss ts ws : Trees} → Les up ss ws → Les up ts ws → arity ss ≡ arity ts
unfolding arity
one_arity ends ends = refl
one_arity (args p ps) (args q qs) = omega (arith, one_arity ps qs)

-- What lies beyond two sorts of one kind is of that kind, and its parts lie beyond their parts.
beyond_flats : {up : Bool} {a b : Flat} {w : Tree} → Le up (flat a) w → Le up (flat b) w
    → (c : Flat) × (w ≡ flat c) × (le_flat up a c ≡ true) × (le_flat up b c ≡ true)
beyond_flats (flats h) (flats k) = (_, refl, h, k)

beyond_containers : (up : Bool) (o p : ComplexSort) (s t w : Tree) → Le up (container o s) w → Le up (container p t) w
    → (q : ComplexSort) × (v : Tree) × (w ≡ container q v) × ((le_op up o q ≡ true) × (le_op up p q ≡ true)) × (Le up s v × Le up t v)
beyond_containers up o p s t w (containers h x) (containers k y) = (_, _, refl, (h, k), (x, y))

beyond_functions : (up : Bool) (ss ts : Trees) (r u w : Tree) → Le up (function ss r) w → Le up (function ts u) w
    → (vs : Trees) × (v : Tree) × (w ≡ function vs v) × (Les (not up) ss vs × Les (not up) ts vs) × (Le up r v × Le up u v)
beyond_functions up ss ts r u w (functions xs x) (functions ys y) = (_, _, refl, (xs, ys), (x, y))

beyond_args : (up : Bool) (s t : Tree) (ss ts ws : Trees) → Les up (arg s ss) ws → Les up (arg t ts) ws
    → (v : Tree) × (vs : Trees) × (ws ≡ arg v vs) × (Le up s v × Le up t v) × (Les up ss vs × Les up ts vs)
beyond_args up s t ss ts ws (args x xs) (args y ys) = (_, _, refl, (x, y), (xs, ys))

bound_of_flats : (up : Bool) (a b : Flat) (x : Option Flat) → LeastBound (λ a b. le_flat up a b ≡ true) a b x
    → LeastBound (Le up) (flat a) (flat b) (map₁ flat x)
bound_of_flats up a b none h = λ w p. let z = beyond_flats p.0 p.1 in h z.0 (z.2, z.3)
bound_of_flats up a b (some u) h =
    ((flats h.0.0, flats h.0.1), λ w p. let z = beyond_flats p.0 p.1 in rw z.1 (flats (h.1 z.0 (z.2, z.3))))

mutual
  unfolding bound arity

  Le-bound : (up : Bool) (s t : Tree) → LeastBound (Le up) s t (bound up s t)
  Le-bound up (flat a) (flat b) = bound_of_flats up a b (bound_flat up a b) (flat_bound up a b)
  Le-bound up (flat a) (container p t) = λ w h. omega (arith, one_kind h.0 h.1)
  Le-bound up (flat a) (function ts u) = λ w h. omega (arith, one_kind h.0 h.1)
  Le-bound up (container o s) (flat b) = λ w h. omega (arith, one_kind h.0 h.1)
  Le-bound up (container o s) (container p t) =
      least_of_two (λ o p. le_op up o p ≡ true) (Le up) (Le up) container (λ o p s t. containers) (beyond_containers
      up) o p s t (bound_op up o p) (bound up s t) (op_bound up o p) (Le-bound up s t)
  Le-bound up (container o s) (function ts u) = λ w h. omega (arith, one_kind h.0 h.1)
  Le-bound up (function ss r) (flat b) = λ w h. omega (arith, one_kind h.0 h.1)
  Le-bound up (function ss r) (container p t) = λ w h. omega (arith, one_kind h.0 h.1)
  Le-bound up (function ss r) (function ts u) =
      least_of_two (Les (not up)) (Le up) (Le up) function (λ ss ts r u. functions) (beyond_functions up) ss ts r u
      (bounds (not up) ss ts) (bound up r u) (Les-bound (not up) ss ts) (Le-bound up r u)

  Les-bound : (up : Bool) (ss ts : Trees) → LeastBound (Les up) ss ts (bounds up ss ts)
  Les-bound up no_args no_args = ((ends, ends), λ w p. p.0)
  Les-bound up no_args (arg t ts) = λ w h. omega (arith, one_arity h.0 h.1)
  Les-bound up (arg s ss) no_args = λ w h. omega (arith, one_arity h.0 h.1)
  Les-bound up (arg s ss) (arg t ts) =
      least_of_two (Le up) (Les up) (Les up) arg (λ s t ss ts. args) (beyond_args up) s t ss ts (bound up s t)
      (bounds up ss ts) (Le-bound up s t) (Les-bound up ss ts)

-- The order as a relation.
abbrev pub IsLe : Bool → Tree → Tree → Type 0
IsLe up s t = le up s t ≡ true

module _ (up : Bool) where
  -- The whole law: `bound` is the least bound, or none where there is no bound.
  pub bound_least : (s t : Tree) → LeastBound (IsLe up) s t (bound up s t)
  bound_least s t = least_moves (Le up) (IsLe up) (le_exactly up) s t (bound up s t) (Le-bound up s t)

  pub bound_is_bound : (s t u : Tree) → bound up s t ≡ some u → (le up s u ≡ true) × (le up t u ≡ true)
  bound_is_bound s t u e = (rw e at (bound_least s t)).0

  pub bound_is_least : (s t v : Tree) → le up s v ≡ true → le up t v ≡ true → (u : Tree) × (bound up s t ≡ some u) × (le up u v ≡ true)
  bound_is_least s t v p q = go (bound up s t) (bound_least s t)
    where
      go : (x : Option Tree) → LeastBound (IsLe up) s t x → (u : Tree) × (x ≡ some u) × (le up u v ≡ true)
      go none h = absurd (h v (p, q))
      go (some u) h = (u, refl, h.1 v (p, q))

  pub bound_exists_exactly : (s t : Tree) → ((u : Tree) × (bound up s t ≡ some u)) ↔ ((v : Tree) × (le up s v ≡ true) × (le up t v ≡ true))
  bound_exists_exactly s t = (
    λ h. let k = bound_is_bound s t h.0 h.1 in (h.0, k.0, k.1),
    λ h. let k = bound_is_least s t h.0 h.1 h.2 in (k.0, k.1),
  )

  -- Idempotent, commutative and associative, as least bounds are.
  pub bound_idempotent : (s : Tree) → bound up s s ≡ some s
  bound_idempotent s = least_unique (IsLe up) (le_antisym up) _ (bound up s s) (some s) (bound_least s s) ((le_refl up s, le_refl up s), λ c p. p.0)

  pub bound_commutes : (s t : Tree) → bound up s t ≡ bound up t s
  bound_commutes s t =
      least_unique (IsLe up) (le_antisym up) _ (bound up s t) (bound up t s) (bound_least s t)
      (least_of_same (IsLe up) _ _ (λ c p. (p.1, p.0)) (λ c p. (p.1, p.0)) (bound up t s) (bound_least t s))

  pub bound_associates : (s t u : Tree) → bind (bound up s t) (λ x. bound up x u) ≡ bind (bound up t u) (bound up s)
  bound_associates s t u =
      least_unique (IsLe up) (le_antisym up) _ _ _ (least_of_three (IsLe up) (le_trans up) s t u (bound up s t)
      (λ x. bound up x u) (bound_least s t) (λ x. bound_least x u))
      (least_of_same (IsLe up) _ _ (λ c p. (p.2, p.0, p.1)) (λ c p. (p.1, p.2, p.0)) (bind (bound up t u) (bound up s))
      (least_of_three (IsLe up) (le_trans up) t u s (bound up t u) (bound up s) (bound_least t u) (λ x. rw (bound_commutes s x) (bound_least x s))))

-- Order and bounds say each other: s is equal to or below t exactly if t is their join, exactly if s is their meet. Each of
-- join and meet absorbs the other.
module _ (up : Bool) where
  pub le_exactly_bound : (s t : Tree) → (le up s t ≡ true) ↔ (bound up s t ≡ some t)
  le_exactly_bound s t = (
    λ e. least_unique (IsLe up) (le_antisym up) _ (bound up s t) (some t) (bound_least up s t) ((e, le_refl up t), λ c p. p.1),
    λ e. (bound_is_bound up s t t e).0,
  )

  pub bound_absorbs : (s t u : Tree) → bound up s t ≡ some u → bound (not up) u s ≡ some s
  bound_absorbs s t u e = le_exactly_bound_other s u (bound_is_bound up s t u e).0
    where
      le_exactly_bound_other : (s u : Tree) → le up s u ≡ true → bound (not up) u s ≡ some s
      le_exactly_bound_other s u h =
          least_unique (IsLe (not up)) (le_antisym (not up)) _ (bound (not up) u s) (some s) (bound_least (not up) u s)
          ((sym (le_flips up s u) ∙ h, le_refl (not up) s), λ c p. p.1)

-- The two directions in words of "equal to or below" alone.
module _ (s t : Tree) where
  pub below_exactly_join : (le true s t ≡ true) ↔ (join s t ≡ some t)
  below_exactly_join = le_exactly_bound true s t

  pub below_exactly_meet : (le true s t ≡ true) ↔ (meet s t ≡ some s)
  below_exactly_meet = (
    λ e. bound_commutes false s t ∙ (le_exactly_bound false t s).0 (sym (le_flips true s t) ∙ e),
    λ e. le_flips true s t ∙ (le_exactly_bound false t s).1 (bound_commutes false t s ∙ e),
  )

  pub join_absorbs_meet : (u : Tree) → meet s t ≡ some u → join s u ≡ some s
  join_absorbs_meet u e = bound_commutes true s u ∙ bound_absorbs false s t u e

  pub meet_absorbs_join : (u : Tree) → join s t ≡ some u → meet s u ≡ some s
  meet_absorbs_join u e = bound_commutes false s u ∙ bound_absorbs true s t u e

  pub join_is_upper : (u : Tree) → join s t ≡ some u → (le true s u ≡ true) × (le true t u ≡ true)
  join_is_upper u e = bound_is_bound true s t u e

  pub join_is_least : (v : Tree) → le true s v ≡ true → le true t v ≡ true → (u : Tree) × (join s t ≡ some u) × (le true u v ≡ true)
  join_is_least v p q = bound_is_least true s t v p q

  pub meet_is_lower : (u : Tree) → meet s t ≡ some u → (le true u s ≡ true) × (le true u t ≡ true)
  meet_is_lower u e = let h = bound_is_bound false s t u e in (le_flips true u s ∙ h.0, le_flips true u t ∙ h.1)

  pub meet_is_greatest : (v : Tree) → le true v s ≡ true → le true v t ≡ true → (u : Tree) × (meet s t ≡ some u) × (le true v u ≡ true)
  meet_is_greatest v p q =
      let h = bound_is_least false s t v (le_flips false s v ∙ p) (le_flips false t v ∙ q) in
      (h.0, h.1, le_flips true v h.0 ∙ h.2)

  pub join_exists_exactly : ((u : Tree) × (join s t ≡ some u)) ↔ ((v : Tree) × (le true s v ≡ true) × (le true t v ≡ true))
  join_exists_exactly = bound_exists_exactly true s t

  pub meet_exists_exactly : ((u : Tree) × (meet s t ≡ some u)) ↔ ((v : Tree) × (le true v s ≡ true) × (le true v t ≡ true))
  meet_exists_exactly = (
    λ h. let k = meet_is_lower h.0 h.1 in (h.0, k.0, k.1),
    λ h. let k = meet_is_greatest h.0 h.1 h.2 in (k.0, k.1),
  )
