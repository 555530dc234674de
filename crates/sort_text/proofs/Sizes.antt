-- Room for joins and meets: a join or meet has as many nodes as its first sort, makes at most that many sorts and entries, and never
-- runs out of room where that much is left. By the clauses of `bound` and `make`. Assumes nothing.
use mathlib.Core.Path.{◌≡◌, refl, ap, subst}
use mathlib.Core.Bool.{Bool, true, false, cond, not}
use mathlib.Core.List.{[], ◌∷◌, ◌++◌}
use mathlib.Core.Option.{Option, some, none}
use Prim.Native.Nat.{ℕ, ◌+◌, ◌-◌, ◌≤◌, ◌<◌}
use native.Mathlib.Omega.{arith}
use lib.ListN.{length, length-append}
use lib.Dec.{eqb, leb, ltb}
use borrow.Author.Tests.{lt-ltb, le-leb}
use Rattle.resolved_sort.specs.declared.ComplexSort.{ComplexSort}
use Rattle.resolved_sort.specs.Tree.{Tree, flat, container, function, Trees, no_args, arg, arity, same}
use Rattle.resolved_sort.specs.Order.{bound_flat, bound_op, bound, bounds}
use Rattle.resolved_sort.specs.Interning.{Sorts, member, need, Outcome, made, nothing, full, ◌then◌, where_some, fits, intern, make, makes}
use Rattle.resolved_sort.proofs.Numbers.{true_not_false}
use Rattle.sort_text.specs.Readable.{size, sizes}
use Rattle.std.proofs.lemmas.Bool.{and_from}
use Rattle.sort_text.proofs.Length.{IfSome, map₁_if_some, map₂_if_some, any, if_some_is}

-- join and meet have as many nodes as their sorts
mutual
  unfolding size sizes bound bounds

  size_if_bound : (up : Bool) (s t : Tree) → IfSome (λ u. size u ≡ size s) (bound up s t)
  size_if_bound up (flat a) (flat b) = map₁_if_some (λ c. Unit {0}) (λ u. size u ≡ 1) flat (bound_flat up a b) (any (bound_flat up a b)) (λ c h. refl)
  size_if_bound up (flat a) (container p t) = tt
  size_if_bound up (flat a) (function ts u) = tt
  size_if_bound up (container o s) (flat b) = tt
  size_if_bound up (container o s) (container p t) =
      map₂_if_some (λ q. Unit {0}) (λ v. size v ≡ size s) (λ u. size u ≡ size s + 1) container (bound_op up o p)
      (bound up s t) (any (bound_op up o p)) (size_if_bound up s t)
      (λ q v h k. ap (λ n. n + 1) k)
  size_if_bound up (container o s) (function ts u) = tt
  size_if_bound up (function ss r) (flat b) = tt
  size_if_bound up (function ss r) (container p t) = tt
  size_if_bound up (function ss r) (function ts u) =
      map₂_if_some (λ vs. sizes vs ≡ sizes ss) (λ v. size v ≡ size r) (λ w. size w ≡ sizes ss + size r + 1) function
      (bounds (not up) ss ts) (bound up r u) (sizes_if_bound (not up) ss ts)
      (size_if_bound up r u) (λ vs v h k. omega arith)

  sizes_if_bound : (up : Bool) (ss ts : Trees) → IfSome (λ us. sizes us ≡ sizes ss) (bounds up ss ts)
  sizes_if_bound up no_args no_args = refl
  sizes_if_bound up no_args (arg t ts) = tt
  sizes_if_bound up (arg s ss) no_args = tt
  sizes_if_bound up (arg s ss) (arg t ts) =
      map₂_if_some (λ v. size v ≡ size s) (λ vs. sizes vs ≡ sizes ss) (λ us. sizes us ≡ size s + sizes ss) arg
      (bound up s t) (bounds up ss ts) (size_if_bound up s t) (sizes_if_bound up ss ts)
      (λ v vs h k. omega arith)

pub bound_size : (up : Bool) (s t u : Tree) → bound up s t ≡ some u → size u ≡ size s
bound_size up s t u e = if_some_is (λ v. size v ≡ size s) (bound up s t) u (size_if_bound up s t) e

-- the argument entries of a sort: one for each argument of each of its functions
unfoldable mutual
  pub entries_of : Tree → ℕ
  entries_of (flat a) = 0
  entries_of (container o t) = entries_of t
  entries_of (function ts r) = entries_in ts + entries_of r + arity ts

  pub entries_in : Trees → ℕ
  entries_in no_args = 0
  entries_in (arg t ts) = entries_of t + entries_in ts

mutual
  unfolding size sizes entries_of entries_in arity

  pub entries_below_size : (t : Tree) → entries_of t < size t
  entries_below_size (flat a) = omega arith
  entries_below_size (container o t) = omega (arith, entries_below_size t)
  entries_below_size (function ts r) = omega (arith, entries_and_arity ts, entries_below_size r)

  entries_and_arity : (ts : Trees) → entries_in ts + arity ts ≤ sizes ts
  entries_and_arity no_args = omega arith
  entries_and_arity (arg t ts) = omega (arith, entries_below_size t, entries_and_arity ts)

-- at most k more sorts and j more entries
pub record Spent (k j : ℕ) (S S' : Sorts) : Type 0 where
  pub sorts : length S'.trees ≤ length S.trees + k
  pub rows : S.rows ≤ S'.rows + k
  pub entries : S.entries ≤ S'.entries + j

pub spent_none : (k j : ℕ) (S : Sorts) → Spent k j S S
spent_none k j S = record { sorts = omega arith; rows = omega arith; entries = omega arith }

-- an outcome within k sorts and j entries: room did not end
unfoldable pub Within : {A : Type 0} → (A → Type 0) → ℕ → ℕ → Sorts → Outcome A → Type 0
Within In k j S (made a S') = In a × Spent k j S S'
Within In k j S (nothing S') = Spent k j S S'
Within In k j S (full S') = ⊥

pub within_more : {A : Type 0} (In : A → Type 0) (k j k' j' : ℕ) (S : Sorts) (O : Outcome A) → k ≤ k' → j ≤ j' → Within In k j S O → Within In k' j' S O
unfolding Within
within_more In k j k' j' S (made a S') p q h = (h.0, omega (arith, p, q, h.1))
within_more In k j k' j' S (nothing S') p q h = omega (arith, p, q, h)
within_more In k j k' j' S (full S') p q h = h

pub within_before : {A : Type 0} (In : A → Type 0) (k j k' j' : ℕ) (S S₁ : Sorts) (O : Outcome A) → Spent k j S S₁
    → Within In k' j' S₁ O → Within In (k + k') (j + j') S O
unfolding Within
within_before In k j k' j' S S₁ (made a S') x h = (h.0, omega (arith, x, h.1))
within_before In k j k' j' S S₁ (nothing S') x h = omega (arith, x, h)
within_before In k j k' j' S S₁ (full S') x h = h

pub within_then : {A B : Type 0} (In : A → Type 0) (On : B → Type 0) (k j k' j' : ℕ) (S : Sorts) (O : Outcome A) (f : A → Sorts → Outcome B) → Within In k j S O
    → ((a : A) (S₁ : Sorts) → In a → Spent k j S S₁ → Within On k' j' S₁ (f a S₁)) → Within On (k + k') (j + j') S (O then f)
unfolding Within
within_then In On k j k' j' S (made a S₁) f h g = within_before On k j k' j' S S₁ (f a S₁) h.1 (g a S₁ h.0 h.1)
within_then In On k j k' j' S (nothing S₁) f h g = omega (arith, h)
within_then In On k j k' j' S (full S₁) f h g = h

-- Interning one sort makes at most one, with its entries.
intern_by : (t : Tree) (S : Sorts) (b c : Bool) → c ≡ true
    → Within (λ u. u ≡ t) 1 (need t) S (cond b (made t S)
    (cond c (made t (record { trees = S.trees ++ (t ∷ []); rows = S.rows - 1; entries = S.entries - need t }))
    (full S)))
unfolding Within
intern_by t S true c e = (refl, spent_none 1 (need t) S)
intern_by t S false true e =
    (refl, record { sorts = simp length-append (omega arith); rows = omega arith; entries = omega arith })
intern_by t S false false e = true_not_false false e refl

pub intern_within : (t : Tree) (S : Sorts) → 0 < S.rows → need t ≤ S.entries → Within (λ u. u ≡ t) 1 (need t) S (intern t S)
unfolding intern
intern_within t S p q = intern_by t S (member S.trees t) (fits t S) (and_from (ltb 0 S.rows)
    (leb (need t) S.entries) (lt-ltb 0 S.rows p) (le-leb (need t) S.entries q))

-- join and meet
abbrev pub AnyTree : Tree → Type 0
AnyTree t = Unit {0}

some_within : {A : Type 0} (k j : ℕ) (S : Sorts) (x : Option A) (f : A → Outcome Tree)
    → ((a : A) → Within AnyTree k j S (f a)) → Within AnyTree k j S (where_some x S f)
unfolding Within
some_within k j S none f h = spent_none k j S
some_within k j S (some a) f h = h a

by_test : {A : Type 0} (P : Outcome A → Type 0) (b : Bool) (x y : Outcome A) → P x → P y → P (elim b [ true ↦ x | false ↦ y ])
by_test P true x y p q = p
by_test P false x y p q = q

pub made_within : {A : Type 0} (In : A → Type 0) (k j : ℕ) (a : A) (S : Sorts) → In a → Within In k j S (made a S)
unfolding Within
made_within In k j a S h = (h, spent_none k j S)

none_within : {A : Type 0} (In : A → Type 0) (k j : ℕ) (S : Sorts) → Within In k j S (nothing S)
unfolding Within
none_within In k j S = spent_none k j S

pub within_weaker : {A : Type 0} (In On : A → Type 0) (k j : ℕ) (S : Sorts) (O : Outcome A) → ((a : A) → In a → On a) → Within In k j S O → Within On k j S O
unfolding Within
within_weaker In On k j S (made a S') f h = (f a h.0, h.1)
within_weaker In On k j S (nothing S') f h = h
within_weaker In On k j S (full S') f h = h

container_within : (o : ComplexSort) (t : Tree) (S : Sorts) → 0 < S.rows → Within AnyTree 1 0 S (intern (container o t) S)
unfolding need
container_within o t S p = within_weaker (λ u. u ≡ container o t) AnyTree 1 0 S (intern (container o t) S) (λ u e. tt)
    (intern_within (container o t) S p (omega arith))

function_within : (ts : Trees) (r : Tree) (j : ℕ) (S : Sorts) → 0 < S.rows → arity ts ≡ j → j ≤ S.entries → Within AnyTree 1 j S (intern (function ts r) S)
unfolding need
function_within ts r j S p e q =
    within_weaker (λ u. u ≡ function ts r) AnyTree 1 j S (intern (function ts r) S) (λ u h. tt)
    (subst (λ i. Within (λ u. u ≡ function ts r) 1 i S (intern (function ts r) S)) e (intern_within (function ts r) S p (omega arith)))

-- answers with as many arguments as these
abbrev pub AsMany : Trees → Trees → Type 0
AsMany ss us = arity us ≡ arity ss

one_more : (v s : Tree) (vs ss : Trees) → arity vs ≡ arity ss → arity (arg v vs) ≡ arity (arg s ss)
unfolding arity
one_more v s vs ss m = ap (λ n. n + 1) m

mutual
  unfolding make makes size sizes entries_of entries_in

  -- A join or meet makes at most as many sorts as its first sort has nodes, and does not run out of room where so many fit.
  pub make_within : (up : Bool) (s t : Tree) (S : Sorts) → size s ≤ S.rows → entries_of s ≤ S.entries → Within AnyTree (size s) (entries_of s) S (make up s t S)
  make_within up (flat a) (flat b) S p q = some_within 1 0 S (bound_flat up a b) (λ c. made (flat c) S) (λ c. made_within AnyTree 1 0 (flat c) S tt)
  make_within up (flat a) (container o t) S p q = none_within AnyTree 1 0 S
  make_within up (flat a) (function ts u) S p q = none_within AnyTree 1 0 S
  make_within up (container o s) (flat b) S p q = none_within AnyTree (size s + 1) (entries_of s) S
  make_within up (container o s) (container o' t) S p q =
      by_test (Within AnyTree (size s + 1) (entries_of s) S) (same (container o s) (container o' t)) _ _
      (made_within AnyTree (size s + 1) (entries_of s) (container o s) S tt)
      (some_within (size s + 1) (entries_of s) S (bound_op up o o') _
      (λ c. within_more AnyTree (size s + 1) (entries_of s + 0) (size s + 1) (entries_of s) S _ (omega arith) (omega arith)
      (within_then AnyTree AnyTree (size s) (entries_of s) 1 0 S (make up s t S) _ (make_within up s t S (omega arith) q)
      (λ v S₁ h x. container_within c v S₁ (omega (arith, x))))))
  make_within up (container o s) (function ts u) S p q = none_within AnyTree (size s + 1) (entries_of s) S
  make_within up (function ss r) (flat b) S p q = none_within AnyTree (sizes ss + size r + 1) (entries_in ss + entries_of r + arity ss) S
  make_within up (function ss r) (container o t) S p q = none_within AnyTree (sizes ss + size r + 1) (entries_in ss + entries_of r + arity ss) S
  make_within up (function ss r) (function ts u) S p q =
      let k = sizes ss + size r + 1 in
      let j = entries_in ss + entries_of r + arity ss in
      by_test (Within AnyTree k j S) (same (function ss r) (function ts u)) _ _ (made_within AnyTree k j (function ss r) S tt)
      (by_test (Within AnyTree k j S) (eqb (arity ss) (arity ts)) _ _
      (within_more AnyTree (sizes ss + (size r + 1)) (entries_in ss + (entries_of r + arity ss)) k j S _ (omega arith) (omega arith)
      (within_then (AsMany ss) AnyTree (sizes ss) (entries_in ss) (size r + 1) (entries_of r + arity ss) S
      (makes (not up) ss ts S) _ (makes_within (not up) ss ts S (omega arith) (omega arith))
      (λ vs S₁ m x. within_then AnyTree AnyTree (size r) (entries_of r) 1 (arity ss) S₁ (make up r u S₁) _
      (make_within up r u S₁ (omega (arith, x)) (omega (arith, x)))
      (λ v S₂ h y. function_within vs v (arity ss) S₂ (omega (arith, x, y)) m (omega (arith, x, y))))))
      (none_within AnyTree k j S))

  makes_within : (up : Bool) (ss ts : Trees) (S : Sorts) → sizes ss ≤ S.rows → entries_in ss ≤ S.entries
      → Within (AsMany ss) (sizes ss) (entries_in ss) S (makes up ss ts S)
  makes_within up no_args no_args S p q = made_within (AsMany no_args) 0 0 no_args S refl
  makes_within up no_args (arg t ts) S p q = none_within (AsMany no_args) 0 0 S
  makes_within up (arg s ss) no_args S p q = none_within (AsMany (arg s ss)) (size s + sizes ss) (entries_of s + entries_in ss) S
  makes_within up (arg s ss) (arg t ts) S p q =
      within_then AnyTree (AsMany (arg s ss)) (size s) (entries_of s) (sizes ss) (entries_in ss) S (make up s t S) _
      (make_within up s t S (omega arith) (omega arith))
      (λ v S₁ h x. within_more (AsMany (arg s ss)) (sizes ss + 0) (entries_in ss + 0) (sizes ss) (entries_in ss) S₁ _ (omega arith) (omega arith)
      (within_then (AsMany ss) (AsMany (arg s ss)) (sizes ss) (entries_in ss) 0 0 S₁ (makes up ss ts S₁) _
      (makes_within up ss ts S₁ (omega (arith, x)) (omega (arith, x)))
      (λ vs S₂ m y. made_within (AsMany (arg s ss)) 0 0 (arg v vs) S₂ (one_more v s vs ss m))))

-- no outcome within is full
pub within_not_full : {A : Type 0} (In : A → Type 0) (k j : ℕ) (S S' : Sorts) (O : Outcome A) → Within In k j S O → O ≡ full S' → ⊥
unfolding Within
within_not_full In k j S S' O h e = subst (Within In k j S) e h

pub make_not_full : (up : Bool) (s t : Tree) (S S' : Sorts) → size s ≤ S.rows → size s ≤ S.entries → make up s t S ≡ full S' → ⊥
make_not_full up s t S S' p q e =
    within_not_full AnyTree (size s) (entries_of s) S S' (make up s t S) (make_within up s t S p (omega (arith, entries_below_size s))) e
