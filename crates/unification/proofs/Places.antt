-- Places among n sorts and m nodes: which numbers they are, that they stay places among more, and that checked bindings name them. By the tests.
-- Assumes nothing.
use mathlib.Core.Path.{◌≡◌, refl}
use mathlib.Core.List.{[], ◌∷◌}
use mathlib.Core.Option.{Option, none, some}
use mathlib.Core.Bool.{Bool, true, false, cond, and-eq-true_iff}
use Prim.Native.Nat.{ℕ, zero, suc, ◌+◌, ◌-◌, ◌<◌, ◌≤◌}
use native.Mathlib.Omega.{arith}
use lib.Dec.{ltb}
use borrow.Author.Tests.{ltb-true, lt-ltb, le-ltb}
use Rattle.resolved_sort.specs.Storage.{max_sorts}
use Rattle.resolved_sort.proofs.Reached.{no_confusion}
use Rattle.unification.specs.Nodes.{is_sort, is_place, Binds, binding}
use Rattle.unification.specs.NodeChecks.{binding_fine, bindings_fine}

pub sort_is_place : (n m p : ℕ) → n ≤ max_sorts → p < n → is_place n m p ≡ true
unfolding is_place
sort_is_place n m p l x = rw (lt-ltb p max_sorts (omega (arith, x, l)), lt-ltb p n x)

pub sort_below : (n m p : ℕ) → p < max_sorts → is_place n m p ≡ true → p < n
unfolding is_place
sort_below n m p l e = ltb-true p n (rw (lt-ltb p max_sorts l) at e)

pub node_below : (n m p : ℕ) → max_sorts ≤ p → is_place n m p ≡ true → p - max_sorts < m
unfolding is_place
node_below n m p l e = ltb-true (p - max_sorts) m (rw (le-ltb p max_sorts l) at e)

-- a place among n sorts and i nodes is below the place of node i
pub place_below : (n i q : ℕ) → n ≤ max_sorts → is_place n i q ≡ true → q < max_sorts + i
unfolding is_place
place_below n i q l e = go (is_sort q) refl e
  where
    go : (b : Bool) → is_sort q ≡ b → cond b (ltb q n) (ltb (q - max_sorts) i) ≡ true → q < max_sorts + i
    go true s e = omega (arith, ltb-true q n e, l)
    go false s e = omega (arith, ltb-true (q - max_sorts) i e)

-- a place among fewer sorts and nodes is a place
pub place_longer : (n n' m m' p : ℕ) → n ≤ n' → m ≤ m' → is_place n m p ≡ true → is_place n' m' p ≡ true
unfolding is_place
place_longer n n' m m' p l k e = go (is_sort p) e
  where
    go : (b : Bool) → cond b (ltb p n) (ltb (p - max_sorts) m) ≡ true → cond b (ltb p n') (ltb (p - max_sorts) m') ≡ true
    go true e = lt-ltb p n' (omega (arith, ltb-true p n e, l))
    go false e = lt-ltb (p - max_sorts) m' (omega (arith, ltb-true (p - max_sorts) m e, k))

-- what a variable is bound to is a place
pub bound_is_place : (n m : ℕ) (B : Binds) (x q : ℕ) → bindings_fine n m B ≡ true → binding B x ≡ some q → is_place n m q ≡ true
unfolding bindings_fine
bound_is_place n m [] x q f e = no_confusion (cc)
bound_is_place n m (b ∷ B) zero q f e = rw e at ((and-eq-true_iff (binding_fine n m b) (bindings_fine n m B)).0 f).0
bound_is_place n m (b ∷ B) (suc x) q f e = bound_is_place n m B x q ((and-eq-true_iff (binding_fine n m b) (bindings_fine n m B)).0 f).1 e

pub bindings_longer : (n n' m m' : ℕ) (B : Binds) → n ≤ n' → m ≤ m' → bindings_fine n m B ≡ true → bindings_fine n' m' B ≡ true
unfolding bindings_fine
bindings_longer n n' m m' [] l k e = refl
bindings_longer n n' m m' (b ∷ B) l k e =
    let a = (and-eq-true_iff (binding_fine n m b) (bindings_fine n m B)).0 e in
    (and-eq-true_iff (binding_fine n' m' b) (bindings_fine n' m' B)).1 (go b a.0, bindings_longer n n' m m' B l k a.1)
  where
    go : (b : Option ℕ) → binding_fine n m b ≡ true → binding_fine n' m' b ≡ true
    go none e = refl
    go (some q) e = place_longer n n' m m' q l k e
