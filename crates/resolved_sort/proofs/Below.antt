-- A test over all numbers below a bound passes exactly if it passes at each, by induction on the bound; and each of two tests passes where both do. Assumes
-- nothing.
use mathlib.Core.Path.{◌≡◌, refl}
use mathlib.Core.Bool.{Bool, true, ◌&&◌, and-eq-true_iff}
use Prim.Native.Nat.{ℕ, zero, suc, ◌<◌}
use native.Mathlib.Omega.{arith}
use native.Mathlib.Decide.{ℕ_discrete}
use Rattle.resolved_sort.specs.Checks.{all_below}

pub and_left : (a b : Bool) → (a && b) ≡ true → a ≡ true
and_left a b f = ((and-eq-true_iff a b).0 f).0

pub and_right : (a b : Bool) → (a && b) ≡ true → b ≡ true
and_right a b f = ((and-eq-true_iff a b).0 f).1

each_step : (n : ℕ) (p : ℕ → Bool) (k : ℕ) → k < suc n → p n ≡ true → (k < n → p k ≡ true) → Dec (k ≡ n) → p k ≡ true
each_step n p k h e ih (yes d) = rw d e
each_step n p k h e ih (no d) = ih (omega arith)

pub below_each : (n : ℕ) (p : ℕ → Bool) → all_below n p ≡ true → (k : ℕ) → k < n → p k ≡ true
unfolding all_below
below_each zero p h k l = absurd (omega arith)
below_each (suc n) p h k l = let q = (and-eq-true_iff (all_below n p) (p n)).0 h in each_step n p k l q.1 (below_each n p q.0 k) (ℕ_discrete k n)

pub each_below : (n : ℕ) (p : ℕ → Bool) → ((k : ℕ) → k < n → p k ≡ true) → all_below n p ≡ true
unfolding all_below
each_below zero p h = refl
each_below (suc n) p h = (and-eq-true_iff (all_below n p) (p n)).1 (each_below n p (λ k l. h k (omega arith)), h n (omega arith))
