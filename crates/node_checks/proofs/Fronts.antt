-- A test over all numbers below a bound, taken from the front; and two tests that agree below it. By induction on the bound. Assumes nothing.
use mathlib.Core.Path.{◌≡◌, refl, ap, ap₂, sym, ◌∙◌}
use mathlib.Core.Bool.{Bool, ◌&&◌, and-true, and_assoc}
use Prim.Native.Nat.{ℕ, zero, suc, ◌<◌}
use native.Mathlib.Omega.{arith}
use Rattle.resolved_sort.specs.Checks.{all_below}

pub from_front : (n : ℕ) (p : ℕ → Bool) → all_below (suc n) p ≡ (p 0 && all_below n (λ i. p (suc i)))
unfolding all_below
from_front zero p = sym (and-true (p 0))
from_front (suc n) p = ap (λ b. b && p (suc n)) (from_front n p) ∙ and_assoc (p 0) (all_below n (λ i. p (suc i))) (p (suc n))

pub same_below : (n : ℕ) (p q : ℕ → Bool) → ((i : ℕ) → i < n → p i ≡ q i) → all_below n p ≡ all_below n q
unfolding all_below
same_below zero p q h = refl
same_below (suc n) p q h = ap₂ (λ (x y : Bool). x && y) (same_below n p q (λ i l. h i (omega (arith, l)))) (h n (omega arith))
