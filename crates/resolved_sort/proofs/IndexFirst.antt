-- The first number that a test finds: where only one is found it is that one, and where none is it is the end. And what is
-- found below the end passes the test. Assumes nothing.
use mathlib.Core.Path.{◌≡◌, refl, ◌∙◌, ap, subst}
use mathlib.Core.Bool.{Bool, true, false}
use Prim.Native.Nat.{ℕ, zero, suc, ◌+◌, ◌<◌, ◌≤◌}
use native.Mathlib.Omega.{arith}
use native.Mathlib.Decide.{ℕ_discrete}
use Rattle.resolved_sort.specs.Rows.{first_from}
use Rattle.resolved_sort.proofs.Numbers.{true_not_false}

module _ (p : ℕ → Bool) where
  first_here : (k i : ℕ) → p i ≡ true → first_from p (suc k) i ≡ i
  unfolding first_from
  first_here k i e = rw e

  first_later : (k i : ℕ) → p i ≡ false → first_from p (suc k) i ≡ first_from p k (i + 1)
  unfolding first_from
  first_later k i e = rw e

  first_end : (i : ℕ) → first_from p zero i ≡ i
  unfolding first_from
  first_end i = refl

  pub first_none : (k i : ℕ) → ((j : ℕ) → j < i + k → p j ≡ false) → first_from p k i ≡ i + k
  first_none zero i f = omega (arith, first_end i)
  first_none (suc k) i f = omega (arith, first_later k i (f i (omega arith)), first_none k (i + 1) (λ j h. f j (omega arith)))

  only_by : (k i m : ℕ) → i ≤ m → p m ≡ true → ((j : ℕ) → j < m → p j ≡ false) → Dec (i ≡ m) → (i < m → first_from p k (i + 1) ≡ m)
      → first_from p (suc k) i ≡ m
  only_by k i m h e f (yes d) g = first_here k i (rw d e) ∙ d
  only_by k i m h e f (no d) g = first_later k i (f i (omega arith)) ∙ g (omega arith)

  pub first_only : (k i m : ℕ) → i ≤ m → m < i + k → p m ≡ true → ((j : ℕ) → j < m → p j ≡ false) → first_from p k i ≡ m
  first_only zero i m h l e f = absurd (omega arith)
  first_only (suc k) i m h l e f = only_by k i m h e f (ℕ_discrete i m) (λ q. first_only k (i + 1) m (omega arith) (omega arith) e f)

  found_by : (k i : ℕ) (b : Bool) → p i ≡ b → first_from p (suc k) i < i + suc k
      → (first_from p k (i + 1) < i + 1 + k → p (first_from p k (i + 1)) ≡ true) → p (first_from p (suc k) i) ≡ true
  found_by k i true e h f = ap p (first_here k i e) ∙ e
  found_by k i false e h f = ap p (first_later k i e) ∙ f (omega (arith, first_later k i e))

  pub first_found : (k i : ℕ) → first_from p k i < i + k → p (first_from p k i) ≡ true
  first_found zero i h = absurd (omega (arith, first_end i))
  first_found (suc k) i h = found_by k i (p i) refl h (first_found k (i + 1))

  most_by : (k i j : ℕ) → i ≤ j → p j ≡ true → (b : Bool) → p i ≡ b → (i < j → first_from p k (i + 1) ≤ j) → first_from p (suc k) i ≤ j
  most_by k i j h e true q f = omega (arith, first_here k i q)
  most_by k i j h e false q f =
      let d : i ≡ j → ⊥ = λ z. true_not_false (p j) e (subst (λ x. p x ≡ false) z q) in omega (arith, first_later k i q, f (omega arith))

  pub first_at_most : (k i j : ℕ) → i ≤ j → j < i + k → p j ≡ true → first_from p k i ≤ j
  first_at_most zero i j h l e = absurd (omega arith)
  first_at_most (suc k) i j h l e = most_by k i j h e (p i) refl (λ q. first_at_most k (i + 1) j (omega arith) (omega arith) e)
