-- What a step of 6 or more says: the container that is found of its kind, or a function where none is. By the kinds one by one.
-- Assumes nothing.
use mathlib.Core.Path.{◌≡◌, refl, subst, sym}
use Prim.Native.Nat.{ℕ, zero, suc, ◌-◌, ◌<◌, ◌≤◌}
use native.Mathlib.Omega.{arith}
use Rattle.std.specs.Prelude.{Result, Ok, Err}
use Rattle.resolved_sort.specs.declared.ComplexSort.{ComplexSort}
use Rattle.resolved_sort.specs.declared.NoContainer.{NoContainer}
use Rattle.resolved_sort.specs.Storage.{container_of}
use Rattle.sort_text.specs.Postfix.{op_of}
use Rattle.sort_reader.specs.declared.Step.TheVariants.{Container, Function}
use Rattle.sort_reader.specs.Inner.Run.{SaysStep, arguments_of}

abbrev Says : ℕ → Result ComplexSort NoContainer → Type 0
Says k (Ok o) = (k < 11) × (o ≡ op_of (k - 6))
Says k (Err e) = 11 ≤ k

found : (k : ℕ) → 6 ≤ k → Says k (container_of k)
unfolding container_of
found zero h = absurd (omega (arith, h))
found (suc zero) h = absurd (omega (arith, h))
found (suc (suc zero)) h = absurd (omega (arith, h))
found (suc (suc (suc zero))) h = absurd (omega (arith, h))
found (suc (suc (suc (suc zero)))) h = absurd (omega (arith, h))
found (suc (suc (suc (suc (suc zero))))) h = absurd (omega (arith, h))
found (suc (suc (suc (suc (suc (suc zero)))))) h = (omega arith, refl)
found (suc (suc (suc (suc (suc (suc (suc zero))))))) h = (omega arith, refl)
found (suc (suc (suc (suc (suc (suc (suc (suc zero)))))))) h = (omega arith, refl)
found (suc (suc (suc (suc (suc (suc (suc (suc (suc zero))))))))) h = (omega arith, refl)
found (suc (suc (suc (suc (suc (suc (suc (suc (suc (suc zero)))))))))) h = (omega arith, refl)
found (suc (suc (suc (suc (suc (suc (suc (suc (suc (suc (suc k))))))))))) h = omega arith

pub container_step : (step kind : ℕ) → kind ≡ step → 6 ≤ step → (o : ComplexSort) → Ok o ≡ container_of kind → SaysStep step (Container o)
unfolding SaysStep
container_step step kind e h o f =
    let x : Says step (Ok o) = subst (λ k. Says k (Ok o)) e (subst (Says kind) (sym f) (found kind (omega (arith, e, h)))) in
    (h, x.0, x.1)

pub function_step : (step kind : ℕ) → kind ≡ step → 6 ≤ step → (n : NoContainer) → Err n ≡ container_of kind → (k : ℕ) → k ≡ arguments_of step
    → SaysStep step (Function k)
unfolding SaysStep
function_step step kind e h n f k a =
    let x : Says kind (Err n) = subst (Says kind) (sym f) (found kind (omega (arith, e, h))) in
    (omega (arith, e, x), a)
