-- Words that are no kind of a name, or of a literal. By the first numbers one by one. Assumes nothing.
use mathlib.Core.Path.{◌≡◌, refl}
use Prim.Native.Nat.{ℕ, zero, suc}
use Rattle.std.specs.Prelude.{Err}
use Rattle.inference.specs.Kinds.{kind_of_name, kind_of_literal}

pub no_name : (n : ℕ) → (n ≡ 1 → ⊥) → (n ≡ 2 → ⊥) → (n ≡ 3 → ⊥) → Err (record { 0 = n }) ≡ kind_of_name n
unfolding kind_of_name
no_name zero a b c = refl
no_name (suc zero) a b c = absurd (a refl)
no_name (suc (suc zero)) a b c = absurd (b refl)
no_name (suc (suc (suc zero))) a b c = absurd (c refl)
no_name (suc (suc (suc (suc n)))) a b c = refl

pub no_literal : (n : ℕ) → (n ≡ 0 → ⊥) → (n ≡ 1 → ⊥) → Err (record { 0 = n }) ≡ kind_of_literal n
unfolding kind_of_literal
no_literal zero a b = absurd (a refl)
no_literal (suc zero) a b = absurd (b refl)
no_literal (suc (suc n)) a b = refl
