-- The order of two heads and the steps between them, by family and level.
use Rattle.std.specs.Prelude.{Bool, true, false, ◌&&◌, cond, ℕ, ◌-◌, eqb, Option, Some, None}
use Rattle.std.specs.declared.cmp.Ordering.{Ordering}
use Rattle.resolved_sort.specs.Order.{le_level, ordering_of}

abbrev pub le_heads : {H : Type 0} → (H → ℕ) → (H → ℕ) → Bool → H → H → Bool
le_heads family level up a b = eqb (family a) (family b) && le_level up (level a) (level b)

unfoldable pub heads_ordering : {H : Type 0} → (H → ℕ) → (H → ℕ) → H → H → Option Ordering
heads_ordering family level a b = ordering_of (le_heads family level true a b) (le_heads family level false a b)

unfoldable pub heads_steps : {H : Type 0} → (H → ℕ) → (H → ℕ) → H → H → Option ℕ
heads_steps family level a b = cond (le_heads family level true a b) (Some (level b - level a)) None
