-- What goes with the farther of two heads.
use Rattle.std.specs.Prelude.{Bool, cond, ℕ, eqb, Option, Some, None}
use Rattle.resolved_sort.specs.Order.{le_level}

-- Of two heads of one family what goes with the one farther in the direction.
unfoldable pub farther : {H T : Type 0} → (H → ℕ) → (H → ℕ) → Bool → H → H → T → T → Option T
farther family level up a b x y = cond (eqb (family a) (family b)) (Some (cond (le_level up (level a) (level b)) y x)) None
