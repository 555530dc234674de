-- The distance of two sorts with sums that do not stop: the clauses of `distance` with `+`. It is
-- there to say what stopping at 255 loses.
use Rattle.std.specs.Prelude.{Bool, not, ℕ, ◌+◌, min}
use Rattle.std.proofs.Math.Option.{Option, none, some}
use Rattle.resolved_sort.specs.Tree.{Tree, flat, container, function, Trees, no_args, arg, level, level_op}
use Rattle.resolved_sort.specs.Order.{Steps, apart, only_if, le_flat, le_op, map₁, map₂, most_steps}

abbrev pub total : Steps → ℕ
total d = d.head + d.interior

unfoldable mutual
  pub exact : Bool → Tree → Tree → Option Steps
  exact up (flat a) (flat b) =
      only_if (le_flat up a b) (some (record { head = apart up (level a) (level b); interior = 0 }))
  exact up (flat a) (container p t) = none
  exact up (flat a) (function ts u) = none
  exact up (container o s) (flat b) = none
  exact up (container o s) (container p t) =
      only_if (le_op up o p)
      (map₁ (λ d. record { head = apart up (level_op o) (level_op p); interior = total d }) (exact up s t))
  exact up (container o s) (function ts u) = none
  exact up (function ss r) (flat b) = none
  exact up (function ss r) (container p t) = none
  exact up (function ss r) (function ts u) =
      map₂ (λ n d. record { head = 0; interior = n + total d }) (exacts (not up) ss ts) (exact up r u)

  pub exacts : Bool → Trees → Trees → Option ℕ
  exacts up no_args no_args = some 0
  exacts up no_args (arg t ts) = none
  exacts up (arg s ss) no_args = none
  exacts up (arg s ss) (arg t ts) = map₂ (λ d n. total d + n) (exact up s t) (exacts up ss ts)

-- Both numbers stopped at 255, once.
abbrev pub stopped : Steps → Steps
stopped d = record { head = min most_steps d.head; interior = min most_steps d.interior }
