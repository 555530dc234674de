-- The variables that a try puts on the trail.
use Rattle.std.specs.Prelude.{◌≡◌, List, ℕ, ◌-◌, ◌<◌, ◌≤◌, get_or}
use Rattle.std.proofs.Math.Option.{none, some}
use Rattle.unification.specs.Nodes.{max_vars, Binds, binding}

-- The trail ts from c on, up to d, and the bindings before it, B, and after it, C, of v variables.
pub record OnTrail (ts : List ℕ) (c d v : ℕ) (B C : Binds) : Type 0 where
  pub listed : (j : ℕ) → c ≤ j → j < d → get_or ts j 0 < v
  pub free_before : (j : ℕ) → c ≤ j → j < d → binding B (get_or ts j 0) ≡ none
  pub bound_after : (j : ℕ) → c ≤ j → j < d → (q : ℕ) × (binding C (get_or ts j 0) ≡ some q)
  pub once : (i j : ℕ) → c ≤ i → i < d → c ≤ j → j < d → get_or ts i 0 ≡ get_or ts j 0 → i ≡ j
  pub every : (u q : ℕ) → binding B u ≡ none → binding C u ≡ some q → (j : ℕ) × (c ≤ j) × (j < d) × (get_or ts j 0 ≡ u)
  pub stays : (u q : ℕ) → binding B u ≡ some q → binding C u ≡ some q
  pub few : (d - c ≤ v) × (v ≤ max_vars)
