-- A place taken apart: a sort below 1,024, else a node, its number counted from there.
use Rattle.std.specs.Prelude.{◌≡◌, ℕ, ◌-◌, ◌<◌, ◌≤◌}
use Rattle.resolved_sort.specs.Storage.{max_sorts}
use Rattle.unification.specs.declared.Place.{Place}
use Rattle.unification.specs.declared.Place.TheVariants.{Sort, Node}

unfoldable pub TakenApart : ℕ → Place → Type 0
TakenApart p (Sort s) = (p < max_sorts) × (s.0 ≡ p)
TakenApart p (Node n) = (max_sorts ≤ p) × (n.0 ≡ p - max_sorts)
