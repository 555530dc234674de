-- What a place is, by what was found when it was taken apart. Assumes nothing.
use mathlib.Core.Path.{◌≡◌, refl, ap, subst, ◌∙◌}
use mathlib.Core.List.{List}
use Prim.Native.Nat.{ℕ, ◌-◌, ◌<◌, ◌≤◌}
use Rattle.resolved_sort.specs.declared.SortId.{SortId}
use Rattle.resolved_sort.specs.Storage.{max_sorts}
use Rattle.unification.specs.declared.NodeId.{NodeId}
use Rattle.unification.specs.declared.InferSort.{InferSort}
use Rattle.unification.specs.declared.Place.{Place}
use Rattle.unification.specs.declared.Place.TheVariants.{Sort, Node}
use Rattle.unification.specs.Inner.Apart.{TakenApart}
use Rattle.unification.specs.Nodes.{node_at}

module _ (p : ℕ) (x : Place) (t : TakenApart p x) where
  pub is_sort_lem : (s : SortId) → x ≡ Sort s → (p < max_sorts) × (s.0 ≡ p)
  unfolding TakenApart
  is_sort_lem s e = subst (TakenApart p) e t

  pub is_node : (n : NodeId) → x ≡ Node n → (max_sorts ≤ p) × (n.0 ≡ p - max_sorts)
  unfolding TakenApart
  is_node n e = subst (TakenApart p) e t

-- what stands at a node stands at its place
module _ (p : ℕ) (n : NodeId) (t : TakenApart p (Node n)) where
  pub above_sorts : max_sorts ≤ p
  above_sorts = (is_node p (Node n) t n refl).0

  pub stands_at_place : (ns : List ℕ) {r : InferSort} → r ≡ node_at ns n.0 → r ≡ node_at ns (p - max_sorts)
  stands_at_place ns e = e ∙ ap (node_at ns) (is_node p (Node n) t n refl).1
