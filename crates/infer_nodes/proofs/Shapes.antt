-- The shape at a place of checked lists, by the row that stands there. Assumes nothing.
use mathlib.Core.Path.{◌≡◌, ap, sym, ◌∙◌}
use mathlib.Core.List.{List}
use mathlib.Core.Bool.{true}
use Prim.Native.Nat.{ℕ, ◌-◌, ◌<◌, ◌≤◌}
use borrow.Author.Tests.{lt-ltb, le-ltb}
use Rattle.resolved_sort.specs.Storage.{max_sorts, row_at}
use Rattle.unification.specs.declared.Lengths.{Lengths}
use Rattle.unification.specs.declared.SortVar.{SortVar}
use Rattle.unification.specs.declared.InferSort.{InferSort}
use Rattle.unification.specs.declared.InferSort.TheVariants.{Var}
use Rattle.unification.specs.Term.{Shape, variable}
use Rattle.unification.specs.Nodes.{node_at, sort_shape, node_shape, shape_at}
use Rattle.unification.specs.NodeChecks.{node_parts_fine}
use Rattle.unification.specs.Checked.{graph_of, Placed}
use Rattle.unification.proofs.Lists.{node_parts_fine_lem}
use Rattle.unification.proofs.Places.{node_below}
use Rattle.infer_nodes.specs.Inner.Parts.{NodesReady}

module _ (ws ns : List ℕ) (k : Lengths) (q : NodesReady ws ns k) where
  abbrev shape : ℕ → Shape
  shape = graph_of ws ns k

  pub at_sort : (p : ℕ) → Placed k p → p < max_sorts → shape p ≡ sort_shape ws (row_at ws p)
  unfolding shape_at
  at_sort p e l = rw (e, lt-ltb p max_sorts l)

  pub at_node : (p : ℕ) → Placed k p → max_sorts ≤ p → shape p ≡ node_shape ns (node_at ns (p - max_sorts))
  unfolding shape_at
  at_node p e l = rw (e, le-ltb p max_sorts l)

  module _ (p : ℕ) (e : Placed k p) (l : max_sorts ≤ p) (r : InferSort) (i : r ≡ node_at ns (p - max_sorts)) where
    pub shape_of_node : shape p ≡ node_shape ns r
    shape_of_node = at_node p e l ∙ ap (node_shape ns) (sym i)

    pub parts_fine : node_parts_fine ns k.arguments k.sorts k.variables (p - max_sorts) r ≡ true
    parts_fine = ap (node_parts_fine ns k.arguments k.sorts k.variables (p - max_sorts)) i ∙ node_parts_fine_lem ws
        k.sorts k.entries ns k.nodes k.arguments k.variables q (p - max_sorts) (node_below k.sorts
        k.nodes p l e)

    module _ (u : SortVar) (x : r ≡ Var u) where
      pub shape_of_variable : shape p ≡ variable u.0
      unfolding node_shape
      shape_of_variable = shape_of_node ∙ ap (node_shape ns) x
