-- What the variable at a place is bound to, and runs of arguments that are places.
use Rattle.std.specs.Prelude.{◌≡◌, true, List, ℕ, ◌+◌, ◌<◌, ◌≤◌, length}
use Rattle.std.proofs.Math.Option.{Option, none}
use Rattle.resolved_sort.specs.Storage.{max_arguments}
use Rattle.unification.specs.declared.Lengths.{Lengths}
use Rattle.unification.specs.Term.{Shape, variable, over}
use Rattle.unification.specs.Nodes.{node_entry_at, Binds, binding, binds_of}
use Rattle.unification.specs.Acyclic.{acyclic}
use Rattle.unification.specs.NodeChecks.{bindings_fine}
use Rattle.unification.specs.Checked.{NodesChecked, Placed}

-- what a variable is bound to, by the shape at a place
abbrev pub bound_to : Shape → Binds → Option ℕ
bound_to (variable v) B = binding B v
bound_to (over h ps) B = none

-- the c arguments from s on are places, and no more than 16
pub record RunPlaced (ns : List ℕ) (k : Lengths) (s c : ℕ) : Type 0 where
  pub places : (j : ℕ) → j < c → Placed k (node_entry_at ns (s + j))
  pub short : c ≤ max_arguments
  pub inside : s + c ≤ k.arguments

-- Sorts, nodes and bindings that pass their checks: as `Ready`, with check 7 in place of the numbering that it finds.
pub record BindsPass (ws ns bs : List ℕ) (k : Lengths) : Type 0 where
  pub nodes : NodesChecked ws k.sorts k.entries ns k.nodes k.arguments k.variables
  pub places : bindings_fine k.sorts k.nodes (binds_of bs k.variables) ≡ true
  pub no_cycle : acyclic ns k.nodes (binds_of bs k.variables) ≡ true
  pub long : k.variables ≤ length bs
