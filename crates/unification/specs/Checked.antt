-- What the checks before a call have shown of the lent words.
use Rattle.std.specs.Prelude.{◌≡◌, true, List, ℕ, ◌≤◌, length}
use Rattle.resolved_sort.specs.Storage.{max_sorts}
use Rattle.resolved_sort.specs.Checks.{rows_fine}
use Rattle.resolved_sort.specs.Rows.{Checked}
use Rattle.unification.specs.Nodes.{max_nodes, max_node_entries, max_vars, full_nodes, Lists}
use Rattle.unification.specs.Nodes.{is_place, shape_at, Binds, binds_of}
use Rattle.unification.specs.declared.Lengths.{Lengths}
use Rattle.unification.specs.Term.{Shape}
use Rattle.unification.specs.NodeChecks.{nodes_fine, bindings_fine}
use Rattle.unification.specs.Acyclic.{Numbering}

-- n sorts with e entries that pass checks 1 and 3, and m nodes with d entries over v variables that
-- pass 1 and 5, however long the words lent are
pub record ListsFine (ws : List ℕ) (n e : ℕ) (ns : List ℕ) (m d v : ℕ) : Type 0 where
  pub sorts : n ≤ max_sorts
  pub rows : rows_fine ws n e ≡ true
  pub nodes : m ≤ max_nodes
  pub variables : v ≤ max_vars
  pub fine : nodes_fine ns m d n v ≡ true

-- n sorts with e entries that pass checks 1, 3, 4 and 14, and m nodes with d entries over v
-- variables that pass 1, 5 and 14
pub record NodesChecked (ws : List ℕ) (n e : ℕ) (ns : List ℕ) (m d v : ℕ) : Type 0 where
  pub sorts : Checked ws n e
  pub long : full_nodes ≤ length ns
  pub nodes : m ≤ max_nodes
  pub entries : d ≤ max_node_entries
  pub variables : v ≤ max_vars
  pub fine : nodes_fine ns m d n v ≡ true

abbrev pub fine_of : (ws : List ℕ) (n e : ℕ) (ns : List ℕ) (m d v : ℕ) → NodesChecked ws n e ns m d v
    → ListsFine ws n e ns m d v
fine_of ws n e ns m d v c =
    record {
      sorts = c.sorts.sorts;
      rows = c.sorts.fine;
      nodes = c.nodes;
      variables = c.variables;
      fine = c.fine;
    }

abbrev pub lists_of : List ℕ → ℕ → List ℕ → ℕ → Lists
lists_of ws n ns m = record { sorts = ws; sort_count = n; nodes = ns; node_count = m }

-- bindings of v variables that name places, and in which no variable reaches itself
pub record BindsChecked (L : Lists) (v : ℕ) (B : Binds) : Type 0 where
  pub many : length B ≡ v
  pub places : bindings_fine L.sort_count L.node_count B ≡ true
  pub numbered : Numbering (shape_at L) v B

-- the shapes of the lists, by how much of them is in use
abbrev pub graph_of : List ℕ → List ℕ → Lengths → ℕ → Shape
graph_of ws ns k = shape_at (lists_of ws k.sorts ns k.nodes)

-- All of it, for a call on lent words: sorts, nodes and bindings that passed their checks.
pub record Ready (ws ns bs : List ℕ) (k : Lengths) : Type 0 where
  pub nodes : NodesChecked ws k.sorts k.entries ns k.nodes k.arguments k.variables
  pub binds : BindsChecked (lists_of ws k.sorts ns k.nodes) k.variables (binds_of bs k.variables)
  pub long : k.variables ≤ length bs

abbrev pub Placed : Lengths → ℕ → Type 0
Placed k p = is_place k.sorts k.nodes p ≡ true
