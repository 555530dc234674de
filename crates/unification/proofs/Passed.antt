-- Lists that pass checks 1, 3 and 5 are fine; lists and bindings that pass 1 and 3 to 7 and are lent at their ceilings are ready: the parts of the checks,
-- taken apart. Assumes nothing.
use mathlib.Core.Path.{◌≡◌, refl}
use mathlib.Core.Bool.{Bool, true, ◌&&◌, and-eq-true_iff}
use mathlib.Core.List.{List, [], ◌∷◌}
use Prim.Native.Nat.{ℕ, zero, suc, ◌-◌, ◌*◌, ◌≤◌}
use native.Mathlib.Omega.{arith}
use lib.ListN.{length}
use lib.Dec.{leb}
use borrow.Author.Tests.{leb-true}
use Rattle.resolved_sort.specs.Storage.{max_sorts, max_entries, entries_at, full_length}
use Rattle.resolved_sort.specs.Checks.{within_lent, rows_fine, no_two_equal, at_ceiling}
use Rattle.unification.specs.Nodes.{max_nodes, max_node_entries, max_vars, node_entries_at, full_nodes, binds_of}
use Rattle.unification.specs.Acyclic.{acyclic}
use Rattle.unification.specs.NodeChecks.{nodes_within_lent, bindings_within_lent, nodes_fine, bindings_fine}
use Rattle.unification.specs.Checked.{ListsFine, NodesChecked, Ready}
use Rattle.unification.proofs.Theorem.{binds_checked}

pub length_binds : (bs : List ℕ) (n : ℕ) → length (binds_of bs n) ≡ n
unfolding binds_of
length_binds bs zero = refl
length_binds [] (suc n) = omega (arith, length_binds [] n)
length_binds (w ∷ bs) (suc n) = omega (arith, length_binds bs n)

pub two_ceilings : (n top e end : ℕ) (x y : Bool) → (leb n top && leb e end && x && y) ≡ true → (n ≤ top) × (e ≤ end)
two_ceilings n top e end x y f =
    let p = ((and-eq-true_iff (leb n top && leb e end && x) y).0 f).0 in
    let u = (and-eq-true_iff (leb n top) (leb e end)).0 ((and-eq-true_iff (leb n top && leb e end) x).0 p).0 in
    (leb-true n top u.0, leb-true e end u.1)

module _ (ws : List ℕ) (n e : ℕ) (ns : List ℕ) (m d : ℕ) (bs : List ℕ) (v : ℕ) (sorts-within : within_lent ws n e ≡
    true) (nodes-within : nodes_within_lent ns m d ≡ true)
    (binds-within : bindings_within_lent bs v ≡ true) where
  pub sort_counts : (n ≤ max_sorts) × (e ≤ max_entries)
  unfolding within_lent
  sort_counts = two_ceilings n max_sorts e max_entries (leb (4 * n) (length ws)) (leb e (length ws - entries_at)) sorts-within

  pub node_counts : (m ≤ max_nodes) × (d ≤ max_node_entries)
  unfolding nodes_within_lent
  node_counts = two_ceilings m max_nodes d max_node_entries (leb (4 * m) (length ns)) (leb d (length ns - node_entries_at)) nodes-within

  pub var_counts : (v ≤ max_vars) × (v ≤ length bs)
  unfolding bindings_within_lent
  var_counts = let u = (and-eq-true_iff (leb v max_vars) (leb v (length bs))).0 binds-within in (leb-true v max_vars u.0, leb-true v (length bs) u.1)

  pub passed_fine : rows_fine ws n e ≡ true → nodes_fine ns m d n v ≡ true → ListsFine ws n e ns m d v
  passed_fine rows nodes = record { sorts = sort_counts.0; rows = rows; nodes = node_counts.0; variables = var_counts.0; fine = nodes }

  module _ (rows : rows_fine ws n e ≡ true) (differ : no_two_equal ws n ≡ true) (nodes : nodes_fine ns m d n v ≡ true)
      (binds : bindings_fine n m (binds_of bs v) ≡ true)
      (no_cycle : acyclic ns m (binds_of bs v) ≡ true) (sorts-long : at_ceiling ws ≡ true) (nodes-long : leb full_nodes (length ns) ≡ true) where
    checked : NodesChecked ws n e ns m d v
    unfolding at_ceiling
    checked =
        record {
          sorts = record { long = leb-true full_length (length ws) sorts-long; sorts = sort_counts.0; entries = sort_counts.1; fine = rows; differ = differ };
          long = leb-true full_nodes (length ns) nodes-long;
          nodes = node_counts.0;
          entries = node_counts.1;
          variables = var_counts.0;
          fine = nodes;
        }

    pub passed_ready : Ready ws ns bs (record { sorts = n; entries = e; nodes = m; arguments = d; variables = v })
    passed_ready = record {
      nodes = checked;
      binds = binds_checked ws n e ns m d v checked (binds_of bs v)
          (length_binds bs v) binds no_cycle;
      long = var_counts.1;
    }
