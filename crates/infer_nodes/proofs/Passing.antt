-- Lists and bindings that pass their checks are ready, and what is ready passes them. Assumes nothing.
use mathlib.Core.List.{List}
use Prim.Native.Nat.{ℕ}
use Rattle.unification.specs.declared.Lengths.{Lengths}
use Rattle.unification.specs.Nodes.{Binds, binds_of}
use Rattle.unification.specs.Checked.{fine_of, graph_of, Ready}
use Rattle.unification.specs.Unify.{deep}
use Rattle.unification.proofs.Lists.{lower, scoped}
use Rattle.unification.proofs.Passed.{length_binds}
use Rattle.unification.proofs.Solved.{numbered_acyclic}
use Rattle.unification.proofs.Theorem.{binds_checked, deep_enough, check_7_exactly}
use Rattle.infer_nodes.specs.Inner.Bound.{BindsPass}

module _ (ws ns bs : List ℕ) (k : Lengths) where
  abbrev B : Binds
  B = binds_of bs k.variables

  pub ready_of : BindsPass ws ns bs k → Ready ws ns bs k
  ready_of c =
      record {
        nodes = c.nodes;
        binds = binds_checked ws k.sorts k.entries ns k.nodes k.arguments k.variables c.nodes B
            (length_binds bs k.variables) c.places c.no_cycle;
        long = c.long;
      }

  pub pass_of : Ready ws ns bs k → BindsPass ws ns bs k
  pass_of q =
      record {
        nodes = q.nodes;
        places = q.binds.places;
        no_cycle = (check_7_exactly ws k.sorts k.entries ns k.nodes k.arguments k.variables
            (fine_of ws k.sorts k.entries ns k.nodes k.arguments k.variables q.nodes) B q.binds.many q.binds.places).0.1
            (numbered_acyclic (graph_of ws ns k) 3072 (lower ws k.sorts k.entries ns k.nodes k.arguments k.variables q.nodes)
            k.variables (scoped ws k.sorts k.entries ns k.nodes k.arguments k.variables q.nodes) deep
            (deep_enough ws k.sorts k.entries ns k.nodes k.arguments k.variables q.nodes) B q.binds.numbered);
        long = q.long;
      }
