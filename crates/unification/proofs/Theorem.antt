-- Robinson's theorem for the lists that pass their checks: the depths of the definition are enough for the ceilings. And check 7 is right wherever checks 1,
-- 3, 5 and 6 pass. Assumes nothing.
use mathlib.Core.Path.{◌≡◌, refl}
use mathlib.Core.Bool.{Bool, true, false}
use mathlib.Core.List.{List}
use mathlib.Core.Logic.{◌↔◌}
use Prim.Native.Nat.{ℕ, suc, ◌+◌, ◌*◌, ◌<◌, ◌≤◌}
use native.Mathlib.Omega.{arith}
use lib.ListN.{length}
use Rattle.unification.specs.declared.Lengths.{Lengths}
use Rattle.unification.specs.Nodes.{max_vars, shape_at, Binds, binds_of}
use Rattle.unification.specs.Unify.{deep, deeper, unify}
use Rattle.unification.specs.Acyclic.{Acyclic, acyclic, Cyclic}
use Rattle.unification.specs.NodeChecks.{bindings_fine}
use Rattle.unification.specs.Checked.{ListsFine, NodesChecked, fine_of, lists_of, BindsChecked, graph_of, Ready}
use Rattle.unification.specs.Solutions.{Robinson}
use Rattle.unification.proofs.Rank.{Ranked}
use Rattle.unification.proofs.Numbering.{numbered_ranked}
use Rattle.unification.proofs.FineLists as fine
use Rattle.unification.proofs.Lists.{lower, scoped}
use Rattle.unification.proofs.Settles.{acyclic_numbered}
use Rattle.unification.proofs.Cycle.{refused_cyclic}
use Rattle.unification.proofs.Solved.{robinson, numbered_acyclic}

deep_for : (v : ℕ) → v ≤ max_vars → suc v * 3073 + 3072 < deep
deep_for v l = omega (arith, l)

-- Check 7, of lists that pass checks 1, 3 and 5: it is asked before 14, so the words lent may be short.
module _ (ws : List ℕ) (n e : ℕ) (ns : List ℕ) (m d v : ℕ) (c : ListsFine ws n e ns m d v) where
  -- Bindings that pass check 7: no variable reaches itself.
  pub check_7_acyclic : (B : Binds) → acyclic ns m B ≡ true → Acyclic (shape_at (lists_of ws n ns m)) B
  check_7_acyclic B a =
      numbered_acyclic (shape_at (lists_of ws n ns m)) 3072 (fine.lower ws n e ns m d v c) v (fine.scoped ws n e ns m d
      v c) deep (deep_for v c.variables) B (acyclic_numbered ws n e ns m d v c B a)

  -- Check 7 passes exactly where no variable reaches itself, and refuses exactly where one does.
  pub check_7_exactly : (B : Binds) → length B ≡ v → bindings_fine n m B ≡ true
      → ((acyclic ns m B ≡ true) ↔ Acyclic (shape_at (lists_of ws n ns m)) B) × ((acyclic ns m B ≡ false) ↔ Cyclic (shape_at (lists_of ws n ns m)) B)
  check_7_exactly B l f = ((check_7_acyclic B, passes (acyclic ns m B) refl), (refused_cyclic ws n e ns m d v c B l f, refuses (acyclic ns m B) refl))
    where
      passes : (b : Bool) → acyclic ns m B ≡ b → Acyclic (shape_at (lists_of ws n ns m)) B → b ≡ true
      passes true a h = refl
      passes false a h = let r = refused_cyclic ws n e ns m d v c B l f a in absurd (h r.0 r.1 r.2 r.3)

      refuses : (b : Bool) → acyclic ns m B ≡ b → Cyclic (shape_at (lists_of ws n ns m)) B → b ≡ false
      refuses true a r = absurd (check_7_acyclic B a r.0 r.1 r.2 r.3)
      refuses false a r = refl

module _ (ws : List ℕ) (n e : ℕ) (ns : List ℕ) (m d v : ℕ) (c : NodesChecked ws n e ns m d v) where
  pub deep_enough : suc v * 3073 + 3072 < deep
  deep_enough = deep_for v c.variables

  pub deeper_enough : suc v * deep ≤ deeper
  deeper_enough = omega (arith, c.variables)

  -- ranks are bounded
  pub checked_ranked : (B : Binds) → BindsChecked (lists_of ws n ns m) v B → Ranked (shape_at (lists_of ws n ns m)) deep B
  checked_ranked B b = numbered_ranked (shape_at (lists_of ws n ns m)) 3072 (lower ws n e ns m d v c) v B b.numbered deep deep_enough

  -- "Unification is proved against Robinson": every answer of unify on checked lists.
  pub unify_is_robinson : (B : Binds) → BindsChecked (lists_of ws n ns m) v B → (l r : ℕ)
      → Robinson (shape_at (lists_of ws n ns m)) B l r (unify (shape_at (lists_of ws n ns m)) B l r)
  unfolding unify
  unify_is_robinson B b l r =
      robinson (shape_at (lists_of ws n ns m)) 3072 (lower ws n e ns m d v c) v (scoped ws n e ns m d v c) deep
      deep_enough deeper deeper_enough B b.numbered b.many l r

  pub binds_checked : (B : Binds) → length B ≡ v → bindings_fine n m B ≡ true → acyclic ns m B ≡ true → BindsChecked (lists_of ws n ns m) v B
  binds_checked B l f a = record { many = l; places = f; numbered = acyclic_numbered ws n e ns m d v (fine_of ws n e ns m d v c) B a }

pub ready_ranked : (ws ns bs : List ℕ) (k : Lengths) → Ready ws ns bs k → Ranked (graph_of ws ns k) deep (binds_of bs k.variables)
ready_ranked ws ns bs k q = checked_ranked ws k.sorts k.entries ns k.nodes k.arguments k.variables
    q.nodes (binds_of bs k.variables) q.binds
