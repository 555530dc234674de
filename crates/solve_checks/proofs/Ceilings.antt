-- What checks 8 and 9 make sure of for check 10: expressions below 512. The checks taken apart, and the rows one by one. Assumes nothing.
use mathlib.Core.Path.{◌≡◌}
use mathlib.Core.Bool.{true}
use Prim.Native.Nat.{ℕ, ◌+◌, ◌*◌, ◌≤◌}
use native.Mathlib.Omega.{arith}
use lib.Dec.{leb, ltb}
use lib.ListN.{get_or}
use borrow.Author.Tests.{ltb-true}
use Rattle.std.specs.Prelude.{Some}
use Rattle.resolved_sort.proofs.Below.{and_left, and_right, below_each}
use Rattle.inference.specs.declared.Constraint.{Constraint}
use Rattle.inference.specs.declared.Constraint.TheVariants.{Sub, Lit, Disjunction, Comprehension, Join}
use Rattle.inference.specs.Constraints.{max_exprs, constraint_at}
use Rattle.inference.specs.SolveChecks.{Call, placed, names_fine, run_fine, overload_fine}
use Rattle.inference.specs.SolveChecks.{constraint_fine, constraints_fine}
use Rattle.solve_checks.specs.Inner.Marks.{disjunction_expr, IsExpr, EachIsExpr}
use Rattle.solve_checks.specs.Inner.Tests.{name_fine, constraint_row_fine}

module _ (I : Call) (top : I.rows.exprs ≤ max_exprs) where
  pub keys_below : names_fine I ≡ true → EachIsExpr I.rows.names (λ i. Some (record { 0 = get_or I.names (3 * i) 0 }))
  unfolding names_fine
  keys_below f i l =
      let x = and_left (ltb (get_or I.names (3 * i) 0) I.rows.exprs) _ (below_each I.rows.names (name_fine I) f i l) in
      omega (arith, top, ltb-true (get_or I.names (3 * i) 0) I.rows.exprs x)

  fine_below : (b : ℕ) (c : Constraint) → constraint_fine I b c ≡ true → IsExpr (disjunction_expr c)
  fine_below b (Sub l r) f = tt
  fine_below b (Lit p kind) f = tt
  fine_below b (Disjunction x p run) f =
      let y = ltb-true x.0 I.rows.exprs (and_left _ (placed I p.0) (and_left _ (run_fine I I.rows.overloads (overload_fine I) run) f)) in
      omega (arith, y, top)
  fine_below b (Comprehension body node element) f = tt
  fine_below b (Join run t) f = tt

  pub disjunctions_below : constraints_fine I ≡ true → EachIsExpr I.rows.constraints (λ i. disjunction_expr (constraint_at I.constraints i))
  unfolding constraints_fine
  disjunctions_below f i l =
      fine_below (get_or I.constraints (5 * i + 2) 0) (constraint_at I.constraints i)
      (and_right (leb (get_or I.constraints (5 * i) 0) 4) _ (below_each I.rows.constraints (constraint_row_fine I) f i l))
