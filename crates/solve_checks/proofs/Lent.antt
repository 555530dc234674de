-- Check 1 of the lists beside sorts, nodes and bindings, list by list. Assumes nothing.
use mathlib.Core.Path.{◌≡◌, refl, sym, ap, ◌∙◌}
use mathlib.Core.Bool.{Bool, true, false, ◌&&◌, and_assoc}
use Prim.Native.Nat.{◌*◌, ◌/◌}
use lib.Dec.{leb}
use native.Mathlib.Omega.{arith}
use lib.ListN.{length}
use Rattle.inference.specs.Constraints.{max_exprs, max_constraints, max_overloads, max_sources}
use Rattle.inference.specs.SolveChecks.{rows_within_lent}
use Rattle.solve_checks.specs.declared.Problem.{Problem}
use Rattle.solve_checks.specs.Inner.Calls.{call_for}
use Rattle.solve_checks.proofs.Quotients.{third}

regrouped : (a b c d e f g h i : Bool) → ((((a && b) && c) && (d && e)) && (f && g)) && (h && i) ≡ (a && b && c && d && e && f && g && h && i)
regrouped false b c d e f g h i = refl
regrouped true b c d e f g h i =
    sym (and_assoc ((b && c) && (d && e) && (f && g)) h i)
    ∙ ap (λ z. z && h && i) (sym (and_assoc ((b && c) && (d && e)) f g) ∙ ap (λ z. z && f && g) (sym (and_assoc (b && c) d e)))

module _ (p : Problem) where
  abbrev pub first_two : Bool
  first_two =
      leb p.given.exprs max_exprs && leb (1 * p.given.exprs) (length p.exprs.now) && leb p.given.names (length p.names.now / 3)

  abbrev pub first_three : Bool
  first_three = first_two && (leb p.given.constraints max_constraints && leb (5 * p.given.constraints) (length p.constraints.now))

  abbrev pub first_four : Bool
  first_four = first_three && (leb p.given.overloads max_overloads && leb (3 * p.given.overloads) (length p.overloads.now))

  pub list_by_list : (first_four && (leb p.given.sources max_sources && leb (1 * p.given.sources) (length p.sources.now))) ≡ rows_within_lent (call_for p)
  unfolding rows_within_lent
  list_by_list =
      let e : 1 * p.given.exprs ≡ p.given.exprs = omega arith in
      let s : 1 * p.given.sources ≡ p.given.sources = omega arith in
      rw (e, s, third p.given.names (length p.names.now))
      (regrouped (leb p.given.exprs max_exprs) (leb p.given.exprs (length p.exprs.now)) (leb (3 * p.given.names) (length p.names.now))
      (leb p.given.constraints max_constraints) (leb (5 * p.given.constraints) (length p.constraints.now))
      (leb p.given.overloads max_overloads) (leb (3 * p.given.overloads) (length p.overloads.now))
      (leb p.given.sources max_sources) (leb p.given.sources (length p.sources.now)))
