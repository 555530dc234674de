-- An accepted list without constraints has a typing, unless room for sorts ends: its one leaf is met at once, nothing is before it, and with a default
-- each place has a sort. Assumes nothing.
use mathlib.Core.Path.{◌≡◌, refl, sym, subst, ap}
use mathlib.Core.Bool.{false}
use mathlib.Core.List.{List, []}
use mathlib.Core.Option.{none}
use mathlib.Core.Logic.{inl, inr}
use Prim.Native.Nat.{ℕ}
use Rattle.std.specs.Prelude.{Ok, Err}
use Rattle.resolved_sort.specs.Checks.{first_failing}
use Rattle.std.specs.Prelude.{Some as Is}
use Rattle.unification.specs.Making.{Lent, Makes, made, no_list, no_room}
use Rattle.inference.specs.declared.Constraint.{Constraint}
use Rattle.inference.specs.Constraints.{constraint_at, rows_from, Problem}
use Rattle.inference.specs.Search.{World, found, missed, keeping, on_made, resolve_all, leaf, solve}
use Rattle.inference.specs.SolveChecks.{Call, given, solve_checks}
use Rattle.inference.specs.SolveEntry.{SolveLeft, problem_of, start_path, lent_of, room_refusal, verdict, nothing_met, solve_entry, TypingOr15}
use Rattle.inference.proofs.Accepted.{Accepted, accepted, passed_is_searched}
use Rattle.inference.proofs.Invariant.{sorts_only_refl}
use Rattle.inference.proofs.MakingSorts.{MadeSorts, StandAll, resolve_all_makes}

module _ (I : Call) where
  abbrev W : Lent
  W = lent_of I

  abbrev P : Problem
  P = problem_of I

  abbrev first_world : World (Unit {0})
  first_world = record { lent = W; best = none; met = tt }

  by_made : (O : Makes (List ℕ)) → MadeSorts (λ W' ss. StandAll W (start_path I).binds (Is (record { 0 = I.default })) W' P.exprs ss) ⊥ W O
      → TypingOr15
      (verdict I (on_made O (λ ss v. found (keeping (Unit {0}) nothing_met P v (start_path I)
      (record { measure = (start_path I).measure; sorts = ss; choices = (start_path I).choices; duplicate = false })))
      missed first_world)).answer
  unfolding MadeSorts room_refusal
  by_made (made ss W') h = inl (_, refl)
  by_made (no_list W') h = absurd h.1
  by_made (no_room c W') h = inr (ap (λ n. Err (room_refusal n)) h.1)

  one_leaf : Accepted I → TypingOr15 (verdict I (solve (Unit {0}) nothing_met P [] (start_path I) first_world)).answer
  unfolding solve leaf
  one_leaf A =
      by_made (resolve_all (Is (record { 0 = I.default })) (start_path I).binds P.exprs W)
      (resolve_all_makes W A.ready.nodes (start_path I).binds A.ready.binds (Is (record { 0 = I.default }))
      A.default P.exprs A.exprs W (sorts_only_refl W A.ready.nodes))

  none_given : I.rows.constraints ≡ 0 → given I ≡ []
  unfolding rows_from
  none_given e = ap (rows_from (constraint_at I.constraints) 0) e

  pub no_constraints_is_a_typing : first_failing (solve_checks I) ≡ Ok tt → I.rows.constraints ≡ 0 → TypingOr15 (solve_entry I).answer
  no_constraints_is_a_typing f e =
      subst (λ (L : SolveLeft). TypingOr15 L.answer) (sym (passed_is_searched I f))
      (subst (λ (cs : List Constraint). TypingOr15 (verdict I (solve (Unit {0}) nothing_met P cs (start_path I)
      first_world)).answer) (sym (none_given e)) (one_leaf (accepted I f)))
