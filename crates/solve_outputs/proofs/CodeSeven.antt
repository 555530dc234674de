-- The solver refuses with 7 exactly if checks 1 to 6 pass and some variable reaches itself, whatever the call is. As
-- for unify asked alone: seven is the number of
-- one check, the seventh, and after the checks no call is refused, so the solver gives it exactly where the six
-- before it pass and that one fails; and it fails exactly where a
-- variable reaches itself, as long as 1, 3, 5 and 6 pass. Assumes nothing.
use mathlib.Core.Path.{◌≡◌, refl, sym, ap, subst, ◌∙◌}
use mathlib.Core.Bool.{false, true}
use mathlib.Core.List.{List}
use mathlib.Core.Logic.{◌↔◌, inl, inr}
use Prim.Native.Nat.{ℕ}
use lib.ListN.{take, drop}
use Rattle.std.specs.Prelude.{Err, Ok}
use Rattle.resolved_sort.specs.declared.Refusal.{Refusal}
use Rattle.resolved_sort.specs.declared.Refusal.TheVariants.{Cyclic as CyclicBindings}
use Rattle.resolved_sort.specs.Checks.{Check, first_failing, Tested}
use Rattle.resolved_sort.specs.Entries.{refused_or}
use Rattle.resolved_sort.proofs.Reached.{no_confusion}
use Rattle.resolved_sort.proofs.FirstFailing.{cons_passes}
use Rattle.unification.specs.Nodes.{Binds, shape_at, binds_of}
use Rattle.unification.specs.Acyclic.{acyclic, Cyclic}
use Rattle.unification.specs.NodeChecks.{bindings_fine, node_checks}
use Rattle.unification.specs.Checked.{ListsFine, lists_of}
use Rattle.unification.proofs.Theorem.{check_7_exactly}
use Rattle.unification.proofs.Passed.{length_binds, passed_fine}
use Rattle.resolved_sort.proofs.FailingNumber.{fails_first}
use Rattle.inference.specs.SolveChecks.{Call, solve_checks}
use Rattle.inference.specs.SolveEntry.{Solved, searched, refused, verdict, nothing_met, solve_entry}
use Rattle.inference.proofs.Accepted.{within}
use Rattle.solve_outputs.proofs.Codes.{Searched, searched_answers}

module _ (I : Call) where
  abbrev binds : Binds
  binds = binds_of I.binds I.lengths.variables

  abbrev n : ℕ
  n = I.lengths.sorts

  abbrev m : ℕ
  m = I.lengths.nodes

  -- the checks with the numbers 1 to 6
  abbrev pub first_six : List Check
  first_six = take 6 (solve_checks I)

  abbrev seventh : Check
  seventh = record { refusal = CyclicBindings; passes = acyclic I.nodes m binds }

  answers_seven : ((solve_entry I).answer ≡ Err CyclicBindings) ↔ (first_failing (solve_checks I) ≡ Err CyclicBindings)
  unfolding solve_entry
  answers_seven = (λ a. go (first_failing (solve_checks I)) refl a, λ f. rw f)
    where
      failed : Refusal → Solved
      failed c = Err c

      no_room : {A : Type 0} → Searched I (Err CyclicBindings) → A
      no_room (inl e) = no_confusion cc
      no_room (inr e) = no_confusion cc

      go : (o : Tested) → first_failing (solve_checks I) ≡ o → (solve_entry I).answer ≡ Err CyclicBindings → o ≡ Err CyclicBindings
      go (Ok u) x a = no_room (subst (Searched I) a (searched_answers I x))
      go (Err c) x a =
          let z : failed c ≡ Err CyclicBindings = ap (λ (o : Tested). (refused_or o (refused I)
          (verdict I (searched (Unit {0}) nothing_met tt I))).answer) (sym x) ∙ a in
          let y : c ≡ CyclicBindings = cc in ap Err y

  seventh_fails : (first_failing (solve_checks I) ≡ Err CyclicBindings) ↔ ((first_failing first_six ≡ Ok tt) × (acyclic I.nodes m binds ≡ false))
  unfolding solve_checks node_checks
  seventh_fails =
      fails_first first_six seventh (drop 7 (solve_checks I)) (
        (λ x. no_confusion cc),
        (
          (λ x. no_confusion cc),
          (
            (λ x. no_confusion cc),
            (
              (λ x. no_confusion cc),
              ((λ x. no_confusion cc), ((λ x. no_confusion cc), tt)),
            ),
          ),
        ),
      ) (
        (λ x. no_confusion cc),
        (
          (λ x. no_confusion cc),
          (
            (λ x. no_confusion cc),
            (
              (λ x. no_confusion cc),
              ((λ x. no_confusion cc), ((λ x. no_confusion cc), tt)),
            ),
          ),
        ),
      )

  module _ (x : first_failing first_six ≡ Ok tt) where
    lists_fine : ListsFine I.sorts n I.lengths.entries I.nodes m I.lengths.arguments I.lengths.variables × (bindings_fine n m binds ≡ true)
    unfolding solve_checks node_checks
    lists_fine =
        let c₁ = cons_passes _ _ x in
        let c₂ = cons_passes _ _ c₁.1 in
        let c₃ = cons_passes _ _ c₂.1 in
        let c₄ = cons_passes _ _ c₃.1 in
        let c₅ = cons_passes _ _ c₄.1 in
        let c₆ = cons_passes _ _ c₅.1 in
        let w = within I c₁.0 in (
          passed_fine I.sorts n I.lengths.entries I.nodes m I.lengths.arguments I.binds
              I.lengths.variables w.0 w.1 w.2 c₃.0 c₅.0,
          c₆.0,
        )

    refuses_cyclic : (acyclic I.nodes m binds ≡ false) ↔ Cyclic (shape_at (lists_of I.sorts n I.nodes m)) binds
    refuses_cyclic =
        (check_7_exactly I.sorts n I.lengths.entries I.nodes m I.lengths.arguments
        I.lengths.variables lists_fine.0 binds (length_binds I.binds I.lengths.variables)
        lists_fine.1).1

  -- Whatever the call is: it is answered by 7 exactly if checks 1 to 6 pass and some variable reaches itself.
  pub solve_code_7_exactly : ((solve_entry I).answer ≡ Err CyclicBindings)
      ↔ ((first_failing first_six ≡ Ok tt) × Cyclic (shape_at (lists_of I.sorts I.lengths.sorts I.nodes
      I.lengths.nodes)) (binds_of I.binds I.lengths.variables))
  solve_code_7_exactly = (
    λ a. let h = seventh_fails.0 (answers_seven.0 a) in (h.0, (refuses_cyclic h.0).0 h.1),
    λ h.
        answers_seven.1 (seventh_fails.1 (h.0, (refuses_cyclic h.0).1 h.1)),
  )
