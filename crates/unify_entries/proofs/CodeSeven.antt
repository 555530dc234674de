-- The entry refuses with 7 exactly if checks 1 to 6 pass and some variable reaches itself. Seven is the number of one check, the seventh, so the entry
-- gives it exactly where the six before it pass and that one fails; and it fails exactly where a variable reaches itself, as long as 1, 3, 5 and 6
-- pass. Nothing is asked of how long the words lent are. Assumes nothing.
use mathlib.Core.Path.{◌≡◌, refl, ap, ◌∙◌}
use mathlib.Core.Bool.{true, false, ◌&&◌, and-eq-true_iff}
use mathlib.Core.List.{List}
use mathlib.Core.Logic.{◌↔◌}
use Prim.Native.Nat.{ℕ}
use lib.ListN.{take}
use Rattle.std.specs.Prelude.{Ok, Err}
use Rattle.resolved_sort.specs.declared.Refusal.TheVariants.{Cyclic as CyclicBindings}
use Rattle.resolved_sort.specs.Checks.{within_lent, Check, Tested, first_failing}
use Rattle.resolved_sort.specs.Entries.{refused_or}
use Rattle.resolved_sort.proofs.FirstFailing.{cons_passes}
use Rattle.resolved_sort.specs.declared.Refusal.{Refusal}
use Rattle.resolved_sort.proofs.Reached.{no_confusion}
use Rattle.unification.specs.Unify.{Unifies, yes_with, no_way, too_deep, unify}
use Rattle.unification.specs.Nodes.{shape_at, binds_of}
use Rattle.unification.specs.Acyclic.{acyclic, Cyclic}
use Rattle.unification.specs.NodeChecks.{nodes_within_lent, bindings_within_lent, bindings_fine, node_checks, place_checks, unify_checks}
use Rattle.unification.specs.Checked.{ListsFine, lists_of}
use Rattle.unification.specs.UnifyEntry.{binds_left, binds_left_by, unify_entry}
use Rattle.unification.proofs.Theorem.{check_7_exactly}
use Rattle.unification.proofs.Passed.{length_binds, passed_fine}
use Rattle.resolved_sort.proofs.FailingNumber.{fails_first}

answered_no_refusal : (bs : List ℕ) (v : ℕ) (a : Unifies) (c : Refusal) → (binds_left_by bs v a).answer ≡ Err c → ⊥
unfolding binds_left_by
answered_no_refusal bs v (yes_with C) c e = no_confusion cc
answered_no_refusal bs v no_way c e = no_confusion cc
answered_no_refusal bs v too_deep c e = no_confusion cc

module _ (ws : List ℕ) (n e : ℕ) (ns : List ℕ) (m d : ℕ) (bs : List ℕ) (v l r : ℕ) where
  abbrev failing : Tested
  failing = first_failing (unify_checks ws n e ns m d bs v l r)

  -- the checks with the numbers 1 to 6
  abbrev pub first_six : List Check
  first_six = take 6 (unify_checks ws n e ns m d bs v l r)

  abbrev seventh : Check
  seventh = record { refusal = CyclicBindings; passes = acyclic ns m (binds_of bs v) }

  answers_seven : ((unify_entry ws n e ns m d bs v l r).answer ≡ Err CyclicBindings) ↔ (failing ≡ Err CyclicBindings)
  unfolding unify_entry
  answers_seven = (λ a. go failing refl a, λ f. rw f)
    where
      go : (o : Tested) → failing ≡ o
          → (refused_or o (λ c. binds_left bs (Err c)) (binds_left_by bs v (unify (shape_at (lists_of ws n ns m)) (binds_of bs v) l r))).answer ≡ Err CyclicBindings
          → failing ≡ Err CyclicBindings
      go (Ok u) x a = absurd (answered_no_refusal bs v (unify (shape_at (lists_of ws n ns m)) (binds_of bs v) l r) CyclicBindings a)
      go (Err c) x a = let z : c ≡ CyclicBindings = cc in x ∙ ap Err z

  -- no other check has this number
  seventh_fails : (failing ≡ Err CyclicBindings) ↔ ((first_failing first_six ≡ Ok tt) × (acyclic ns m (binds_of bs v) ≡ false))
  unfolding unify_checks node_checks place_checks
  seventh_fails =
      fails_first first_six seventh (place_checks ws n ns m l r) (
        (λ x. no_confusion cc),
        (
          (λ x. no_confusion cc),
          (
            (λ x. no_confusion cc),
            (
              (λ x. no_confusion cc),
              ((λ x. no_confusion cc), ((λ x. no_confusion cc), tt)),
            ),
          ),
        ),
      )
      ((λ x. no_confusion cc), ((λ x. no_confusion cc), tt))

  module _ (x : first_failing first_six ≡ Ok tt) where
    lists_fine : ListsFine ws n e ns m d v × (bindings_fine n m (binds_of bs v) ≡ true)
    unfolding unify_checks node_checks
    lists_fine =
        let c₁ = cons_passes _ _ x in
        let c₂ = cons_passes _ _ c₁.1 in
        let c₃ = cons_passes _ _ c₂.1 in
        let c₄ = cons_passes _ _ c₃.1 in
        let c₅ = cons_passes _ _ c₄.1 in
        let c₆ = cons_passes _ _ c₅.1 in
        let w = (and-eq-true_iff (within_lent ws n e && nodes_within_lent ns m d) (bindings_within_lent bs v)).0 c₁.0 in
        let u = (and-eq-true_iff (within_lent ws n e) (nodes_within_lent ns m d)).0 w.0 in
        (passed_fine ws n e ns m d bs v u.0 u.1 w.1 c₃.0 c₅.0, c₆.0)

    refuses_cyclic : (acyclic ns m (binds_of bs v) ≡ false) ↔ Cyclic (shape_at (lists_of ws n ns m)) (binds_of bs v)
    refuses_cyclic = (check_7_exactly ws n e ns m d v lists_fine.0 (binds_of bs v) (length_binds bs v) lists_fine.1).1

  -- Whatever the entry is given: it answers 7 exactly if checks 1 to 6 pass and some variable reaches itself.
  pub code_7_exactly : ((unify_entry ws n e ns m d bs v l r).answer ≡ Err CyclicBindings) ↔ ((first_failing first_six ≡ Ok tt) ×
      Cyclic (shape_at (lists_of ws n ns m)) (binds_of bs v))
  code_7_exactly = (
    λ a. let h = seventh_fails.0 (answers_seven.0 a) in (h.0, (refuses_cyclic h.0).0 h.1),
    λ h.
        answers_seven.1 (seventh_fails.1 (h.0, (refuses_cyclic h.0).1 h.1)),
  )
