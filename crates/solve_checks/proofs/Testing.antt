-- The first failing check of the solver, as its tests find it one after another. Lists that a check does not look at make no difference to it.
-- Assumes nothing.
use mathlib.Core.Path.{◌≡◌, refl, sym, ap, ◌∙◌}
use mathlib.Core.Bool.{Bool, true, false, cond, ◌&&◌, and_assoc}
use mathlib.Core.List.{List, [], ◌∷◌, ◌++◌}
use Prim.Native.Nat.{ℕ, ◌*◌, ◌≤◌}
use lib.Dec.{leb}
use lib.ListN.{length}
use Rattle.std.specs.Prelude.{Ok, Err}
use Rattle.resolved_sort.specs.declared.Refusal.{Refusal}
use Rattle.resolved_sort.specs.declared.Refusal.TheVariants.{NotLent, BadExpression, BadConstraint, TwoForOne, BadJoin, NotInList, TooShort}
use Rattle.resolved_sort.specs.Storage.{full_length}
use Rattle.resolved_sort.specs.Index.{slots, index_long}
use Rattle.resolved_sort.specs.Checks.{Check, Tested, first_failing, at_ceiling, sort_row_checks, sort_checks}
use Rattle.resolved_sort.proofs.FirstFailing.{first_passes, cons_passes}
use Rattle.resolved_sort.proofs.Testing.{first_refuses, second_decides}
use Rattle.unification.specs.Nodes.{max_nodes, max_vars, full_nodes}
use Rattle.unification.specs.NodeChecks.{node_checks}
use Rattle.unification.proofs.Passed.{node_counts, var_counts}
use Rattle.inference.specs.Constraints.{max_components}
use Rattle.inference.specs.SolveChecks.{Call, listed, rows_within_lent, all_within_lent, target_fine, exprs_fine}
use Rattle.inference.specs.SolveChecks.{names_fine, overload_fine, constraints_fine, given, disjunctions, no_two, keys}
use Rattle.inference.specs.SolveChecks.{joins_fine, components, outputs_long, long_enough, solve_checks, row_checks}
use Rattle.inference.specs.SolveChecks.{last_checks, list_checks, scratch_words, typing_words, choice_words}
use Rattle.inference.specs.Inner.RowsLent.{RowsLent}
use Rattle.inference.proofs.Accepted.{within}
use Rattle.inference.proofs.RowsLent.{rows_lent}
use Rattle.solve_checks.specs.declared.Problem.{Problem}
use Rattle.solve_checks.specs.declared.Room.{Room}
use Rattle.solve_checks.specs.declared.Storage.{Storage}
use Rattle.solve_checks.specs.Inner.Calls.{Outs, solve_call, call_for, no_room, no_outs, constraint_rows}

-- one check: b is what was found, and x what the definition says
abbrev pub one : Refusal → Bool → Check
one r x = record { refusal = r; passes = x }

module _ (r : Refusal) (b x : Bool) (e : b ≡ x) where
  pub found : (t : Tested) → t ≡ first_failing (one r b ∷ []) → t ≡ first_failing (one r x ∷ [])
  found t f = f ∙ ap (λ z. first_failing (one r z ∷ [])) e

  pub passed : Ok tt ≡ first_failing (one r b ∷ []) → x ≡ true
  passed f = (cons_passes (one r x) [] (sym (found (Ok tt) f))).0

  module _ (cs : List Check) where
    pub refused : (d : Refusal) → Err d ≡ first_failing (one r b ∷ []) → Err d ≡ first_failing (one r x ∷ cs)
    refused d f = first_refuses (one r x ∷ []) cs (Err d) (found (Err d) f) d refl

    pub gone_on : Ok tt ≡ first_failing (one r b ∷ []) → (u : Tested) → u ≡ first_failing cs → u ≡ first_failing (one r x ∷ cs)
    gone_on f u w = second_decides (one r x ∷ []) cs (Ok tt) (found (Ok tt) f) refl u w

-- two checks with one refusal are one
two_are_one : (r : Refusal) (x y : Bool) (cs : List Check) → first_failing (one r x ∷ one r y ∷ cs) ≡ first_failing (one r (x && y) ∷ cs)
unfolding first_failing
two_are_one r true y cs = refl
two_are_one r false y cs = refl

after : (c : Check) (xs ys : List Check) → first_failing xs ≡ first_failing ys → first_failing (c ∷ xs) ≡ first_failing (c ∷ ys)
unfolding first_failing
after c xs ys e = ap (λ (t : Tested). cond c.passes t (Err c.refusal)) e

module _ (I : Call) where
  -- 8 to 10, test by test
  abbrev pub row_tests : List Check
  row_tests =
      one BadExpression (exprs_fine I) ∷ one BadExpression (names_fine I) ∷ one BadConstraint (constraints_fine I)
      ∷ one TwoForOne (no_two (disjunctions (given I))) ∷ one TwoForOne (no_two (keys I)) ∷ []

  pub row_tests_are : first_failing row_tests ≡ first_failing (row_checks I)
  row_tests_are =
      two_are_one BadExpression (exprs_fine I) (names_fine I) _
      ∙ after (one BadExpression (exprs_fine I && names_fine I)) _ _ (after (one BadConstraint (constraints_fine I)) _ _
      (two_are_one TwoForOne (no_two (disjunctions (given I))) (no_two (keys I)) []))

  -- 11, 12 and 14, test by test
  abbrev pub last_tests : List Check
  last_tests =
      one BadJoin (joins_fine (given I)) ∷ one BadJoin (leb (components (given I)) max_components)
      ∷ one NotInList (listed I I.default) ∷ one TooShort (leb full_length (length I.sorts))
      ∷ one TooShort (leb full_nodes (length I.nodes)) ∷ one TooShort (leb scratch_words (length I.scratch))
      ∷ one TooShort (leb slots (length I.index))
      ∷ one TooShort (leb (typing_words * I.rows.exprs) (length I.typing))
      ∷ one TooShort (leb (components (given I)) (length I.measure))
      ∷ one TooShort (leb (choice_words * length (disjunctions (given I))) (length I.choices)) ∷ []

  pub last_tests_are : first_failing last_tests ≡ first_failing (last_checks I)
  unfolding long_enough at_ceiling outputs_long index_long
  last_tests_are =
      let a = leb full_length (length I.sorts) in
      let b = leb full_nodes (length I.nodes) in
      let c = leb scratch_words (length I.scratch) in
      let x = leb slots (length I.index) in
      let d = leb (typing_words * I.rows.exprs) (length I.typing) in
      let e = leb (components (given I)) (length I.measure) in
      let f = leb (choice_words * length (disjunctions (given I))) (length I.choices) in
      two_are_one BadJoin (joins_fine (given I)) (leb (components (given I)) max_components) _
      ∙ after (one BadJoin (joins_fine (given I) && leb (components (given I)) max_components)) _ _
      (after (one NotInList (listed I I.default)) _ _
      (after (one TooShort a) _ _
      (after (one TooShort b) _ _ (two_are_one TooShort c x _ ∙ (two_are_one TooShort (c && x) d _
      ∙ (two_are_one TooShort (c && x && d) e _ ∙ two_are_one TooShort (c && x && d && e) f [])))
      ∙ two_are_one TooShort b (c && x && d && e && f) [])
      ∙ (two_are_one TooShort a (b && (c && x && d && e && f)) [] ∙ ap (λ z. first_failing (one TooShort z ∷ [])) (sym (and_assoc a b (c && x && d && e && f))))))

-- what a check does not look at
module _ (s : Storage) (p : Problem) (room : Room) (o : Outs room) where
  pub same_row_checks : row_checks (call_for p) ≡ row_checks (solve_call s p room o)
  unfolding exprs_fine names_fine target_fine overload_fine constraints_fine
  same_row_checks = refl

  pub same_rows_within : rows_within_lent (call_for p) ≡ rows_within_lent (solve_call s p room o)
  unfolding rows_within_lent
  same_rows_within = refl

-- what is counted of the constraints given
module _ (p : Problem) (m : ℕ) (q : m ≡ p.given.constraints) (x : ℕ) where
  pub parts_counted : x ≡ components (constraint_rows p.constraints.now m) → x ≡ components (given (call_for p))
  parts_counted e = e ∙ ap (λ (k : ℕ). components (constraint_rows p.constraints.now k)) q

  pub choices_counted : x ≡ length (disjunctions (constraint_rows p.constraints.now m)) → x ≡ length (disjunctions (given (call_for p)))
  choices_counted e = e ∙ ap (λ (k : ℕ). length (disjunctions (constraint_rows p.constraints.now k))) q

-- what check 1 makes sure of for checks 5 to 7
pub graph_ceilings : (I : Call) → all_within_lent I ≡ true → (I.lengths.nodes ≤ max_nodes) × (I.lengths.variables ≤ max_vars)
graph_ceilings I f =
    let w = within I f in (
      (node_counts I.sorts I.lengths.sorts I.lengths.entries I.nodes I.lengths.nodes
          I.lengths.arguments I.binds I.lengths.variables w.0 w.1 w.2).0,
      (var_counts I.sorts I.lengths.sorts I.lengths.entries I.nodes I.lengths.nodes
          I.lengths.arguments I.binds I.lengths.variables w.0 w.1 w.2).0,
    )

-- and for those after
pub lists_within : (p : Problem) (s : Storage) → all_within_lent (solve_call s p no_room no_outs) ≡ true → RowsLent (call_for p)
lists_within p s f = rows_lent (call_for p) (same_rows_within s p no_room no_outs ∙ (within (solve_call s p no_room no_outs) f).3)

-- check 1, checks 2 to 4, 5 to 7, 8 to 10, and then the rest
module _ (I : Call) where
  abbrev all : List Check
  all = solve_checks I

  abbrev sorted : List Check
  sorted = sort_row_checks I.sorts I.lengths.sorts I.lengths.entries

  abbrev linked : List Check
  linked =
      node_checks I.nodes I.lengths.nodes I.lengths.arguments I.lengths.sorts I.binds
      I.lengths.variables

  module _ (b : Bool) (e : b ≡ all_within_lent I) where
    pub outside : (d : Refusal) → Err d ≡ first_failing (one NotLent b ∷ []) → Err d ≡ first_failing all
    unfolding solve_checks
    outside d f = refused NotLent b (all_within_lent I) e (sorted ++ linked ++ list_checks I) d f

    module _ (f : Ok tt ≡ first_failing (one NotLent b ∷ [])) where
      past_1 : (u : Tested) → u ≡ first_failing (sorted ++ linked ++ list_checks I) → u ≡ first_failing all
      unfolding solve_checks
      past_1 u w = gone_on NotLent b (all_within_lent I) e (sorted ++ linked ++ list_checks I) f u w

      by_sorts : (t : Tested) → t ≡ first_failing (sort_checks I.sorts I.lengths.sorts I.lengths.entries) → t ≡ first_failing sorted
      unfolding sort_checks
      by_sorts t g = g ∙ first_passes _ sorted (within I (passed NotLent b (all_within_lent I) e f)).0

      pub sorts_refused : (d : Refusal) → Err d ≡ first_failing (sort_checks I.sorts I.lengths.sorts I.lengths.entries) → Err d ≡ first_failing all
      sorts_refused d g = past_1 (Err d) (first_refuses sorted (linked ++ list_checks I) (Err d) (by_sorts (Err d) g) d refl)

      module _ (g : Ok tt ≡ first_failing (sort_checks I.sorts I.lengths.sorts I.lengths.entries)) where
        past_4 : (u : Tested) → u ≡ first_failing (linked ++ list_checks I) → u ≡ first_failing all
        past_4 u w = past_1 u (second_decides sorted (linked ++ list_checks I) (Ok tt) (by_sorts (Ok tt) g) refl u w)

        pub nodes_refused : (d : Refusal) → Err d ≡ first_failing linked → Err d ≡ first_failing all
        nodes_refused d h = past_4 (Err d) (first_refuses linked (list_checks I) (Err d) h d refl)

        module _ (h : Ok tt ≡ first_failing linked) where
          past_7 : (u : Tested) → u ≡ first_failing (list_checks I) → u ≡ first_failing all
          past_7 u w = past_4 u (second_decides linked (list_checks I) (Ok tt) h refl u w)

          pub rows_refused : (d : Refusal) → Err d ≡ first_failing (row_checks I) → Err d ≡ first_failing all
          rows_refused d k = past_7 (Err d) (first_refuses (row_checks I) (last_checks I) (Err d) k d refl)

          pub last_decides : Ok tt ≡ first_failing (row_checks I) → (u : Tested) → u ≡ first_failing (last_checks I) → u ≡ first_failing all
          last_decides k u w = past_7 u (second_decides (row_checks I) (last_checks I) (Ok tt) k refl u w)
