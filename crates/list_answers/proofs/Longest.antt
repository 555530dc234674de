-- The answer about a list is never longer than `most_answer`, whatever its words are: where there is a typing the checks have passed,
-- so that there are at most 512 expressions, 256 components and a choice for each constraint; and where sorts are told they are
-- checked. Assumes nothing.
use mathlib.Core.Path.{◌≡◌, refl, sym, ◌∙◌, ap}
use mathlib.Core.Bool.{and-eq-true_iff}
use mathlib.Core.List.{List, [], ◌∷◌}
use mathlib.Core.Option.{some}
use Prim.Native.Nat.{ℕ, ◌+◌, ◌*◌, ◌≤◌}
use native.Mathlib.Omega.{arith}
use lib.ListN.{length, length-append, length-map}
use lib.Dec.{leb}
use borrow.Author.Tests.{leb-true}
use Rattle.std.specs.Prelude.{Ok, Err}
use Rattle.resolved_sort.specs.declared.Counts.{Counts}
use Rattle.resolved_sort.specs.Storage.{max_sorts}
use Rattle.resolved_sort.specs.Checks.{first_failing, Tested}
use Rattle.resolved_sort.specs.Entries.{refused_or}
use Rattle.inference.specs.declared.Constraint.{Constraint}
use Rattle.inference.specs.declared.Constraint.TheVariants.{Sub, Lit, Disjunction, Comprehension, Join}
use Rattle.inference.specs.declared.Outputs.{Outputs}
use Rattle.inference.specs.declared.Verdict.TheVariants.{NoTyping, Ambiguous, Typing}
use Rattle.inference.specs.Constraints.{constraint_at, max_exprs, max_constraints, max_components}
use Rattle.inference.specs.SolveChecks.{Call, given, disjunctions, disjunction_for, components, joins_fine, solve_checks}
use Rattle.inference.specs.SolveEntry.{Solved, SolveLeft, solve_entry, code_solved, problem_of, refused, verdict, searched, nothing_met, typed, counts_in}
use Rattle.inference.specs.ListsLeft.{counts_told}
use Rattle.inference.specs.Named.{expr_of}
use Rattle.resolved_sort.proofs.Reached.{no_confusion}
use Rattle.inference.specs.Inner.RowsLent.{RowsLent}
use Rattle.inference.proofs.RowsLent.{rows_lent}
use Rattle.inference.proofs.Accepted.{passing, within}
use Rattle.inference.proofs.Choices.{IsTyping, code_0_typed, width_is_components, choices_in_order}
use Rattle.inference.proofs.ListsLeft.{sorts_only_grow}
use Rattle.inference.proofs.Members.{length_rows}
use Rattle.list_memory.specs.Memory.{sort_list, expr_list}
use Rattle.list_call.specs.Lists.{call_count, call_in}
use Rattle.list_verdict.specs.Text.{verdict_line, new_lines, typing_text}
use Rattle.list_verdict.specs.Longest.{most_typing, most_new_line}
use Rattle.list_verdict.proofs.Longest.{verdict_length, typing_length, new_lines_length}
use Rattle.list_answers.specs.Answer.{lines_under, told_text, answer_text}
use Rattle.list_answers.specs.Longest.{most_answer}

one_more : (c : Constraint) (xs : List ℕ) → length (disjunction_for c xs) ≤ 1 + length xs
one_more (Sub l r) xs = omega arith
one_more (Lit p kind) xs = omega arith
one_more (Disjunction x p run) xs = omega arith
one_more (Comprehension body node element) xs = omega arith
one_more (Join run t) xs = omega arith

few_disjunctions : (cs : List Constraint) → length (disjunctions cs) ≤ length cs
unfolding disjunctions
few_disjunctions [] = omega arith
few_disjunctions (c ∷ cs) = omega (arith, one_more c (disjunctions cs), few_disjunctions cs)

-- a call that gets a typing has passed all checks
module _ (I : Call) (o : Outputs) (e : (solve_entry I).answer ≡ Ok (Typing o)) where
  none_failed : first_failing (solve_checks I) ≡ Ok tt
  unfolding solve_entry
  none_failed = go (first_failing (solve_checks I)) refl e
    where
      go : (x : Tested) → first_failing (solve_checks I) ≡ x
          → (refused_or x (refused I) (verdict I (searched (Unit {0}) nothing_met tt I))).answer ≡ Ok (Typing o) → first_failing (solve_checks I) ≡ Ok tt
      go (Ok u) q f = q
      go (Err c) q f = no_confusion cc

  few_rows : RowsLent I
  few_rows = rows_lent I (within I (passing I none_failed).within_lent).3

  is_typing : IsTyping I (solve_entry I)
  unfolding code_solved
  is_typing = code_0_typed I (ap code_solved e)

  outputs_are : (o.components ≡ length is_typing.candidate.measure) × (o.choices ≡ length is_typing.candidate.choices)
  outputs_are =
      let q : Ok (Typing o) ≡ (typed I is_typing.lent is_typing.candidate).answer = sym e ∙ ap (λ (L : SolveLeft). L.answer) is_typing.is in
      let r : o ≡ record { counts = counts_in is_typing.lent; components = length is_typing.candidate.measure; choices = length is_typing.candidate.choices } = cc q in
      (ap (λ (x : Outputs). x.components) r, ap (λ (x : Outputs). x.choices) r)

  few_components : o.components ≤ max_components
  few_components =
      let w = width_is_components _ (problem_of I) (given I) is_typing.accepted.constraints in
      let c = ((and-eq-true_iff (joins_fine (given I)) (leb (components (given I)) max_components)).0 (passing I none_failed).components).1 in
      omega (arith, outputs_are.0, is_typing.fits.components, w, leb-true (components (given I)) max_components c)

  few_choices : o.choices ≤ max_constraints
  few_choices =
      omega (
        arith,
        outputs_are.1,
        length-map is_typing.candidate.choices expr_of,
        ap length (choices_in_order (given I) is_typing.candidate.choices is_typing.fits.choices),
        few_disjunctions (given I),
        length_rows (constraint_at I.constraints) 0 I.rows.constraints,
        few_rows.constraints,
      )

-- the text, by the answer
module _ (I : Call) (g x : ℕ) (f : (o : Outputs) → (solve_entry I).answer ≡ Ok (Typing o) → x ≤ max_exprs) where
  sorts_told : (k : Counts) → counts_told (solve_entry I).answer ≡ some k → length (new_lines (solve_entry I).sorts g k.sorts) ≤ max_sorts * most_new_line
  sorts_told k e = (new_lines_length (solve_entry I).sorts g k.sorts k.entries (sorts_only_grow I k e).checked).is

  under_length : (r : Solved) → (solve_entry I).answer ≡ r
      → length (lines_under g x r (solve_entry I).sorts (solve_entry I).typing (solve_entry I).measure (solve_entry I).choices)
      ≤ most_typing max_exprs max_components max_constraints + max_sorts * most_new_line
  unfolding lines_under
  under_length (Err r) e = omega arith
  under_length (Ok (NoTyping k)) e = omega (arith, sorts_told k (ap counts_told e))
  under_length (Ok (Ambiguous k)) e = omega (arith, sorts_told k (ap counts_told e))
  under_length (Ok (Typing o)) e =
      omega (
        arith,
        length-append
            (typing_text (solve_entry I).sorts o.counts.sorts (solve_entry I).typing (solve_entry I).measure
            (solve_entry I).choices x o.components o.choices)
            (new_lines (solve_entry I).sorts g o.counts.sorts),
        (typing_length (solve_entry I).sorts o.counts.sorts (solve_entry I).typing (solve_entry I).measure
            (solve_entry I).choices x o.components o.choices).is,
        f o e,
        few_components I o e,
        few_choices I o e,
        sorts_told o.counts (ap counts_told e),
      )

  told_length : length (told_text g x (solve_entry I).answer (solve_entry I).sorts (solve_entry I).typing (solve_entry I).measure
      (solve_entry I).choices) ≤ most_answer
  unfolding told_text
  told_length =
      omega (
        arith,
        length-append (verdict_line (code_solved (solve_entry I).answer))
            (lines_under g x (solve_entry I).answer (solve_entry I).sorts (solve_entry I).typing (solve_entry I).measure (solve_entry I).choices),
        (verdict_length (code_solved (solve_entry I).answer)).is,
        under_length (solve_entry I).answer refl,
      )

-- The answer about any list.
pub answer_fits : (ws : List ℕ) → length (answer_text ws) ≤ most_answer
unfolding answer_text
answer_fits ws = told_length (call_in ws) (call_count ws sort_list) (call_count ws expr_list) (λ o e. (few_rows (call_in ws) o e).exprs)
