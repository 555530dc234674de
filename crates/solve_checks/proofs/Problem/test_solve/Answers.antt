-- The first of all checks that fails. Assumes nothing.
use Rattle.std.proofs.Common.{ap, ◌∙◌}
use Rattle.resolved_sort.proofs.Testing.{handed_on}
use Rattle.resolved_sort.specs.Checks.{first_failing}
use Rattle.solve_checks.specs.Inner.Calls.{no_outs, no_room, solve_call}
use Rattle.solve_checks.proofs.Testing as law
use Rattle.solve_checks.proofs.Problem.test_solve.Goals as goal

pub returns-in_err-check : goal.returns-in_err-check
returns-in_err-check c = λ o.
    handed_on _ _ c.from_residual.ensures.1
    ∙ law.outside _ c.all_within_lent.result (c.all_within_lent.ensures c.args.room o) _ c.in_err-check.ensures

pub returns-in_err-test_sorts : goal.returns-in_err-test_sorts
returns-in_err-test_sorts c = λ o.
    handed_on _ _ c.from_residual-in_err-test_sorts.ensures.1
    ∙ law.sorts_refused _ c.all_within_lent.result (c.all_within_lent.ensures c.args.room o) c.in_ok-check.ensures _ c.in_err-test_sorts.ensures

pub test_nodes-requires : goal.test_nodes-requires
test_nodes-requires c =
    law.graph_ceilings (solve_call c.args.storage.now c.args.self.now no_room no_outs)
    (law.passed _ _ _ (c.all_within_lent.ensures no_room no_outs) c.in_ok-check.ensures)

pub returns-in_err-test_nodes : goal.returns-in_err-test_nodes
returns-in_err-test_nodes c = λ o.
    handed_on _ _ c.from_residual-in_err-test_nodes.ensures.1
    ∙ law.nodes_refused _ c.all_within_lent.result (c.all_within_lent.ensures c.args.room o) c.in_ok-check.ensures
    c.in_ok-test_sorts.ensures _ c.in_err-test_nodes.ensures

pub invariant_of-within : goal.invariant_of-within
invariant_of-within c =
    record {
      within =
          law.lists_within c.args.self.now c.args.storage.now
          (law.passed _ _ _ (c.all_within_lent.ensures no_room no_outs) c.in_ok-check.ensures);
    }

pub returns-in_err-test_rows : goal.returns-in_err-test_rows
returns-in_err-test_rows c = λ o.
    handed_on _ _ c.from_residual-in_err-test_rows.ensures.1
    ∙ law.rows_refused _ c.all_within_lent.result (c.all_within_lent.ensures c.args.room o) c.in_ok-check.ensures
    c.in_ok-test_sorts.ensures c.in_ok-test_nodes.ensures _
    (c.in_err-test_rows.ensures
    ∙ ap (λ cs. first_failing cs) (law.same_row_checks c.args.storage.now c.args.self.now c.args.room o))

pub returns : goal.returns
returns c = λ o.
    law.last_decides _ c.all_within_lent.result (c.all_within_lent.ensures c.args.room o) c.in_ok-check.ensures
    c.in_ok-test_sorts.ensures c.in_ok-test_nodes.ensures
    (c.in_ok-test_rows.ensures
    ∙ ap (λ cs. first_failing cs) (law.same_row_checks c.args.storage.now c.args.self.now c.args.room o))
    _ (c.test_last.ensures o)
