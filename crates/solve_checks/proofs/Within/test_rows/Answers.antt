-- Each test is the check of its number, and the first that fails is answered. Assumes nothing.
use Rattle.std.proofs.Common.{◌∙◌}
use Rattle.resolved_sort.proofs.Testing.{handed_on}
use Rattle.solve_checks.specs.Inner.Calls.{call_for}
use Rattle.solve_checks.proofs.Testing as law
use Rattle.solve_checks.proofs.Within.test_rows.Goals as goal

pub returns-in_err-check : goal.returns-in_err-check
returns-in_err-check c =
    handed_on _ _ c.from_residual.ensures.1
    ∙ ((law.refused _ _ _ c.exprs_fine.ensures _ _ c.in_err-check.ensures)
    ∙ law.row_tests_are (call_for c.args.self.now.problem))

pub returns-in_err-check-2 : goal.returns-in_err-check-2
returns-in_err-check-2 c =
    handed_on _ _ c.from_residual-in_err-check-2.ensures.1
    ∙ ((law.gone_on _ _ _ c.exprs_fine.ensures _ c.in_ok-check.ensures _
    (law.refused _ _ _ c.names_fine.ensures _ _ c.in_err-check-2.ensures))
    ∙ law.row_tests_are (call_for c.args.self.now.problem))

pub returns-in_err-check-3 : goal.returns-in_err-check-3
returns-in_err-check-3 c =
    handed_on _ _ c.from_residual-in_err-check-3.ensures.1
    ∙ ((law.gone_on _ _ _ c.exprs_fine.ensures _ c.in_ok-check.ensures _
    (law.gone_on _ _ _ c.names_fine.ensures _ c.in_ok-check-2.ensures _
    (law.refused _ _ _ c.constraints_fine.ensures _ _ c.in_err-check-3.ensures)))
    ∙ law.row_tests_are (call_for c.args.self.now.problem))

pub one_disjunction_each-requires : goal.one_disjunction_each-requires
one_disjunction_each-requires c = law.passed _ _ _ c.constraints_fine.ensures c.in_ok-check-3.ensures

pub returns-in_err-check-4 : goal.returns-in_err-check-4
returns-in_err-check-4 c =
    handed_on _ _ c.from_residual-in_err-check-4.ensures.1
    ∙ ((law.gone_on _ _ _ c.exprs_fine.ensures _ c.in_ok-check.ensures _
    (law.gone_on _ _ _ c.names_fine.ensures _ c.in_ok-check-2.ensures _
    (law.gone_on _ _ _ c.constraints_fine.ensures _ c.in_ok-check-3.ensures _
    (law.refused _ _ _ c.one_disjunction_each.ensures _ _ c.in_err-check-4.ensures))))
    ∙ law.row_tests_are (call_for c.args.self.now.problem))

pub one_name_each-requires : goal.one_name_each-requires
one_name_each-requires c = law.passed _ _ _ c.names_fine.ensures c.in_ok-check-2.ensures

pub returns : goal.returns
returns c =
    (law.gone_on _ _ _ c.exprs_fine.ensures _ c.in_ok-check.ensures _
    (law.gone_on _ _ _ c.names_fine.ensures _ c.in_ok-check-2.ensures _
    (law.gone_on _ _ _ c.constraints_fine.ensures _ c.in_ok-check-3.ensures _
    (law.gone_on _ _ _ c.one_disjunction_each.ensures _ c.in_ok-check-4.ensures _
    (law.found _ _ _ c.one_name_each.ensures _ c.check-5.ensures)))))
    ∙ law.row_tests_are (call_for c.args.self.now.problem)
