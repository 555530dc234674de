-- Each test is the check of its number, and the first that fails is answered. Assumes nothing.
use Rattle.std.proofs.Common.{◌∙◌}
use Rattle.resolved_sort.proofs.Testing.{handed_on}
use Rattle.solve_checks.proofs.LastTests as law
use Rattle.solve_checks.proofs.Within.test_last.Goals as goal

pub returns-in_err-check : goal.returns-in_err-check
returns-in_err-check c = λ o.
    handed_on _ _ c.from_residual.ensures.1
    ∙ law.joins_refused c.args.storage.now c.args.self.now.problem c.args.room o c.joins_fine.ensures _ c.in_err-check.ensures

pub returns-in_err-check-2 : goal.returns-in_err-check-2
returns-in_err-check-2 c = λ o.
    handed_on _ _ c.from_residual-in_err-check-2.ensures.1
    ∙ law.parts_refused c.args.storage.now c.args.self.now.problem c.args.room o c.joins_fine.ensures c.in_ok-check.ensures
    _ c.constraint_count-count.ensures _ c.components-parts.ensures _ c.in_err-check-2.ensures

pub returns-in_err-check-3 : goal.returns-in_err-check-3
returns-in_err-check-3 c = λ o.
    handed_on _ _ c.from_residual-in_err-check-3.ensures.1
    ∙ law.default_refused c.args.storage.now c.args.self.now.problem c.args.room o c.joins_fine.ensures c.in_ok-check.ensures
    _ c.constraint_count-count.ensures _ c.components-parts.ensures c.in_ok-check-2.ensures c.listed.ensures _ c.in_err-check-3.ensures

pub returns-in_err-check-4 : goal.returns-in_err-check-4
returns-in_err-check-4 c = λ o.
    handed_on _ _ c.from_residual-in_err-check-4.ensures.1
    ∙ law.sorts_refused c.args.storage.now c.args.self.now.problem c.args.room o c.joins_fine.ensures c.in_ok-check.ensures
    _ c.constraint_count-count.ensures _ c.components-parts.ensures c.in_ok-check-2.ensures c.listed.ensures c.in_ok-check-3.ensures
    _ c.in_err-check-4.ensures

pub returns-in_err-check-5 : goal.returns-in_err-check-5
returns-in_err-check-5 c = λ o.
    handed_on _ _ c.from_residual-in_err-check-5.ensures.1
    ∙ law.nodes_refused c.args.storage.now c.args.self.now.problem c.args.room o c.joins_fine.ensures c.in_ok-check.ensures
    _ c.constraint_count-count.ensures _ c.components-parts.ensures c.in_ok-check-2.ensures c.listed.ensures c.in_ok-check-3.ensures
    c.in_ok-check-4.ensures _ c.in_err-check-5.ensures

pub returns-in_err-check-6 : goal.returns-in_err-check-6
returns-in_err-check-6 c = λ o.
    handed_on _ _ c.from_residual-in_err-check-6.ensures.1
    ∙ law.scratch_refused c.args.storage.now c.args.self.now.problem c.args.room o c.joins_fine.ensures c.in_ok-check.ensures
    _ c.constraint_count-count.ensures _ c.components-parts.ensures c.in_ok-check-2.ensures c.listed.ensures c.in_ok-check-3.ensures
    c.in_ok-check-4.ensures c.in_ok-check-5.ensures _ c.in_err-check-6.ensures

pub returns-in_err-check-7 : goal.returns-in_err-check-7
returns-in_err-check-7 c = λ o.
    handed_on _ _ c.from_residual-in_err-check-7.ensures.1
    ∙ law.index_refused c.args.storage.now c.args.self.now.problem c.args.room o c.joins_fine.ensures c.in_ok-check.ensures
    _ c.constraint_count-count.ensures _ c.components-parts.ensures c.in_ok-check-2.ensures c.listed.ensures c.in_ok-check-3.ensures
    c.in_ok-check-4.ensures c.in_ok-check-5.ensures c.in_ok-check-6.ensures _ c.in_err-check-7.ensures

pub returns-in_err-check-8 : goal.returns-in_err-check-8
returns-in_err-check-8 c = λ o.
    handed_on _ _ c.from_residual-in_err-check-8.ensures.1
    ∙ law.typing_refused c.args.storage.now c.args.self.now.problem c.args.room o c.joins_fine.ensures c.in_ok-check.ensures
    _ c.constraint_count-count.ensures _ c.components-parts.ensures c.in_ok-check-2.ensures c.listed.ensures c.in_ok-check-3.ensures
    c.in_ok-check-4.ensures c.in_ok-check-5.ensures c.in_ok-check-6.ensures c.in_ok-check-7.ensures _ c.in_err-check-8.ensures

pub returns-in_err-check-9 : goal.returns-in_err-check-9
returns-in_err-check-9 c = λ o.
    handed_on _ _ c.from_residual-in_err-check-9.ensures.1
    ∙ law.measure_refused c.args.storage.now c.args.self.now.problem c.args.room o c.joins_fine.ensures c.in_ok-check.ensures
    _ c.constraint_count-count.ensures _ c.components-parts.ensures c.in_ok-check-2.ensures c.listed.ensures c.in_ok-check-3.ensures
    c.in_ok-check-4.ensures c.in_ok-check-5.ensures c.in_ok-check-6.ensures c.in_ok-check-7.ensures c.in_ok-check-8.ensures _ c.in_err-check-9.ensures

pub returns : goal.returns
returns c = λ o.
    law.choices_decide c.args.storage.now c.args.self.now.problem c.args.room o c.joins_fine.ensures c.in_ok-check.ensures
    _ c.constraint_count-count.ensures _ c.components-parts.ensures c.in_ok-check-2.ensures c.listed.ensures c.in_ok-check-3.ensures
    c.in_ok-check-4.ensures c.in_ok-check-5.ensures c.in_ok-check-6.ensures c.in_ok-check-7.ensures c.in_ok-check-8.ensures
    c.in_ok-check-9.ensures
    _ c.disjunction_count-choices.ensures c.check-10.ensures
