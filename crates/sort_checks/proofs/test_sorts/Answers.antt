-- Each test is the check of its number, and the first that fails is answered. Assumes nothing.
use Rattle.std.proofs.Common.{not, ap}
use Rattle.sort_checks.proofs.FirstFour as law
use Rattle.sort_checks.proofs.test_sorts.Goals as goal

pub returns-then-not-within_lent : goal.returns-then-not-within_lent
returns-then-not-within_lent c =
    let a = c.args in
    law.fails_1 a.sorts.now a.sort_count a.entry_count _ c.within_lent.ensures (ap not c.if-not-within_lent.true)

pub returns-then-not-fixed_six : goal.returns-then-not-fixed_six
returns-then-not-fixed_six c =
    let a = c.args in
    law.fails_2 a.sorts.now a.sort_count a.entry_count _ c.within_lent.ensures (ap not c.if-not-within_lent.false) _
    c.fixed_six.ensures (ap not c.if-not-fixed_six.true)

pub rows_fine-requires : goal.rows_fine-requires
rows_fine-requires c =
    let a = c.args in
    law.few_sorts a.sorts.now a.sort_count a.entry_count _ c.within_lent.ensures (ap not c.if-not-within_lent.false)

pub returns-then-not-rows_fine : goal.returns-then-not-rows_fine
returns-then-not-rows_fine c =
    let a = c.args in
    law.fails_3 a.sorts.now a.sort_count a.entry_count _ c.within_lent.ensures (ap not c.if-not-within_lent.false) _
    c.fixed_six.ensures (ap not c.if-not-fixed_six.false) _ c.rows_fine.ensures (ap not c.if-not-rows_fine.true)

pub no_two_equal_rows-requires : goal.no_two_equal_rows-requires
no_two_equal_rows-requires c =
    let a = c.args in
    law.few_sorts a.sorts.now a.sort_count a.entry_count _ c.within_lent.ensures (ap not c.if-not-within_lent.false)

pub returns-then-not-no_two_equal_rows : goal.returns-then-not-no_two_equal_rows
returns-then-not-no_two_equal_rows c =
    let a = c.args in
    law.fails_4 a.sorts.now a.sort_count a.entry_count _ c.within_lent.ensures (ap not c.if-not-within_lent.false) _
    c.fixed_six.ensures (ap not c.if-not-fixed_six.false) _ c.rows_fine.ensures (ap not c.if-not-rows_fine.false) _
    c.no_two_equal_rows.ensures (ap not c.if-not-no_two_equal_rows.true)

pub returns : goal.returns
returns c =
    let a = c.args in
    law.passes_4 a.sorts.now a.sort_count a.entry_count _ c.within_lent.ensures (ap not c.if-not-within_lent.false) _
    c.fixed_six.ensures (ap not c.if-not-fixed_six.false) _ c.rows_fine.ensures (ap not c.if-not-rows_fine.false) _
    c.no_two_equal_rows.ensures (ap not c.if-not-no_two_equal_rows.false)
