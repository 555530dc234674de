-- After checks 1 to 4 the sort is looked for in the list, then its text is measured. Assumes nothing.
use Rattle.std.proofs.Common.{arith, rules, refl}
use Rattle.sort_writer.proofs.Checks as law
use Rattle.sort_writer.proofs.test_write.Goals as goal

pub returns-in_err-test_sorts : goal.returns-in_err-test_sorts
returns-in_err-test_sorts c = search (rules, law.sorts_fail)

pub returns-then-sort_count-id : goal.returns-then-sort_count-id
returns-then-sort_count-id c = law.not_in_list _ _ _ _ _ c.in_ok-test_sorts.ensures c.if-sort_count-id.true

pub text_size-size-requires : goal.text_size-size-requires
text_size-size-requires c =
    law.few_sorts c.args.sorts.now c.args.sort_count c.args.entry_count c.args.id.0 c.args.out.now c.in_ok-test_sorts.ensures

pub returns-then-size-eq0 : goal.returns-then-size-eq0
returns-then-size-eq0 c =
    law.no_text _ _ _ _ _ c.in_ok-test_sorts.ensures c.if-sort_count-id.false c.text_size-size.ensures c.if-size-eq0.true

pub returns-then-sorts-lt-SORT_WORDS : goal.returns-then-sorts-lt-SORT_WORDS
returns-then-sorts-lt-SORT_WORDS c =
    law.storage_short _ _ _ _ _ c.in_ok-test_sorts.ensures c.if-sort_count-id.false c.text_size-size.ensures c.if-size-eq0.false
    c.if-sorts-lt-SORT_WORDS.true

pub returns-then-out-size : goal.returns-then-out-size
returns-then-out-size c =
    law.text_long _ _ _ _ _ c.in_ok-test_sorts.ensures c.if-sort_count-id.false c.text_size-size.ensures c.if-size-eq0.false
    c.if-sorts-lt-SORT_WORDS.false c.if-out-size.true

pub overflow_cast-result : goal.overflow_cast-result
overflow_cast-result c =
    let p = law.all_pass _ _ _ _ _ c.in_ok-test_sorts.ensures c.if-sort_count-id.false c.text_size-size.ensures c.if-size-eq0.false
    c.if-sorts-lt-SORT_WORDS.false c.if-out-size.false (omega arith) in
    omega (arith, (law.has_room _ _ _ _ _ _ p refl).checked.sorts)

pub overflow_cast-result-2 : goal.overflow_cast-result-2
overflow_cast-result-2 c =
    let p = law.all_pass _ _ _ _ _ c.in_ok-test_sorts.ensures c.if-sort_count-id.false c.text_size-size.ensures c.if-size-eq0.false
    c.if-sorts-lt-SORT_WORDS.false c.if-out-size.false (omega arith) in
    omega (arith, (law.has_room _ _ _ _ _ _ p refl).checked.entries)

pub returns : goal.returns
returns c = (
  refl,
  refl,
  law.all_pass _ _ _ _ _ c.in_ok-test_sorts.ensures c.if-sort_count-id.false c.text_size-size.ensures c.if-size-eq0.false
      c.if-sorts-lt-SORT_WORDS.false c.if-out-size.false (omega arith),
)
