-- After checks 1 to 4 the storage and the index are held against their lengths, then the line. Assumes nothing.
use Rattle.std.proofs.Common.{rules, arith, refl}
use Rattle.sort_reader.proofs.Entry as law
use Rattle.sort_reader.proofs.test_read.Goals as goal
use Rattle.sort_reader.proofs.test_read.Goals.{then-sorts-lt-SORT_WORDS-via-then-sorts-lt-SORT_WORDS}
use Rattle.sort_reader.proofs.test_read.Goals.{then-sorts-lt-SORT_WORDS-via-else-sorts-lt-SORT_WORDS+then-index-lt-SLOTS}

pub returns-in_err-test_sorts : goal.returns-in_err-test_sorts
returns-in_err-test_sorts c = search (rules, law.sorts_fail)

pub returns-then-sorts-lt-SORT_WORDS : goal.returns-then-sorts-lt-SORT_WORDS
returns-then-sorts-lt-SORT_WORDS c =
    elim c.then-sorts-lt-SORT_WORDS.branch [
      | then-sorts-lt-SORT_WORDS-via-then-sorts-lt-SORT_WORDS w ↦
          law.storage_short _ _ _ _ _ c.in_ok-test_sorts.ensures w.if-sorts-lt-SORT_WORDS.true
      | then-sorts-lt-SORT_WORDS-via-else-sorts-lt-SORT_WORDS+then-index-lt-SLOTS w ↦
          law.index_short _ _ _ _ _ c.in_ok-test_sorts.ensures w.if-sorts-lt-SORT_WORDS.false w.if-index-lt-SLOTS.true
    ]

pub returns-then-line-gt-MAX_LINE : goal.returns-then-line-gt-MAX_LINE
returns-then-line-gt-MAX_LINE c =
    law.line_long _ _ _ _ _ c.in_ok-test_sorts.ensures c.if-sorts-lt-SORT_WORDS.false c.if-index-lt-SLOTS.false c.if-line-gt-MAX_LINE.true

pub overflow_cast-result : goal.overflow_cast-result
overflow_cast-result c =
    let p = law.all_pass _ _ _ _ _ c.in_ok-test_sorts.ensures c.if-sorts-lt-SORT_WORDS.false c.if-index-lt-SLOTS.false c.if-line-gt-MAX_LINE.false in
    omega (arith, (law.passes _ _ _ _ _ _ p refl).checked.sorts)

pub overflow_cast-result-2 : goal.overflow_cast-result-2
overflow_cast-result-2 c =
    let p = law.all_pass _ _ _ _ _ c.in_ok-test_sorts.ensures c.if-sorts-lt-SORT_WORDS.false c.if-index-lt-SLOTS.false c.if-line-gt-MAX_LINE.false in
    omega (arith, (law.passes _ _ _ _ _ _ p refl).checked.entries)

pub returns : goal.returns
returns c =
    (refl, refl, law.all_pass _ _ _ _ _ c.in_ok-test_sorts.ensures c.if-sorts-lt-SORT_WORDS.false c.if-index-lt-SLOTS.false c.if-line-gt-MAX_LINE.false)
