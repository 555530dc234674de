-- After checks 1 to 4 the numbers are held against the list, then the storage against its ceiling. Assumes nothing.
use Rattle.std.proofs.Common.{arith, rules, refl}
use Rattle.sort_entries.proofs.Laws as law
use Rattle.sort_entries.proofs.test_pair.Goals as goal
use Rattle.sort_entries.proofs.test_pair.Goals.{then-sort_count-lhs-via-then-sort_count-lhs}
use Rattle.sort_entries.proofs.test_pair.Goals.{then-sort_count-lhs-via-else-sort_count-lhs+then-sort_count-rhs}

pub returns-in_err-test_sorts : goal.returns-in_err-test_sorts
returns-in_err-test_sorts c = search (rules, law.sorts_fail)

pub returns-then-sort_count-lhs : goal.returns-then-sort_count-lhs
returns-then-sort_count-lhs c =
    let p = c.in_ok-test_sorts.ensures in
    elim c.then-sort_count-lhs.branch [
      | then-sort_count-lhs-via-then-sort_count-lhs w ↦ law.lhs_fails _ _ _ _ _ p w.if-sort_count-lhs.true
      | then-sort_count-lhs-via-else-sort_count-lhs+then-sort_count-rhs w ↦
          law.rhs_fails _ _ _ _ _ p w.if-sort_count-lhs.false w.if-sort_count-rhs.true
    ]

pub returns-then-sorts-lt-SORT_WORDS : goal.returns-then-sorts-lt-SORT_WORDS
returns-then-sorts-lt-SORT_WORDS c =
    law.length_fails _ _ _ _ _ c.in_ok-test_sorts.ensures c.if-sort_count-lhs.false c.if-sort_count-rhs.false (omega arith)

pub overflow_cast-counts : goal.overflow_cast-counts
overflow_cast-counts c =
    let k = law.list_checked _ _ _ c.args.lhs.0 c.args.rhs.0 c.in_ok-test_sorts.ensures c.if-sort_count-lhs.false c.if-sort_count-rhs.false (omega arith) in
    omega (arith, k.sorts)

pub overflow_cast-counts-2 : goal.overflow_cast-counts-2
overflow_cast-counts-2 c =
    let k = law.list_checked _ _ _ c.args.lhs.0 c.args.rhs.0 c.in_ok-test_sorts.ensures c.if-sort_count-lhs.false c.if-sort_count-rhs.false (omega arith) in
    omega (arith, k.entries)

pub invariant_of-result : goal.invariant_of-result
invariant_of-result c =
    record { checked = law.list_checked _ _ _ c.args.lhs.0 c.args.rhs.0 c.in_ok-test_sorts.ensures c.if-sort_count-lhs.false c.if-sort_count-rhs.false (omega arith) }

pub returns : goal.returns
returns c =
    (refl, law.all_pass _ _ _ _ _ c.in_ok-test_sorts.ensures c.if-sort_count-lhs.false c.if-sort_count-rhs.false (omega arith))
