-- Refused with the first failing check; else what was made stays or is given back, and the index, as long as it was lent, is zero. Assumes
-- nothing.
use Rattle.std.proofs.Common.{rules, arith}
use Rattle.resolved_sort.proofs.Testing.{handed_on}
use Rattle.sort_entries.proofs.Laws as law
use Rattle.sort_entries.proofs.bound.Goals as goal

pub returns-in_err-counts : goal.returns-in_err-counts
returns-in_err-counts c =
    law.bound_refused _ _ _ _ _ _ _ _ c.in_err-counts.ensures _ (handed_on _ _ c.from_residual.ensures.1)

pub returns-then-index-lt-SLOTS : goal.returns-then-index-lt-SLOTS
returns-then-index-lt-SLOTS c =
    law.index_short c.args.up _ _ _ _ _ _ _ c.in_ok-counts.ensures.1 (omega arith)

pub bound-bound-requires-clause-asked : goal.bound-bound-requires-clause-asked
bound-bound-requires-clause-asked c = law.asked _ _ _ _ _ _ c.in_ok-counts.ensures.1

pub kept_or_given_back-requires : goal.kept_or_given_back-requires
kept_or_given_back-requires c =
    let k = law.asked _ _ _ _ _ _ c.in_ok-counts.ensures.1 in
    (k.checked.sorts, k.checked.entries, omega (arith, k.checked.long))

pub returns : goal.returns
returns c =
    law.bound_answered_with c.args.up _ _ _ _ _ _ _ c.in_ok-counts.ensures.1 (omega arith) _ _ _ c.bound-bound.ensures.left
    _ _ _ _ _ c.kept_or_given_back.ensures (search rules) (omega arith)
