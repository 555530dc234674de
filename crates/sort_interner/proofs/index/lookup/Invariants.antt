-- Looking on through the slots left finds what the whole lookup finds. Assumes nothing.
use Rattle.std.proofs.Common.{◌≡◌, ◌-◌}
use Rattle.resolved_sort.specs.Index.{slots, seen, first_of, lookup}
use Rattle.sort_interner.proofs.index.lookup.Given as goal

abbrev pub invariant-loop : goal.invariant-loop
invariant-loop g l =
    lookup l.words l.index (g.R.Sought.row_in l.row l.words)
    ≡ first_of l.words (g.R.Sought.row_in l.row l.words) (seen l.index (slots - l.counter) l.at)
