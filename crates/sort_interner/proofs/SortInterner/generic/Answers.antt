-- The row of its operator and part is the row of the container. Assumes nothing.
use Rattle.std.proofs.Common.{◌∙◌}
use Rattle.resolved_sort.specs.Inner.Storage.{sort_numbers}
use Rattle.resolved_sort.proofs.BoundsCode as law
use Rattle.sort_interner.proofs.SortInterner.generic.Goals as goal

pub returns-clause-interned : goal.returns-clause-interned
unfolding sort_numbers
returns-clause-interned c =
    let s = c.args.self.now in
    let p = c.requires.fine in
    rw c.from.ensures at c.intern.ensures.interned ∙ law.generic_interns s.words.now s.counts p.0 c.args.op c.args.subsort.0 p.1
