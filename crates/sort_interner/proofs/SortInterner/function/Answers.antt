-- The row of its range and arguments is the row of the function. Assumes nothing.
use Rattle.std.proofs.Common.{◌∙◌}
use Rattle.resolved_sort.specs.Inner.Storage.{sort_numbers}
use Rattle.resolved_sort.proofs.BoundsCode as law
use Rattle.sort_interner.proofs.SortInterner.function.Goals as goal

pub returns-clause-interned : goal.returns-clause-interned
returns-clause-interned c =
    let s = c.args.self.now in
    let p = c.requires.fine in
    c.intern.ensures.interned ∙ law.function_interns s.words.now s.counts p.0 (sort_numbers c.args.domain.now) c.args.range.0 p.3 p.1
