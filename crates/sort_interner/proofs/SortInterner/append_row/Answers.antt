-- The row is put and then its arguments, as `append_row` has them. Assumes nothing.
use Rattle.std.proofs.Common.{refl}
use Rattle.sort_interner.proofs.Interned as law
use Rattle.sort_interner.proofs.SortInterner.append_row.Goals as goal

pub returns-clause-words : goal.returns-clause-words
returns-clause-words c =
    let r = c.args.row.now in
    law.row_appended r.kind r.part r.args.now _ _ _ _ _ c.start_of-start.ensures refl _ c.put_row.ensures _ c.put_sorts.ensures
