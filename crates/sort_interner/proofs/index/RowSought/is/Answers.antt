-- A row given is tested by name. Assumes nothing.
use Rattle.sort_interner.specs.Inner.Tests.{is_row}
use Rattle.sort_interner.proofs.index.RowSought.is.Goals as goal

pub returns : goal.returns
unfolding is_row
returns c = c.is_row.ensures
