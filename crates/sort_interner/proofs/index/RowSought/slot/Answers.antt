-- Kind, part and arguments are mixed in turn. Assumes nothing.
use Rattle.sort_interner.specs.Inner.Tests.{given_row}
use Rattle.sort_interner.proofs.Mixing as law
use Rattle.sort_interner.proofs.index.RowSought.slot.Goals as goal

pub returns : goal.returns
returns c =
    let r = c.args.self.now in
    law.slot_by_parts (given_row r.kind r.part r.args.now) _ _ _ _ c.mix.ensures c.mix-2.ensures c.mix_args.ensures c.slot_of_mix.ensures
