-- The row's kind, part and entries are mixed in turn. Assumes nothing.
use Rattle.sort_interner.proofs.Mixing as law
use Rattle.sort_interner.proofs.index.SortIdSought.slot.Goals as goal

pub returns : goal.returns
returns c =
    law.slot_by_words c.args.words.now _ _ _ _ _ _ _ _ _ c.kind_at.ensures c.part_at.ensures c.run_at.ensures.entries
    c.mix.ensures c.mix-h.ensures c.mix_run.ensures c.slot_of_mix.ensures
