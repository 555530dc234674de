-- Typing, measure and choices, one after the other; each has its own slice. Assumes nothing.
use Rattle.solve_outputs.specs.Inner.Handing.{names_read}
use Rattle.solve_outputs.proofs.Finishing as law
use Rattle.solve_outputs.proofs.hand_out.Goals as goal

pub returns-clause-says : goal.returns-clause-says
returns-clause-says c =
    let s = c.args.search.now in
    let h = c.args.handout.now in
    law.hands_out s.scratch.now s.lists.now (names_read c.args.names.now.words.now c.args.names.now.count) s.sizes h.typing.now h.measure.now
    h.choices.now c.requires _ _ c.from.ensures _ _ _ c.write_typing.ensures c.write_measure.ensures c.write_choices.ensures
