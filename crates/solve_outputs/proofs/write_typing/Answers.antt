-- Sorts, base names and choices one after another come to the rows of the typing. Assumes nothing.
use Rattle.inference.specs.Constraints.{base_name_at, rows_from}
use Rattle.solve_outputs.proofs.TypingRows.{typing_handed_out}
use Rattle.solve_outputs.proofs.write_typing.Goals as goal

pub returns : goal.returns
returns c =
    let a = c.args in
    typing_handed_out a.search.now.scratch.now a.typing.now a.search.now.lists.now
    (rows_from (base_name_at a.names.now.words.now) 0 a.names.now.count)
    a.search.now.sizes c.requires.0 c.requires.1 a.search.now.room c.write_sorts.new.typing c.write_base_names.new.typing
    c.write_chosen_names.new.typing c.write_sorts.ensures c.write_base_names.ensures c.write_chosen_names.ensures
