-- By the answer of the search. Assumes nothing.
use Rattle.solve_outputs.specs.Inner.Handing.{names_read}
use Rattle.solve_outputs.proofs.Finishing as law
use Rattle.solve_outputs.proofs.settle.Goals as goal

pub returns-in-Err-clause-says : goal.returns-in-Err-clause-says
returns-in-Err-clause-says g c told =
    let a = c.args in
    law.room_ended told a.search.now (names_read a.names.now.words.now a.names.now.count) a.handout.now a.entry a.found c.in-Err.full
    c.in-Err.is _ c.give_back.ensures
