-- By whether there is an incumbent, and whether it is tied. Assumes nothing.
use Rattle.solve_outputs.specs.Inner.Handing.{names_read}
use Rattle.solve_outputs.proofs.Finishing as law
use Rattle.solve_outputs.proofs.judge.Goals as goal

pub returns-in_default-clause-says : goal.returns-in_default-clause-says
returns-in_default-clause-says c =
    let a = c.args in
    law.no_incumbent a.search.now (names_read a.names.now.words.now a.names.now.count) a.handout.now _ c.from-counts.ensures
    c.in_default.is

pub returns-then-incumbent-clause-says : goal.returns-then-incumbent-clause-says
returns-then-incumbent-clause-says c =
    let a = c.args in
    law.tied a.search.now (names_read a.names.now.words.now a.names.now.count) a.handout.now _ c.from-counts.ensures _ c.in-Some.is
    c.if-incumbent.true

pub returns-clause-says : goal.returns-clause-says
returns-clause-says c =
    let a = c.args in
    law.not_tied a.search.now (names_read a.names.now.words.now a.names.now.count) a.handout.now _ c.from-counts.ensures _
    c.in-Some.is c.if-incumbent.false _ c.hand_out.ensures.says
