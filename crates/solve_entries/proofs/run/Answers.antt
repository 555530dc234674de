-- `run` meets its contract: what is left after the search from nothing, with its verdict or with what ended told as a refusal. Assumes nothing.
use Rattle.unification.specs.Full.{refusal_of}
use Rattle.solve_outputs.specs.Inner.Handing.{names_read}
use Rattle.solve_entries.proofs.Laws as law
use Rattle.solve_entries.proofs.run.Goals as goal

pub returns-in_err-finish-clause-says : goal.returns-in_err-finish-clause-says
returns-in_err-finish-clause-says c =
    law.search_told c.args.search.now c.requires.fine.0 _ c.nothing_taken.ensures _ _ c.solve-found.ensures.comes
    (names_read c.args.names.now.words.now c.args.names.now.count) c.args.handout.now _ _
    (law.ending_told _ _ c.in_err-finish.was _ c.from_residual.ensures.1) _ _ _ _ _ _ _ _ (c.finish.ensures.says refusal_of)

pub returns-clause-says : goal.returns-clause-says
returns-clause-says c =
    law.search_told c.args.search.now c.requires.fine.0 _ c.nothing_taken.ensures _ _ c.solve-found.ensures.comes
    (names_read c.args.names.now.words.now c.args.names.now.count) c.args.handout.now _ _
    (law.verdict_told _ _ c.in_ok-finish.was) _ _ _ _ _ _ _ _ (c.finish.ensures.says refusal_of)
