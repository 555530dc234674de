-- What `hear` leaves says the words of the list, whether the number stands before, and what is at the front of the buffer.
-- Assumes nothing.
use Rattle.std.proofs.Common.{refl, sym}
use Rattle.std.proofs.Math.Seq.{length-take-le}
use Rattle.std.proofs.lemmas.Result.{on_ok_weaker}
use Rattle.solve_lists.proofs.Runs as law
use Rattle.solve_lists.proofs.write_line.Goals as goal

pub returns-in_err-write_number-clause-words : goal.returns-in_err-write_number-clause-words
returns-in_err-write_number-clause-words g c = law.words_heard _ _ _ _ _ _ c.hear-numbered.ensures

pub slice_bounds-write-end : goal.slice_bounds-write-end
slice_bounds-write-end g c =
    sym (length-take-le _ _ (law.heard_within _ _ _ _ _ _ c.hear-numbered.ensures refl c.requires.0 c.requires.1))

pub returns-clause-words : goal.returns-clause-words
returns-clause-words g c = law.words_heard _ _ _ _ _ _ c.hear-numbered.ensures

pub returns-clause-written : goal.returns-clause-written
returns-clause-written g c =
    on_ok_weaker _
    (law.line_written _ _ _ _ _ _ c.hear-numbered.ensures refl c.requires.0 c.requires.1 c.args.number _ _ _ c.in_ok-write_number.ensures)
    c.write.ensures
