-- The words that are looked at are those of the records up to the ceiling. Assumes nothing.
use Rattle.std.proofs.Common.{List, ap, length, take, ℕ, ◌*◌, ◌∙◌}
use Rattle.inference.specs.SolveEntry.{solve_entry}
use Rattle.solve_records.specs.Call.{call_over}
use Rattle.solve_records.specs.Inner.Records.{words_of_count}
use Rattle.solve_records.proofs.Unpacked.{words_looked_at}
use Rattle.solve_records.proofs.solve_records.Goals as goal

pub returns-clause-says : goal.returns-clause-says
returns-clause-says c =
    let a = c.args in
    c.solve.ensures.says
    ∙ ap (λ (os : List ℕ). solve_entry (call_over a.problem.now os a.sorts.now a.nodes.now a.binds.now a.scratch.now a.index.now a.handout.now))
    (ap (λ (n : ℕ). take (3 * n) c.unpack-words.result) c.at_most-used.ensures
    ∙ ap (λ (l : List ℕ). take (words_of_count (length a.overloads.now)) l) c.unpack-words.ensures
    ∙ words_looked_at a.overloads.now)
