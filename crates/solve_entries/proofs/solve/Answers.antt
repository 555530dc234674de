-- `solve` meets its contract: the first failing check, or what the search comes to. Assumes nothing.
use Rattle.std.proofs.Common.{ap, ◌∙◌}
use Rattle.inference.specs.SolveEntry.{Solved}
use Rattle.resolved_sort.proofs.Testing.{handed_on}
use Rattle.solve_outputs.specs.Handout.{solve_left_with}
use Rattle.solve_outputs.specs.Inner.Begin.{outs_of}
use Rattle.solve_entries.proofs.Laws as law
use Rattle.solve_entries.proofs.solve.Goals as goal

pub solve_passed-requires : goal.solve_passed-requires
solve_passed-requires c =
    let a = c.args in
    let h = a.handout.now in
    law.passes a.problem.now a.sorts.now a.nodes.now a.binds.now a.scratch.now a.index.now h _
    (c.test_solve.ensures (outs_of a.scratch.now a.index.now h.typing.now h.measure.now h.choices.now)) c.in_ok-test_solve.was

pub returns-in_err-test_solve-clause-says : goal.returns-in_err-test_solve-clause-says
returns-in_err-test_solve-clause-says c =
    let a = c.args in
    let h = a.handout.now in
    ap (λ (r : Solved). solve_left_with r a.sorts.now a.nodes.now a.binds.now a.scratch.now a.index.now h) (handed_on _ _ c.from_residual.ensures.1)
    ∙ law.refused_so a.problem.now a.sorts.now a.nodes.now a.binds.now a.scratch.now a.index.now h _
    (c.test_solve.ensures (outs_of a.scratch.now a.index.now h.typing.now h.measure.now h.choices.now)) _ c.in_err-test_solve.was
