-- Inside its list, what `all` ran is what the definition tests. Assumes nothing.
use Rattle.std.proofs.Common.{le-leb, leb, of_calls, refl, ◌+◌, ◌∙◌}
use Rattle.std.proofs.lemmas.Bool.{lt-leb}
use Rattle.resolved_sort.proofs.ByAll.{all_below_by_all}
use Rattle.solve_checks.proofs.Fine as fine
use Rattle.solve_checks.proofs.run_fine.Goals as goal
use Rattle.solve_checks.proofs.run_fine.Goals.{then-run-count, else-run-count}

pub returns : goal.returns
returns g c = λ I f h.
    let n = c.args.run.start + c.args.run.count in
    elim c.if-run-count.branch [
      | then-run-count w ↦
          fine.then _ _ (leb n c.args.count) refl (le-leb n c.args.count w.if-run-count.true) _
          (w.result-is ∙ all_below_by_all _ _ _ _ _ refl w.all.ensures.ran (λ x b q k. search (of_calls, h)))
      | else-run-count w ↦
          let no = lt-leb n c.args.count w.if-run-count.false in
          w.result-is ∙ fine.stops _ _ (leb n c.args.count) refl no
    ]
