-- A run and sorts differ by their count, else what `all` ran compares them one by one. Assumes nothing.
use Rattle.std.proofs.Common.{of_calls, refl, ◌∙◌}
use Rattle.resolved_sort.proofs.ByAll.{all_below_by_all}
use Rattle.sort_interner.proofs.Runs as law
use Rattle.sort_interner.proofs.has_args.Goals as goal

pub returns-then-run-args : goal.returns-then-run-args
returns-then-run-args c = law.args_differ_by_count _ _ _ _ c.if-run-args.true

pub returns : goal.returns
returns c =
    all_below_by_all _ _ _ _ (law.same_arg c.args.words.now c.args.run.start c.args.args.now) refl c.all.ensures.ran
    (λ x b q k. search of_calls)
    ∙ law.args_by_all _ _ _ _ c.if-run-args.false
