-- Two runs differ by their count, else what `all` ran compares them entry by entry. Assumes nothing.
use Rattle.std.proofs.Common.{of_calls, refl, ◌∙◌}
use Rattle.resolved_sort.proofs.ByAll.{all_below_by_all}
use Rattle.sort_interner.proofs.Runs as law
use Rattle.sort_interner.proofs.same_run.Goals as goal

pub returns-then-a-b : goal.returns-then-a-b
returns-then-a-b c = law.runs_differ_by_count _ _ _ _ _ c.if-a-b.true

pub returns : goal.returns
returns c =
    all_below_by_all _ _ _ _ (law.same_entry c.args.words.now c.args.a.start c.args.b.start) refl c.all.ensures.ran
    (λ x b q k. search of_calls)
    ∙ law.runs_by_all _ _ _ _ _ c.if-a-b.false
