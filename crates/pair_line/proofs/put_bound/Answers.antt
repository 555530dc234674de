-- By what join or meet comes to; room does not end. Assumes nothing.
use Rattle.std.proofs.Common.{sym, ap, ap₂, subst, ◌∙◌, ◌<◌}
use Rattle.resolved_sort.specs.declared.Counts.{Counts}
use Rattle.resolved_sort.specs.Entries.{tree_at}
use Rattle.sort_text.specs.Text.{text}
use Rattle.text_out.specs.Outs.{then_put}
use Rattle.pair_line.proofs.Bounds as law
use Rattle.pair_line.proofs.put_bound.Goals as goal

pub sorts-requires : goal.sorts-requires
sorts-requires c = (law.some_made _ _ _ _ _ _ c.requires.room c.bound.new.sorts.words.now c.bound.new.sorts.counts c.bound.result c.bound.ensures.left c.unwrap_or.ensures c.in-Some.is).checked

pub put_text-requires : goal.put_text-requires
put_text-requires c =
    subst (λ (k : Counts). c.in-Some.id.0 < k.sorts) (sym c.sorts.ensures.1)
    (law.some_made _ _ _ _ _ _ c.requires.room c.bound.new.sorts.words.now c.bound.new.sorts.counts c.bound.result c.bound.ensures.left c.unwrap_or.ensures c.in-Some.is).below

pub returns-in-Some-clause-put : goal.returns-in-Some-clause-put
returns-in-Some-clause-put c =
    c.put_text.ensures
    ∙ (ap₂ (λ ws (k : Counts). then_put c.args.out.now (text (tree_at ws k.sorts c.in-Some.id.0))) c.sorts.ensures.0 c.sorts.ensures.1
    ∙ ap (then_put c.args.out.now) (law.some_made _ _ _ _ _ _ c.requires.room c.bound.new.sorts.words.now c.bound.new.sorts.counts c.bound.result c.bound.ensures.left c.unwrap_or.ensures c.in-Some.is).is)

pub returns-in-Some-clause-grows : goal.returns-in-Some-clause-grows
returns-in-Some-clause-grows c = (law.some_made _ _ _ _ _ _ c.requires.room c.bound.new.sorts.words.now c.bound.new.sorts.counts c.bound.result c.bound.ensures.left c.unwrap_or.ensures c.in-Some.is).grows

pub returns-in-None-clause-put : goal.returns-in-None-clause-put
returns-in-None-clause-put c = c.put_text-in-None.ensures ∙ ap (then_put c.args.out.now) (law.none_made _ _ _ _ _ _ c.requires.room c.bound.new.sorts.words.now c.bound.new.sorts.counts c.bound.result c.bound.ensures.left c.unwrap_or.ensures c.in-None.is).0

pub returns-in-None-clause-grows : goal.returns-in-None-clause-grows
returns-in-None-clause-grows c = (law.none_made _ _ _ _ _ _ c.requires.room c.bound.new.sorts.words.now c.bound.new.sorts.counts c.bound.result c.bound.ensures.left c.unwrap_or.ensures c.in-None.is).1
