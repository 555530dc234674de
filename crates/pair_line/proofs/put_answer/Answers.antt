-- The five parts one after another. Assumes nothing.
use Rattle.std.proofs.Common.{ap, ap₂, ◌∙◌}
use Rattle.resolved_sort.specs.declared.Counts.{Counts}
use Rattle.resolved_sort.specs.Order.{ordering, steps_of, distance, materializable}
use Rattle.resolved_sort.specs.Entries.{tree_at}
use Rattle.pair_line.specs.PairProgram.{sign}
use Rattle.std.specs.Prelude.{true}
use Rattle.pair_line.proofs.Answer as law
use Rattle.pair_line.proofs.put_answer.Goals as goal

pub returns : goal.returns
returns c =
    law.answer_put _ _ _ _ _ c.requires.read _ _ _ c.put_bound.ensures.grows _ _ _ c.put_bound-2.ensures.grows c.args.out.now
    (c.sign.ensures ∙ ap sign (c.partial_cmp.ensures ∙ ap₂ (λ ws (k : Counts). ordering (tree_at ws k.sorts c.args.lhs.0) (tree_at ws k.sorts c.args.rhs.0)) c.sorts.ensures.0 c.sorts.ensures.1))
    c.put_byte.ensures c.put_text.ensures c.put_bound.ensures.put c.put_text-2.ensures c.put_bound-2.ensures.put c.put_text-3.ensures
    (c.widening_distance.ensures ∙ ap₂ (λ ws (k : Counts). steps_of (distance true (tree_at ws k.sorts c.args.lhs.0) (tree_at ws k.sorts c.args.rhs.0))) c.sorts-grown.ensures.0 c.sorts-grown.ensures.1)
    c.put_steps.ensures c.put_text-4.ensures
    (c.is_materializable.ensures ∙ ap₂ (λ ws (k : Counts). materializable (tree_at ws k.sorts c.args.lhs.0) (tree_at ws k.sorts c.args.rhs.0)) c.sorts-grown.ensures.0 c.sorts-grown.ensures.1)
    c.yes_or_no.ensures c.put_text-5.ensures
