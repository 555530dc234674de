-- What is put is what the kind says. Assumes nothing.
use Rattle.text_out.proofs.Outs.{put_then}
use Rattle.inference.specs.declared.NameKind.TheVariants.{Variable, Op, Builtin}
use Rattle.list_verdict.proofs.Targets as law
use Rattle.list_verdict.proofs.SortTexts.put_target.Goals as goal

pub returns-in-Ok-Variable : goal.returns-in-Ok-Variable
returns-in-Ok-Variable c =
    let sorts = c.args.self.now.sorts in
    law.put_said sorts.words.now sorts.counts.sorts c.args.id.0 _ _ _ c.try_from.ensures _ Variable c.in-Ok-Variable.is
    c.in-Ok-Variable.field-0-is _ c.put_text.ensures

pub returns-in-Ok-Op : goal.returns-in-Ok-Op
returns-in-Ok-Op c =
    let sorts = c.args.self.now.sorts in
    law.put_said sorts.words.now sorts.counts.sorts c.args.id.0 _ _ _ c.try_from.ensures _ Op c.in-Ok-Op.is
    c.in-Ok-Op.field-0-is _ (put_then _ _ _ _ c.put_text-in-Ok-Op.ensures c.put_sort_text.ensures)

pub returns-in-Ok-Builtin : goal.returns-in-Ok-Builtin
returns-in-Ok-Builtin c =
    let sorts = c.args.self.now.sorts in
    law.put_said sorts.words.now sorts.counts.sorts c.args.id.0 _ _ _ c.try_from.ensures _ Builtin c.in-Ok-Builtin.is
    c.in-Ok-Builtin.field-0-is _ c.put_text-in-Ok-Builtin.ensures

pub returns-in-Err : goal.returns-in-Err
returns-in-Err c =
    let sorts = c.args.self.now.sorts in
    law.put_none sorts.words.now sorts.counts.sorts c.args.id.0 _ _ _ c.try_from.ensures _ c.in-Err.is
