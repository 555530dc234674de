-- Each answer is what the row says of the sort, by a law, and each call falls by a law. Assumes nothing.
use Rattle.std.proofs.Common.{◌∙◌, ap}
use Rattle.text_out.specs.Outs.{then_put}
use Rattle.sort_writer.proofs.Texts as law
use Rattle.sort_writer.proofs.+put_text.Goals.{then-k-gt0, else-k-gt0}
use Rattle.sort_writer.proofs.+put_text.Goals as goal

pub put_text-requires-in-Container-2 : goal.put_text-requires-in-Container-2
put_text-requires-in-Container-2 t c =
    law.part_falls c.args.sorts.now.checked c.requires c.get.ensures c.in-Container.is c.decreases

pub put_text-requires-in-loop-k : goal.put_text-requires-in-loop-k
put_text-requires-in-loop-k t c =
    law.argument_falls c.args.sorts.now.checked c.requires c.get.ensures c.in-Function.is c.decreases c.loop-k-test.true c.argument.ensures

pub loop-k-preserved : goal.loop-k-preserved
loop-k-preserved t c =
    law.one_more _ _ _ _ _ _ _ c.loop-k-test.true c.loop-k.invariant _
    (elim c.if-k-gt0.branch [
      | then-k-gt0 w ↦ w.out-is ∙ law.before_later _ _ _ w.if-k-gt0.true w.put_text-then-k-gt0.ensures
      | else-k-gt0 w ↦ w.out-is ∙ law.before_first _ _ w.if-k-gt0.false
    ])
    _ c.argument.ensures _ c.put_text-in-loop-k.ensures

pub put_text-requires-in-Function-2 : goal.put_text-requires-in-Function-2
put_text-requires-in-Function-2 t c =
    law.range_falls c.args.sorts.now.checked c.requires c.get.ensures c.in-Function.is c.decreases

pub returns-in-Unit : goal.returns-in-Unit
returns-in-Unit t c = law.no_text_put c.args.sorts.now.checked c.requires c.get.ensures c.in-Unit.is c.args.out.now

pub returns-in-Primitive : goal.returns-in-Primitive
returns-in-Primitive t c =
    law.word_put c.args.sorts.now.checked c.requires c.get.ensures c.in-Primitive.is c.args.out.now (c.put_text.ensures ∙ ap (then_put c.args.out.now) c.sort_word.ensures)

pub returns-in-Container : goal.returns-in-Container
returns-in-Container t c =
    law.container_put c.args.sorts.now.checked c.requires c.get.ensures c.in-Container.is c.args.out.now
    (c.put_text-in-Container.ensures ∙ ap (then_put c.args.out.now) c.op_word.ensures) c.put_byte.ensures c.put_text-in-Container-2.ensures c.put_byte-in-Container.ensures

pub returns-after-loop-k : goal.returns-after-loop-k
returns-after-loop-k t c =
    law.function_put c.args.sorts.now.checked c.requires c.get.ensures c.in-Function.is c.args.out.now
    (law.all_put _ _ _ _ _ _ _ c.loop-k-test.false c.loop-k.invariant) c.put_text-in-Function.ensures c.put_text-in-Function-2.ensures
