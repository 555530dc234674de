-- The slices that are told are copies of the parts of the list, lent as far as it tells. Assumes nothing.
use Rattle.std.proofs.Common.{arith}
use Rattle.list_call.proofs.Lists as list
use Rattle.list_answers.proofs.Telling as law
use Rattle.list_answers.proofs.answer.Goals as goal

pub slice_bounds-handout-end : goal.slice_bounds-handout-end
slice_bounds-handout-end c =
    list.front_length c.args.list.now 27648 1536 _ (omega arith) c.copied-typing.ensures _ c.length_of-typing_end.ensures.1

pub slice_bounds-handout-end-2 : goal.slice_bounds-handout-end-2
slice_bounds-handout-end-2 c =
    list.front_length c.args.list.now 29184 256 _ (omega arith) c.copied-measure.ensures _ c.length_of-measure_end.ensures.1

pub slice_bounds-handout-end-3 : goal.slice_bounds-handout-end-3
slice_bounds-handout-end-3 c =
    list.front_length c.args.list.now 29440 512 _ (omega arith) c.copied-choices.ensures _ c.length_of-choices_end.ensures.1

pub slice_bounds-ask_and_tell-end-2 : goal.slice_bounds-ask_and_tell-end-2
slice_bounds-ask_and_tell-end-2 c =
    list.front_length c.args.list.now 0 8192 _ (omega arith) c.copied-sorts.ensures _ c.length_of-sorts_end.ensures.1

pub returns : goal.returns
returns c =
    let ws = c.args.list.now in
    law.all_lent ws _ _ _ _ _ _
    (list.front_lent ws 0 8192 _ (omega arith) c.copied-sorts.ensures _ _ _ c.length_of-sorts_end.ensures.0 c.length_of-sorts_end.ensures.1)
    (list.front_lent ws 27648 1536 _ (omega arith) c.copied-typing.ensures _ _ _ c.length_of-typing_end.ensures.0 c.length_of-typing_end.ensures.1)
    (list.front_lent ws 29184 256 _ (omega arith) c.copied-measure.ensures _ _ _ c.length_of-measure_end.ensures.0 c.length_of-measure_end.ensures.1)
    (list.front_lent ws 29440 512 _ (omega arith) c.copied-choices.ensures _ _ _ c.length_of-choices_end.ensures.0 c.length_of-choices_end.ensures.1)
    c.ask_and_tell.ensures
