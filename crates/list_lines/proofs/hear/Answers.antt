-- Each arm puts what is printed for what the line came to. Assumes nothing.
use Rattle.std.proofs.Common.{sym, ap, ◌∙◌, Bool}
use Rattle.std.specs.Prelude.{Ok}
use Rattle.text_out.proofs.Outs.{put_then, then_put_nothing}
use Rattle.list_lines.proofs.Ways.{heard}
use Rattle.text_out.specs.Outs.{then_put}
use Rattle.list_lines.specs.Lines.{unasked_text, printed, numbered}
use Rattle.list_lines.proofs.hear.Goals as goal

pub returns-in-Ok-Quiet : goal.returns-in-Ok-Quiet
unfolding printed numbered
returns-in-Ok-Quiet c = heard _ _ _ _ c.take_line.ensures _ (c.in-Ok-Quiet.is ∙ ap Ok c.in-Ok-Quiet.field-0-is) (sym (then_put_nothing _))

pub returns-in-Ok-Begins : goal.returns-in-Ok-Begins
unfolding printed numbered
returns-in-Ok-Begins c =
    heard _ _ _ _ c.take_line.ensures _ (c.in-Ok-Begins.is ∙ ap Ok c.in-Ok-Begins.field-0-is)
    (put_then _ _ _ _ (c.put_unasked.ensures ∙ ap (λ (b : Bool). then_put c.args.out.now (unasked_text b)) c.is_unasked-unasked.ensures) (put_then _ _ _ _ c.put_text.ensures c.put_byte.ensures))

pub returns-in-Ok-Asks : goal.returns-in-Ok-Asks
unfolding printed numbered
returns-in-Ok-Asks c = heard _ _ _ _ c.take_line.ensures _ (c.in-Ok-Asks.is ∙ ap Ok c.in-Ok-Asks.field-0-is) c.answer.ensures

pub returns-in-Ok-AsksOther : goal.returns-in-Ok-AsksOther
unfolding printed numbered
returns-in-Ok-AsksOther c = heard _ _ _ _ c.take_line.ensures _ (c.in-Ok-AsksOther.is ∙ ap Ok c.in-Ok-AsksOther.field-0-is) c.put_text-in-Ok-AsksOther.ensures

pub returns-in-Err : goal.returns-in-Err
unfolding printed numbered
returns-in-Err c = heard _ _ _ _ c.take_line.ensures _ c.in-Err.is c.put_bad.ensures
