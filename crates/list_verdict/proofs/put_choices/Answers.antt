-- The word, the choices or that there are none, and the LF. Assumes nothing.
use Rattle.std.proofs.Common.{◌∙◌}
use Rattle.text_out.proofs.Outs.{put_then}
use Rattle.list_verdict.proofs.Rows as rows
use Rattle.list_verdict.specs.Text.{choices_line}
use Rattle.list_verdict.proofs.put_choices.Goals as goal
use Rattle.list_verdict.proofs.put_choices.Goals.{then-typing-eq0, else-typing-eq0}

pub loop-i-preserved : goal.loop-i-preserved
loop-i-preserved c = rows.one_row_more _ _ _ _ _ _ c.loop-i.invariant c.loop-i-test.true c.put_choice.ensures

pub returns : goal.returns
unfolding choices_line
returns c =
    put_then _ _ _ _ c.put_text.ensures
    (put_then _ _ _ _
    (let all = rows.all_rows _ _ _ _ _ _ c.loop-i.invariant c.loop-i-test.false in
    elim c.if-typing-eq0.branch [
      | then-typing-eq0 w ↦ rows.no_choices _ _ _ _ _ w.if-typing-eq0.true (w.out-is ∙ w.put_text-then-typing-eq0.ensures) all
      | else-typing-eq0 w ↦ rows.some_choices _ _ _ _ _ w.if-typing-eq0.false w.out-is all
    ])
    c.put_byte.ensures)
