-- The word, the components and the end. Assumes nothing.
use Rattle.text_out.proofs.Outs.{put_then}
use Rattle.list_verdict.proofs.Rows as rows
use Rattle.list_verdict.specs.Text.{measure_line}
use Rattle.list_verdict.proofs.put_measure.Goals as goal

pub returns : goal.returns
unfolding measure_line
returns c =
    put_then _ _ _ _ c.put_text.ensures
    (put_then _ _ _ _ (rows.all_rows _ _ _ _ _ _ c.loop-i.invariant c.loop-i-test.false) c.put_text-2.ensures)
