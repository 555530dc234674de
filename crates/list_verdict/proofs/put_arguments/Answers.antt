-- A space and the name of the sort. Assumes nothing.
use Rattle.std.proofs.Common.{ap, ◌∙◌}
use Rattle.text_out.specs.Outs.{then_put}
use Rattle.text_out.proofs.Outs.{put_then}
use Rattle.list_verdict.proofs.Rows as rows
use Rattle.list_verdict.specs.Text.{argument_text, sort_name}
use Rattle.list_verdict.proofs.put_arguments.Goals as goal

pub loop-i-preserved : goal.loop-i-preserved
unfolding argument_text
loop-i-preserved c =
    rows.one_row_more _ _ _ _ _ _ c.loop-i.invariant c.loop-i-test.true
    (put_then _ _ _ _ c.put_byte.ensures
    (c.put_sort_name.ensures ∙ ap (λ s. then_put c.put_byte.new.self (sort_name s)) c.word.ensures))
