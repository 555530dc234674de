-- What the lines print, and the LF. Assumes nothing.
use Rattle.std.proofs.Common.{sym, ap, ◌∙◌}
use Rattle.text_out.proofs.Outs.{put_then}
use Rattle.pair_line.specs.Answers.{printed}
use Rattle.text_out.specs.Outs.{then_put}
use Rattle.pair_line.proofs.put_line.Goals.{in-Pair, in-Alone}
use Rattle.pair_line.proofs.put_line.Goals as goal

pub returns : goal.returns
returns c =
    elim c.match-lines.branch [
      | in-Pair w ↦ put_then _ _ _ _ (w.out-is ∙ w.put_pair.ensures) c.put_byte.ensures ∙ sym (ap (λ g. then_put c.args.out.now (printed g)) w.in-Pair.is)
      | in-Alone w ↦ put_then _ _ _ _ (w.out-is ∙ w.put_single.ensures) c.put_byte.ensures ∙ sym (ap (λ g. then_put c.args.out.now (printed g)) w.in-Alone.is)
    ]
