-- One more byte of the text. Assumes nothing.
use Rattle.std.proofs.Common.{arith}
use Rattle.std.proofs.lemmas.Grind.{common_steps}
use Rattle.text_out.proofs.Outs.{then_put_both}
use Rattle.text_out.proofs.Out.put_text.Goals as goal

pub loop-byte-preserved : goal.loop-byte-preserved
loop-byte-preserved c = grind (arith, common_steps, then_put_both, c.loop-byte.invariant, c.put_byte.ensures)
