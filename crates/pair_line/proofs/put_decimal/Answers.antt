-- The digits of a number are those of a number of one byte. Assumes nothing.
use Rattle.std.proofs.Common.{arith, ap, ◌∙◌}
use Rattle.text_out.specs.Decimal.{decimal}
use Rattle.text_out.specs.Outs.{then_put}
use Rattle.pair_line.proofs.Ways as law
use Rattle.pair_line.proofs.put_decimal.Goals as goal

pub returns : goal.returns
returns c = c.put_number.ensures ∙ ap (then_put _) (ap decimal c.from.ensures ∙ law.byte_decimal c.args.n (omega arith))
