-- Both sizes are there: their sum, as far as it goes. Assumes nothing.
use Rattle.std.proofs.Common.{arith}
use Rattle.sort_writer.proofs.Sizes as law
use Rattle.sort_writer.proofs.join_sizes.Goals as goal

pub returns : goal.returns
returns c = law.joined_as _ _ _ c.if-a-eq0.false c.if-b-eq0.false (λ h. omega arith) (λ h. omega arith)
