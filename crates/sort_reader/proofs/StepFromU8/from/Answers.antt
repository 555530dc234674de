-- A step past the fixed six is read by its kind. Assumes nothing.
use Rattle.std.proofs.Common.{arith}
use Rattle.sort_reader.proofs.Steps as law
use Rattle.sort_reader.proofs.StepFromU8.from.Goals as goal

pub returns-in-Ok : goal.returns-in-Ok
returns-in-Ok c = law.container_step _ _ c.from-kind.ensures (omega arith) _ c.in-Ok.ensures

pub returns-in-Err : goal.returns-in-Err
returns-in-Err c =
    law.function_step _ _ c.from-kind.ensures (omega arith) _ c.in-Err.ensures _ (omega (arith, c.from.ensures, c.saturating_sub.ensures))
