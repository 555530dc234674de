-- Each arm rewrites by the word it tested; another one is none. Assumes nothing.
use Rattle.std.proofs.Common.{arith}
use Rattle.inference.proofs.NoKinds as law
use Rattle.inference.specs.Kinds.{kind_of_literal}
use Rattle.inference.proofs.LitKindTryFromU16.try_from.Goals as goal

pub returns-in-0 : goal.returns-in-0
unfolding kind_of_literal
returns-in-0 c = rw c.in-0.is

pub returns-in-1 : goal.returns-in-1
unfolding kind_of_literal
returns-in-1 c = rw c.in-1.is

pub returns-in_default : goal.returns-in_default
returns-in_default c = law.no_literal c.args.word (λ e. omega (arith, e)) (λ e. omega (arith, e))
