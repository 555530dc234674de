-- Each arm rewrites by the word it tested; another one is none. Assumes nothing.
use Rattle.std.proofs.Common.{arith}
use Rattle.inference.proofs.NoKinds as law
use Rattle.inference.specs.Kinds.{kind_of_name}
use Rattle.inference.proofs.NameKindTryFromU16.try_from.Goals as goal

pub returns-in-1 : goal.returns-in-1
unfolding kind_of_name
returns-in-1 c = rw c.in-1.is

pub returns-in-2 : goal.returns-in-2
unfolding kind_of_name
returns-in-2 c = rw c.in-2.is

pub returns-in-3 : goal.returns-in-3
unfolding kind_of_name
returns-in-3 c = rw c.in-3.is

pub returns-in_default : goal.returns-in_default
returns-in_default c = law.no_name c.args.word (λ e. omega (arith, e)) (λ e. omega (arith, e)) (λ e. omega (arith, e))
