-- Each arm rewrites by the kind it tested; another kind is below a List's, or past an FBag's. Assumes nothing.
use Rattle.std.proofs.Common.{arith}
use Rattle.resolved_sort.proofs.Containers as law
use Rattle.resolved_sort.specs.Storage.{container_of}
use Rattle.resolved_sort.proofs.ComplexSortTryFromU16.try_from.Goals as goal

pub returns-in-6 : goal.returns-in-6
unfolding container_of
returns-in-6 c = rw c.in-6.is

pub returns-in-7 : goal.returns-in-7
unfolding container_of
returns-in-7 c = rw c.in-7.is

pub returns-in-8 : goal.returns-in-8
unfolding container_of
returns-in-8 c = rw c.in-8.is

pub returns-in-9 : goal.returns-in-9
unfolding container_of
returns-in-9 c = rw c.in-9.is

pub returns-in-10 : goal.returns-in-10
unfolding container_of
returns-in-10 c = rw c.in-10.is

pub returns-in_default : goal.returns-in_default
returns-in_default c = law.no_container c.args.kind (λ e. omega (arith, e)) (λ e. omega (arith, e)) (λ e. omega (arith, e)) (λ e. omega (arith, e)) (λ e. omega (arith, e))
