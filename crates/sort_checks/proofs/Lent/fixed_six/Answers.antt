-- What `all` ran is what the definition tests of six rows. Assumes nothing.
use Rattle.std.proofs.Common.{of_calls, refl}
use borrow.Author.Tests.{le-leb, lt-leb}
use Rattle.resolved_sort.specs.Checks.{fixed_six}
use Rattle.resolved_sort.proofs.ByAll.{all_below_by_all}
use Rattle.sort_checks.proofs.Lent.fixed_six.Goals as goal

pub returns-then-self-ge6 : goal.returns-then-self-ge6
unfolding fixed_six
returns-then-self-ge6 c =
    rw (le-leb 6 c.args.self.now.sorts c.if-self-ge6.true)
    (all_below_by_all _ _ _ _ _ refl c.all.ensures.ran (λ x b q k. search of_calls))

pub returns-else-self-ge6 : goal.returns-else-self-ge6
unfolding fixed_six
returns-else-self-ge6 c = rw (lt-leb 6 c.args.self.now.sorts c.if-self-ge6.false)
