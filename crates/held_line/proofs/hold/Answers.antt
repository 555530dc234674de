-- A byte is set behind the line, or the line is full. Assumes nothing.
use borrow.Author.Tests.{lt-ltb, le-ltb}
use Rattle.held_line.specs.Holding.{held_at}
use Rattle.held_line.proofs.hold.Goals as goal

pub returns-then-count-most : goal.returns-then-count-most
unfolding held_at
returns-then-count-most c = rw (lt-ltb c.args.count c.args.most c.if-count-most.true)

pub returns : goal.returns
unfolding held_at
returns c = rw (le-ltb c.args.count c.args.most c.if-count-most.false)
