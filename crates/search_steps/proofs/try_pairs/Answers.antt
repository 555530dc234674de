-- By the side. Assumes nothing.
use Rattle.std.proofs.Common.{rules}
use Rattle.search_steps.proofs.Laws as law
use Rattle.search_steps.proofs.try_pairs.Goals as goal

pub returns-then-t : goal.returns-then-t
returns-then-t c = law.place_on_left c.args.t c.args.j c.if-t.true c.unwrap_or-place.result (search rules)

pub returns : goal.returns
returns c = law.place_on_right c.args.t c.args.j c.if-t.false c.unwrap_or-place.result (search rules)
