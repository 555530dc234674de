-- The places of a list, one by one. Assumes nothing.
use Rattle.std.proofs.Common.{rules}
use Rattle.search_steps.proofs.Laws as law
use Rattle.search_steps.proofs.listed_tries.Goals as goal

pub returns : goal.returns
returns c = law.tries_listed c.args.up c.args.other c.args.listed (search rules) c.args.listed.few
