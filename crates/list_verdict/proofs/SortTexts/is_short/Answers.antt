-- By the size. Assumes nothing.
use Rattle.list_verdict.proofs.Ways as way
use Rattle.list_verdict.proofs.SortTexts.is_short.Goals as goal

pub returns-then-size-gt0 : goal.returns-then-size-gt0
returns-then-size-gt0 c = way.short_by_size _ _ _ _ c.args.self.now.sized _ c.size_at-size.ensures c.if-size-gt0.true

pub returns-else-size-gt0 : goal.returns-else-size-gt0
returns-else-size-gt0 c = way.not_short _ _ _ _ c.args.self.now.sized _ c.size_at-size.ensures c.if-size-gt0.false
