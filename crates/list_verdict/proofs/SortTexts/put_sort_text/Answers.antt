-- A short text has room. Assumes nothing.
use Rattle.std.proofs.Common.{sym, ◌∙◌}
use Rattle.list_verdict.proofs.Ways as way
use Rattle.list_verdict.proofs.SortTexts.put_sort_text.Goals as goal

pub put_text-requires : goal.put_text-requires
put_text-requires c = way.below _ _ _ _ c.args.self.now.sized (sym c.is_short.ensures ∙ c.if-is_short.true)
