-- By copying twice. Assumes nothing.
use Rattle.search_leaf.proofs.Copies as law
use Rattle.search_leaf.proofs.keep.Goals as goal

pub returns : goal.returns
returns c = law.kept_by_two c.args.sizes _ _ _ c.copy.ensures c.copy-2.ensures
