-- The counts as they are given, and those of components and disjunctions as they are counted. Assumes nothing.
use Rattle.solve_outputs.proofs.Finishing.{sizes_counted}
use Rattle.solve_outputs.proofs.sizes_of.Goals as goal

pub returns : goal.returns
returns c =
    sizes_counted c.args.problem.now c.components-parts.result c.disjunction_count-choices.result
    c.components-parts.ensures c.disjunction_count-choices.ensures
