-- What the variable is bound to. Assumes nothing.
use Rattle.std.proofs.Common.{◌∙◌}
use Rattle.infer_nodes.proofs.Passing.{ready_of}
use Rattle.infer_nodes.proofs.Ways as law
use Rattle.infer_nodes.proofs.Bindings.bound_to.Goals as goal

pub returns : goal.returns
returns c = c.binding.ensures ∙ law.variable_bound _ _ _ _ (ready_of _ _ _ _ c.args.self.now.passed) _ _ _ c.variable_at.ensures c.in_ok-variable_at.was
