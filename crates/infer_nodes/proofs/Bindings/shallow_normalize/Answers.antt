-- A binding leads to a place of lower rank; where no binding is, the end is reached. Assumes nothing.
use Rattle.infer_nodes.proofs.Passing.{ready_of}
use Rattle.infer_nodes.proofs.Ways as law
use Rattle.infer_nodes.proofs.Bindings.shallow_normalize.Goals as goal

pub loop-next-smaller : goal.loop-next-smaller
loop-next-smaller c = law.next_lower _ _ _ _ (ready_of _ _ _ _ c.args.self.now.passed) c.args.id.0 _ c.loop-next.invariant _ c.in-Some.ensures

pub loop-next-preserved : goal.loop-next-preserved
loop-next-preserved c = law.one_further _ _ _ _ (ready_of _ _ _ _ c.args.self.now.passed) _ _ c.loop-next.invariant _ c.in-Some.ensures

pub returns : goal.returns
returns c = law.ends_here _ _ _ _ (ready_of _ _ _ _ c.args.self.now.passed) _ _ c.loop-next.invariant c.in_default.ensures
