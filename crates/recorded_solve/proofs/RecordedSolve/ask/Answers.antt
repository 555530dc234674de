-- The solver works on slices of its own, and what it leaves is kept. Assumes nothing.
use Rattle.recorded_solve.proofs.Asking as law
use Rattle.recorded_solve.proofs.RecordedSolve.ask.Goals as goal

pub returns-clause-answer : goal.returns-clause-answer
returns-clause-answer c = law.asked c.args.self.now.given _ _ _ _ c.of-slices.ensures c.solve-answer.ensures c.keep.ensures
