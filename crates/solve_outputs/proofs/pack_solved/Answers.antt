-- A refusal's number, or a verdict packed. Assumes nothing.
use Rattle.std.proofs.Common.{◌∙◌, rules}
use Rattle.solve_outputs.proofs.Fields as law
use Rattle.solve_outputs.proofs.pack_solved.Goals as goal

pub returns : goal.returns
returns c = c.pack.ensures ∙ law.solved_by c.args.answer _ _ c.map.ensures.cases (λ v n q. search rules)
