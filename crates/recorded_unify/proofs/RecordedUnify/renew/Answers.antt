-- A copy of the bindings. Assumes nothing.
use Rattle.std.proofs.Common.{arith, length, ap, ◌∙◌}
use Rattle.std.proofs.lemmas.List.Edits.{sets}
use Rattle.recorded_unify.specs.Inner.Lines.{renewed}
use Rattle.problem_words.proofs.Wholes as law
use Rattle.recorded_unify.proofs.RecordedUnify.renew.Goals as goal

pub returns : goal.returns
unfolding renewed
returns c =
    ap (λ ws. record c.args.self.now { words = ws })
    (law.copied_in 20992 512 c.args.self.now.words c.bindings-bindings.result _
    (ap length c.bindings-bindings.ensures ∙ law.part_length 20480 512 c.args.self.now.words (omega arith)) c.copy.ensures
    ∙ ap (sets c.args.self.now.words 20992) c.bindings-bindings.ensures)
