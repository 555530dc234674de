-- Heads are the same if their kinds and their numbers are. Assumes nothing.
use Rattle.std.proofs.Common.{ap, ◌∙◌}
use Rattle.unification.specs.Inner.Term.{head_of}
use Rattle.infer_nodes.specs.declared.Head.{Head}
use Rattle.infer_nodes.proofs.Parts as law
use Rattle.infer_nodes.proofs.Row.same_head.Goals as goal

pub returns : goal.returns
returns c = λ s t h g. c.eq.ensures ∙ law.heads_alike (head_of s) (head_of t) _ _ _ _
    (ap (λ (x : Head). x.kind) c.head.ensures ∙ h.kind) (ap (λ (x : Head). x.number) c.head.ensures ∙ h.number)
    (ap (λ (x : Head). x.kind) c.head-2.ensures ∙ g.kind) (ap (λ (x : Head). x.number) c.head-2.ensures ∙ g.number)
