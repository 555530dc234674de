-- By the generality, the kind, and whether it is 0. Assumes nothing.
use Rattle.std.proofs.Common.{ap, ◌∙◌}
use Rattle.std.specs.Prelude.{Some}
use Rattle.search_steps.proofs.Literals as literal
use Rattle.search_steps.proofs.lit_at_number.Goals as goal

pub returns-then-generality-eq0 : goal.returns-then-generality-eq0
returns-then-generality-eq0 c =
    literal.zero_is_not_pos c.args.kind c.args.sort _ c.number_generality.ensures (c.in-Some.is ∙ ap Some c.if-generality-eq0.true) c.in-Natural.is

pub returns-in-Positive : goal.returns-in-Positive
returns-in-Positive c =
    literal.positive_number c.args.kind c.args.sort _ c.number_generality.ensures _ c.in-Some.is c.in-Positive.is

pub returns-else-generality-eq0 : goal.returns-else-generality-eq0
returns-else-generality-eq0 c =
    literal.number c.args.kind c.args.sort _ c.number_generality.ensures _ c.in-Some.is (λ k z. c.if-generality-eq0.false z)

pub returns-in-None : goal.returns-in-None
returns-in-None c = literal.no_number c.args.kind c.args.sort _ c.number_generality.ensures c.in-None.is
