-- Two words, where the expression has a row. Assumes nothing.
use Rattle.std.proofs.Common.{ap}
use Rattle.solve_outputs.proofs.Naming.{named_inside, named_outside}
use Rattle.solve_outputs.proofs.put_name.Goals as goal

pub returns-then-expr-exprs : goal.returns-then-expr-exprs
returns-then-expr-exprs c =
    let a = c.args in
    named_inside a.exprs a.typing.now a.expr.0 a.name c.if-expr-exprs.true _ _ _ _ (ap (λ p. p.0) c.name_words-kind.ensures) c.put.ensures
    (ap (λ p. p.1) c.name_words-kind.ensures) c.put-then-expr-exprs.ensures

pub returns-else-expr-exprs : goal.returns-else-expr-exprs
returns-else-expr-exprs c =
    let a = c.args in
    named_outside a.exprs a.typing.now a.expr.0 a.name c.if-expr-exprs.false
