-- The rows are those of disjunctions. Assumes nothing.
use Rattle.std.proofs.Common.{ap, rules, ◌∙◌}
use Rattle.inference.specs.Constraints.{constraint_at}
use Rattle.inference.specs.SolveChecks.{no_two}
use Rattle.solve_checks.specs.Inner.Calls.{call_for}
use Rattle.solve_checks.specs.Inner.Marks.{disjunction_expr}
use Rattle.solve_checks.proofs.Ceilings.{disjunctions_below}
use Rattle.solve_checks.proofs.Fresh.{each_disjunction}
use Rattle.solve_checks.proofs.Within.one_disjunction_each.Goals as goal

pub returns : goal.returns
returns c =
    let p = c.args.self.now.problem in
    c.no_two.ensures (λ i. disjunction_expr (constraint_at p.constraints.now i)) (λ i r h. search rules)
    (disjunctions_below (call_for p) c.args.self.now.within.exprs c.requires)
    ∙ ap no_two (each_disjunction (constraint_at p.constraints.now) 0 p.given.constraints)
