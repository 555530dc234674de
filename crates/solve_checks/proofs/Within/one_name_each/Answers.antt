-- The rows are those of base names. Assumes nothing.
use Rattle.std.proofs.Common.{ap, rules, get_or, Some, ◌*◌, ◌∙◌}
use Rattle.inference.specs.SolveChecks.{no_two}
use Rattle.solve_checks.specs.Inner.Calls.{call_for}
use Rattle.solve_checks.proofs.Ceilings.{keys_below}
use Rattle.solve_checks.proofs.Fresh.{each_key}
use Rattle.solve_checks.proofs.Within.one_name_each.Goals as goal

pub returns : goal.returns
returns c =
    let p = c.args.self.now.problem in
    c.no_two.ensures (λ i. Some (record { 0 = get_or p.names.now (3 * i) 0 })) (λ i r h. search rules)
    (keys_below (call_for p) c.args.self.now.within.exprs c.requires)
    ∙ ap no_two (each_key (λ i. get_or p.names.now (3 * i) 0) 0 p.given.names)
