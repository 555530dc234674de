-- The kind is known, and what the constraint says decides. Assumes nothing.
use Rattle.std.proofs.Common.{ap, ap₂, ℕ, leb, ◌∙◌}
use Rattle.std.specs.Result.{is_ok}
use Rattle.inference.specs.SolveChecks.{constraint_fine}
use Rattle.solve_checks.specs.Inner.Calls.{call_for}
use Rattle.solve_checks.proofs.Fine as fine
use Rattle.solve_checks.proofs.Problem.row_fine.Goals as goal

pub returns-then-is_ok : goal.returns-then-is_ok
returns-then-is_ok c =
    fine.then _ _ c.is_ok.result
    (c.is_ok.ensures.value ∙ (ap is_ok c.try_from.ensures ∙ (fine.known_kinds _ ∙ ap (λ (k : ℕ). leb k 4) c.word.ensures)))
    c.if-is_ok.true _
    (c.constraint_fine.ensures
    ∙ ap₂ (constraint_fine (call_for c.args.self.now)) c.word-then-is_ok.ensures c.constraint_at.ensures)

pub returns-else-is_ok : goal.returns-else-is_ok
returns-else-is_ok c =
    fine.stops _ _ c.is_ok.result
    (c.is_ok.ensures.value ∙ (ap is_ok c.try_from.ensures ∙ (fine.known_kinds _ ∙ ap (λ (k : ℕ). leb k 4) c.word.ensures)))
    c.if-is_ok.false
