-- The call that a problem makes with other overloads, told as words.
use Rattle.std.specs.Prelude.{List, ℕ}
use Rattle.inference.specs.SolveChecks.{Call}
use Rattle.solve_checks.specs.declared.Problem.{Problem}
use Rattle.solve_checks.specs.Call.{call_of}
use Rattle.solve_outputs.specs.declared.Handout.{Handout}

abbrev pub call_over : Problem → (overloads sorts nodes binds scratch index : List ℕ) → Handout → Call
call_over p os ws ns bs sc ix h =
    call_of p.given ws ns bs p.exprs.now p.names.now p.constraints.now os p.sources.now sc ix h.typing.now
    h.measure.now h.choices.now
