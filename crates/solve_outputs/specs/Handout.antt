-- A call that is lent what is handed out in one struct, and what it answers and leaves.
use Rattle.std.specs.Prelude.{◌≡◌, List, ℕ}
use Rattle.inference.specs.SolveChecks.{Call}
use Rattle.inference.specs.SolveEntry.{Solved, SolveLeft}
use Rattle.solve_checks.specs.declared.Problem.{Problem}
use Rattle.solve_checks.specs.Call.{call_of}
use Rattle.solve_outputs.specs.declared.Handout.{Handout}
use Rattle.solve_outputs.specs.Finish.{solve_left}

abbrev pub call_with : Problem → (sorts nodes binds scratch index : List ℕ) → Handout → Call
call_with p ws ns bs sc ix h =
    call_of p.given ws ns bs p.exprs.now p.names.now p.constraints.now p.overloads.now p.sources.now sc ix
    h.typing.now h.measure.now h.choices.now

abbrev pub solve_left_with : Solved → (sorts nodes binds scratch index : List ℕ) → Handout → SolveLeft
solve_left_with r ws ns bs sc ix h = solve_left r ws ns bs sc ix h.typing.now h.measure.now h.choices.now

-- What is lent for the outputs, each part by its ghost name: no call changes it.
pub record LentOutputs : Type 0 where
  pub typing : ℕ
  pub measure : ℕ
  pub choices : ℕ

abbrev pub lent_for : Handout → LentOutputs
lent_for h =
    record { typing = h.typing.ghost_name; measure = h.measure.ghost_name; choices = h.choices.ghost_name }

abbrev pub SameHandout : Handout → Handout → Type 0
SameHandout h h' = lent_for h' ≡ lent_for h
