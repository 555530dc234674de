-- The call that a problem makes as it is lent: how many rows of each list are given, with the lists themselves, and what
-- is lent beside. A check that looks at the lists of a problem only is that check of a call with nothing beside.
use Rattle.std.specs.Prelude.{List, [], ℕ, length, ◌≡◌, refl}
use Rattle.inference.specs.declared.Constraint.{Constraint}
use Rattle.inference.specs.Constraints.{constraint_at, rows_from}
use Rattle.inference.specs.SolveChecks.{Call}
use Rattle.solve_checks.specs.declared.Given.{Given}
use Rattle.solve_checks.specs.declared.Problem.{Problem}
use Rattle.solve_checks.specs.declared.Room.{Room}
use Rattle.solve_checks.specs.declared.Storage.{Storage}
use Rattle.solve_checks.specs.Call.{call_of}

-- Scratch, index and outputs of the lengths that a call says. What stands in them no check looks at.
pub record Outs (room : Room) : Type 0 where
  pub scratch : List ℕ
  pub index : List ℕ
  pub typing : List ℕ
  pub measure : List ℕ
  pub choices : List ℕ
  pub scratch_length : length scratch ≡ room.scratch
  pub index_length : length index ≡ room.index
  pub typing_length : length typing ≡ room.typing
  pub measure_length : length measure ≡ room.measure
  pub choices_length : length choices ≡ room.choices

abbrev pub room_call : Given → (sorts nodes binds exprs names constraints overloads sources : List ℕ)
    → (room : Room) → Outs room → Call
room_call g ws ns bs xs ks cs os ss room o =
    call_of g ws ns bs xs ks cs os ss o.scratch o.index o.typing o.measure o.choices

-- with no words lent for scratch, index and outputs, and with no sorts, nodes and bindings beside
abbrev pub no_room : Room
no_room = record { scratch = 0; index = 0; typing = 0; measure = 0; choices = 0 }

abbrev pub no_outs : Outs no_room
no_outs =
    record {
      scratch = [];
      index = [];
      typing = [];
      measure = [];
      choices = [];
      scratch_length = refl;
      index_length = refl;
      typing_length = refl;
      measure_length = refl;
      choices_length = refl;
    }

abbrev pub lists_call : Given → (sorts nodes binds exprs names constraints overloads sources : List ℕ) → Call
lists_call g ws ns bs xs ks cs os ss = room_call g ws ns bs xs ks cs os ss no_room no_outs

abbrev pub problem_call : Given → (exprs names constraints overloads sources : List ℕ) → Call
problem_call g xs ks cs os ss = lists_call g [] [] [] xs ks cs os ss

-- a problem as it is lent, with what is lent beside it, and with nothing beside
abbrev pub solve_call : Storage → Problem → (room : Room) → Outs room → Call
solve_call s p room o =
    room_call p.given s.sorts.now s.nodes.now s.binds.now p.exprs.now p.names.now p.constraints.now p.overloads.now
    p.sources.now room o

abbrev pub call_for : Problem → Call
call_for p = problem_call p.given p.exprs.now p.names.now p.constraints.now p.overloads.now p.sources.now

-- the n constraints of words
abbrev pub constraint_rows : List ℕ → ℕ → List Constraint
constraint_rows cs n = rows_from (constraint_at cs) 0 n
