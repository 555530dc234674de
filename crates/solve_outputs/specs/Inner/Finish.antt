-- What only contracts of inner functions cite, beside `specs/Finish.antt`.
use Rattle.std.specs.Prelude.{◌≡◌, Bool, true, false, List, ℕ, ◌*◌, ◌≤◌, length, Ok, Err}
use Rattle.std.proofs.Math.Option.{Option, none, some}
use Rattle.resolved_sort.specs.declared.Counts.{Counts}
use Rattle.resolved_sort.specs.Storage.{max_sorts, max_entries, full_length, given_back}
use Rattle.unification.specs.declared.Lengths.{Lengths}
use Rattle.unification.specs.Nodes.{max_nodes, max_node_entries, full_nodes}
use Rattle.inference.specs.declared.Verdict.TheVariants.{NoTyping, Ambiguous, Typing}
use Rattle.inference.specs.Constraints.{BaseName, Problem}
use Rattle.inference.specs.Search.{Candidate, Out, found, missed, ended}
use Rattle.inference.specs.SolveChecks.{typing_words, choice_words, no_two}
use Rattle.inference.specs.Rising.{rising}
use Rattle.words.specs.Words.{cleared}
use Rattle.inference.specs.SolveEntry.{Solved, SolveLeft, nodes_given_back, typing_rows, choice_rows}
use Rattle.inference.specs.SolveEntry.{written_over, counts_in, room_refusal}
use Rattle.search_state.specs.declared.Sizes.{Sizes}
use Rattle.search_state.specs.Inner.Memory.{problem_in, chosen_exprs, scratch_used}
use Rattle.search_state.specs.Inner.Searching.{Sized}
use Rattle.solve_outputs.specs.Finish.{solve_left}

-- an answer, with the outputs
pub record Answered : Type 0 where
  pub answer : Solved
  pub typing : List ℕ
  pub measure : List ℕ
  pub choices : List ℕ

abbrev pub answered : Solved → (typing measure choices : List ℕ) → Answered
answered r ts ms hs = record { answer = r; typing = ts; measure = ms; choices = hs }

-- and with the sorts
pub record Settled : Type 0 where
  pub sorts : List ℕ
  pub told : Answered

abbrev pub settled : List ℕ → Answered → Settled
settled ws a = record { sorts = ws; told = a }

abbrev pub solve_left_by : Lengths → (nodes binds scratch index : List ℕ) → Settled → SolveLeft
solve_left_by k ns bs sc ix s =
    solve_left s.told.answer s.sorts (nodes_given_back k.nodes k.arguments ns) bs (cleared sc) (cleared ix)
    s.told.typing s.told.measure s.told.choices

-- for a problem with base names, and outputs to be written over
module _ (P : Problem) (names : List BaseName) (ts ms hs : List ℕ) where
  unfoldable pub handed_out : Counts → Candidate → Answered
  handed_out n c =
      answered
      (Ok (Typing (record { counts = n; components = length c.measure; choices = length c.choices })))
      (written_over (typing_rows P names c.choices 0 c.sorts) ts) (written_over c.measure ms)
      (written_over (choice_rows (rising P c.choices)) hs)

  abbrev pub judged_out_by : Counts → Candidate → Bool → Answered
  judged_out_by n c true = answered (Ok (Ambiguous n)) ts ms hs
  judged_out_by n c false = handed_out n c

  abbrev pub judged_out : Counts → Option Candidate → Answered
  judged_out n none = answered (Ok (NoTyping n)) ts ms hs
  judged_out n (some c) = judged_out_by n c c.duplicate

  -- k is what the call began with
  abbrev pub settled_by : Lengths → Out (Unit {0}) → Settled
  settled_by k (found w) = settled w.lent.sorts (judged_out (counts_in w.lent) w.best)
  settled_by k (missed w) = settled w.lent.sorts (judged_out (counts_in w.lent) w.best)
  settled_by k (ended c W) =
      settled (given_back k.sorts k.entries W.sorts) (answered (Err (room_refusal c)) ts ms hs)

-- room for what is handed out, and no two disjunctions for one expression
pub record Handable (sc ls : List ℕ) (z : Sizes) (ts ms hs : List ℕ) : Type 0 where
  pub sized : Sized (problem_in ls z) z
  pub used : scratch_used ≤ length sc
  pub typing : typing_words * z.exprs ≤ length ts
  pub measure : z.components ≤ length ms
  pub choices : choice_words * z.disjunctions ≤ length hs
  pub one_each : no_two (chosen_exprs ls z) ≡ true

-- sorts, and nodes, that can be given back
pub record SortsReturnable (ws : List ℕ) (k : Lengths) : Type 0 where
  pub sorts : k.sorts ≤ max_sorts
  pub entries : k.entries ≤ max_entries
  pub long : full_length ≤ length ws

pub record NodesReturnable (ns : List ℕ) (k : Lengths) : Type 0 where
  pub nodes : k.nodes ≤ max_nodes
  pub arguments : k.arguments ≤ max_node_entries
  pub long : full_nodes ≤ length ns
