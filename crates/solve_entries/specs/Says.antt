-- What the entry solve answers and leaves, whatever it is given: demand 3, and the verdict by the leaves that the
-- search met, with what becomes of the lent memory.
use Rattle.std.specs.Prelude.{◌≡◌, ◌⊎◌, ◌%◌, ◌<◌, [], Ok, Err}
use Rattle.std.proofs.Math.Option.{Option, none, some}
use Rattle.resolved_sort.specs.declared.Counts.{Counts}
use Rattle.resolved_sort.specs.declared.Refusal.{Refusal}
use Rattle.resolved_sort.specs.declared.Refusal.TheVariants.{SortsFull, NodesFull}
use Rattle.resolved_sort.specs.Storage.{given_back}
use Rattle.resolved_sort.specs.Checks.{first_failing, Numbered}
use Rattle.resolved_sort.specs.Entries.{tree_at}
use Rattle.unification.specs.Nodes.{binds_of}
use Rattle.unification.specs.Making.{Lent, graph}
use Rattle.inference.specs.declared.Outputs.{Outputs}
use Rattle.inference.specs.declared.Verdict.TheVariants.{NoTyping, Ambiguous, Typing}
use Rattle.inference.specs.Measure.{Components}
use Rattle.inference.specs.Search.{Candidate, Out, found, missed, ended, sort_in}
use Rattle.inference.specs.SolveChecks.{Call, solve_checks}
use Rattle.inference.specs.Rising.{rising}
use Rattle.words.specs.Words.{cleared}
use Rattle.inference.specs.SolveEntry.{Solved, SolveLeft, problem_of, lent_of, refused, room_refusal}
use Rattle.inference.specs.SolveEntry.{nodes_given_back, counts_in, code_solved, sorts_out, measure_out}
use Rattle.inference.specs.SolveEntry.{choices_out}
use Rattle.inference.specs.Typing.{HoldsTogether}
use Rattle.inference.specs.Explained.{Explained}
use Rattle.inference.specs.Named.{Named}
use Rattle.inference.specs.Leaves.{times, Least, history, leaves_met, ByLeaves}
use Rattle.inference.specs.ListsLeft.{SortsGrown}
use Rattle.inference.specs.OutputsLeft.{RowsPastUntouched}
use Rattle.solve_outputs.specs.Finish.{solve_left}
use Rattle.solve_outputs.specs.Packed.{pack_solved, SolvedWithin, PackedSolve}

-- a search had room to its end; or room ended, and r is the refusal of that room
abbrev pub HadRoom : {Met : Type 0} → Out Met → Type 0
HadRoom (found w) = Unit {0}
HadRoom (missed w) = Unit {0}
HadRoom (ended c W) = ⊥

abbrev pub RoomEndedAs : {Met : Type 0} → Refusal → Out Met → Type 0
RoomEndedAs r (found w) = ⊥
RoomEndedAs r (missed w) = ⊥
RoomEndedAs r (ended c W) = r ≡ room_refusal c

-- where a search stands at its end: its lists, and the incumbent that it keeps
abbrev pub lent_at_end : {Met : Type 0} → Out Met → Lent
lent_at_end (found w) = w.lent
lent_at_end (missed w) = w.lent
lent_at_end (ended c W) = W

abbrev pub best_at_end : {Met : Type 0} → Out Met → Option Candidate
best_at_end (found w) = w.best
best_at_end (missed w) = w.best
best_at_end (ended c W) = none

module _ (I : Call) (L : SolveLeft) where
  -- 1 to 14: the first failing check, and all lent memory as given
  pub record SaysRefused (c : Refusal) : Type 0 where
    pub first : first_failing (solve_checks I) ≡ Err c
    pub given : L ≡ refused I c

  -- after a search: no node but those given, the bindings as given, scratch and index zero
  pub record Cleared : Type 0 where
    pub nodes : L.nodes ≡ nodes_given_back I.lengths.nodes I.lengths.arguments I.nodes
    pub binds : L.binds ≡ I.binds
    pub scratch : L.scratch ≡ cleared I.scratch
    pub index : L.index ≡ cleared I.index

  pub record OutputsAsGiven : Type 0 where
    pub typing : L.typing ≡ I.typing
    pub measure : L.measure ≡ I.measure
    pub choices : L.choices ≡ I.choices

  abbrev pub Constrained : Type 0
  Constrained = I.rows.constraints ≡ 0 → ⊥

  -- 15 or 16, as the search ended, and without constraints 15 only: the sorts given, with zeros after them
  pub record SaysNoRoom (r : Refusal) : Type 0 where
    pub passed : first_failing (solve_checks I) ≡ Ok tt
    pub ended_so : RoomEndedAs r (history I)
    pub room : (r ≡ SortsFull) ⊎ ((r ≡ NodesFull) × Constrained)
    pub sorts : L.sorts ≡ given_back I.lengths.sorts I.lengths.entries I.sorts
    pub memory : Cleared
    pub outputs : OutputsAsGiven

  -- the search had room: 17, 18 and 0 are exactly by the leaves that it met; the sorts have grown, and are those of the
  -- search's end
  pub record SaysSearched (k : Counts) : Type 0 where
    pub passed : first_failing (solve_checks I) ≡ Ok tt
    pub had_room : HadRoom (history I)
    pub by_leaves : ByLeaves I L (leaves_met I)
    pub sorts : SortsGrown I L.sorts k
    pub made : L.sorts ≡ (lent_at_end (history I)).sorts
    pub counted : k ≡ counts_in (lent_at_end (history I))
    pub memory : Cleared

  -- 17: no leaf was met
  pub record SaysNoTyping (k : Counts) : Type 0 where
    pub searched : SaysSearched k
    pub no_leaf : leaves_met I ≡ []
    pub constrained : Constrained
    pub outputs : OutputsAsGiven

  -- 18: the least measure was met more than once
  pub record SaysAmbiguous (k : Counts) : Type 0 where
    pub searched : SaysSearched k
    pub tied : (m : Components) × Least m (leaves_met I) × (1 < times m (leaves_met I))
    pub constrained : Constrained
    pub outputs : OutputsAsGiven

  -- the sorts handed out are the incumbent's, and so are the choices, by rising expression number
  pub record OfIncumbent (o : Outputs) : Type 0 where
    pub candidate : Candidate
    pub is : best_at_end (history I) ≡ some candidate
    pub sorts : sorts_out I L ≡ candidate.sorts
    pub choices : choices_out L o ≡ rising (problem_of I) candidate.choices

  -- 0: one assignment under which the whole list holds together, with the sorts and choices handed out, which are the
  -- incumbent's; the measure handed out is made of the constraints' components, and is the least that was met, once;
  -- names are by choices; outputs are as long as they were, with the rows past the counts as they were lent
  pub record SaysTyping (o : Outputs) : Type 0 where
    pub searched : SaysSearched o.counts
    pub together : HoldsTogether (graph (lent_of I)) (sort_in (lent_of I)) (tree_at L.sorts o.counts.sorts)
        o.counts.sorts (binds_of I.binds I.lengths.variables) (problem_of I) (sorts_out I L)
        (choices_out L o)
    pub incumbent : OfIncumbent o
    pub explained : Explained I L o
    pub named : Named I L o (choices_out L o)
    pub least : Least (measure_out L o) (leaves_met I)
    pub once : times (measure_out L o) (leaves_met I) ≡ 1
    pub rows : RowsPastUntouched I L o

  abbrev pub SaysBy : Solved → Type 0
  SaysBy (Err r) = (SaysRefused r × Numbered r) ⊎ SaysNoRoom r
  SaysBy (Ok (NoTyping k)) = SaysNoTyping k
  SaysBy (Ok (Ambiguous k)) = SaysAmbiguous k
  SaysBy (Ok (Typing o)) = SaysTyping o

-- what the entry says of the call I by what it answers and leaves
abbrev pub EntrySays : Call → SolveLeft → Type 0
EntrySays I L = SaysBy I L L.answer

-- The same of a packed answer: it stands for one answer, and for no other; its low byte is document 01's number; and
-- that answer, with the memory left, says what the entry's says.
abbrev pub left_of : Solved → PackedSolve → SolveLeft
left_of r q = solve_left r q.sorts q.nodes q.binds q.scratch q.index q.typing q.measure q.choices

pub record PackedSays (I : Call) (q : PackedSolve) : Type 0 where
  pub answer : Solved
  pub packed : q.result ≡ pack_solved answer
  pub within : SolvedWithin answer
  pub only : (r : Solved) → SolvedWithin r → q.result ≡ pack_solved r → r ≡ answer
  pub low_byte : q.result % 256 ≡ code_solved answer
  pub says : EntrySays I (left_of answer q)
