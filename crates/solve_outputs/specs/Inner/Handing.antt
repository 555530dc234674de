-- What a search has come to, with the base names of its call and what is handed out, as the code holds them.
use Rattle.std.specs.Prelude.{◌≡◌, Bool, false, List, ℕ, Result, Ok, Err}
use Rattle.std.proofs.Math.Option.{Option}
use Rattle.resolved_sort.specs.declared.Counts.{Counts}
use Rattle.resolved_sort.specs.declared.Refusal.{Refusal}
use Rattle.resolved_sort.specs.Storage.{given_back}
use Rattle.unification.specs.declared.Full.{Full}
use Rattle.unification.specs.declared.Lengths.{Lengths}
use Rattle.inference.specs.Constraints.{BaseName, base_name_at, rows_from, Problem}
use Rattle.inference.specs.Search.{Candidate, Out}
use Rattle.words.specs.Words.{cleared}
use Rattle.inference.specs.SolveEntry.{Solved, SolveLeft, nodes_given_back}
use Rattle.search_state.specs.declared.Search.{Search}
use Rattle.search_state.specs.Inner.Memory.{problem_in, candidate_of, best_of, out_of}
use Rattle.search_state.specs.Inner.Solving.{has_best, is_tied, state_of, answer_of}
use Rattle.solve_outputs.specs.declared.Handout.{Handout}
use Rattle.solve_outputs.specs.Handout.{solve_left_with}
use Rattle.solve_outputs.specs.Inner.Finish.{Answered, answered, Settled, settled, handed_out, judged_out, settled_by}
use Rattle.solve_outputs.specs.Inner.Finish.{Handable}

abbrev pub names_read : List ℕ → ℕ → List BaseName
names_read ks n = rows_from (base_name_at ks) 0 n

abbrev pub problem_asked : Search → Problem
problem_asked s = problem_in s.lists.now s.sizes

abbrev pub counts_then : Search → Counts
counts_then s = record { sorts = s.lengths.sorts; entries = s.lengths.entries }

-- the incumbent
abbrev pub best_in : Search → Option Candidate
best_in s = best_of s.lists.now s.sizes s.scratch.now (has_best s.best) (is_tied s.best)

-- what the search answered and left
abbrev pub out_in : Search → Result Bool Full → Out (Unit {0})
out_in s r = out_of s.lists.now s.sizes s.sorts.now s.nodes.now s.scratch.now (answer_of (state_of s) r)

-- an answer with what was handed out, and with all lent memory
abbrev pub told_in : Solved → Handout → Answered
told_in r h = answered r h.typing.now h.measure.now h.choices.now

abbrev pub left_in : Solved → Search → Handout → SolveLeft
left_in r s h = solve_left_with r s.sorts.now s.nodes.now s.binds.now s.scratch.now s.index.now h

-- the incumbent handed out, the verdict of a search that had room, and the answer of any search
abbrev pub handing : Search → List BaseName → Handout → Answered
handing s names h =
    handed_out (problem_asked s) names h.typing.now h.measure.now h.choices.now (counts_then s)
    (candidate_of s.lists.now s.sizes s.scratch.now false)

abbrev pub judging : Search → List BaseName → Handout → Answered
judging s names h =
    judged_out (problem_asked s) names h.typing.now h.measure.now h.choices.now (counts_then s) (best_in s)

abbrev pub settling : Search → List BaseName → Handout → Lengths → Result Bool Full → Settled
settling s names h k r =
    settled_by (problem_asked s) names h.typing.now h.measure.now h.choices.now k (out_in s r)

-- an answer whose error is of any type, told as a refusal; and that of a search that ended so
abbrev pub told_as : {A E : Type 0} → (E → Refusal) → Result A E → Result A Refusal
told_as told (Ok v) = Ok v
told_as told (Err e) = Err (told e)

abbrev pub settling_as : {E : Type 0} → (E → Refusal) → Search → List BaseName → Handout → Lengths → Result Bool E → Settled
settling_as told s names h k (Ok found) = settling s names h k (Ok found)
settling_as told s names h k (Err e) =
    settled (given_back k.sorts k.entries s.sorts.now) (told_in (Err (told e)) h)

-- no nodes but those that the call began with, and nothing in the scratch and in the index
abbrev pub Tidied : Lengths → Search → Search → Type 0
Tidied k s t =
    (t.sorts ≡ s.sorts)
    × (t.nodes ≡ record s.nodes { now = nodes_given_back k.nodes k.arguments s.nodes.now })
    × (t.binds ≡ s.binds)
    × (t.scratch ≡ record s.scratch { now = cleared s.scratch.now })
    × (t.index ≡ record s.index { now = cleared s.index.now })
    × (t.lists ≡ s.lists)
    × (t.sizes ≡ s.sizes)
    × (t.lengths ≡ s.lengths)
    × (t.best ≡ s.best)

-- room for what is handed out
abbrev pub CanHandOut : Search → Handout → Type 0
CanHandOut s h = Handable s.scratch.now s.lists.now s.sizes h.typing.now h.measure.now h.choices.now
