-- What is left after the search is the defined outcome. The search leaves bindings as they were, and nodes that agree with those given below the counts, so
-- that these are given back alike: what is left depends on what the search comes to alone. And of a call that passed its checks the search begins where the
-- definition's begins, so it comes to what that comes to; its incumbent is judged as the definition judges it, and sorts are given back alike. Assumes nothing.
use mathlib.Core.Path.{◌≡◌, refl, sym, ap, ◌∙◌}
use mathlib.Core.Bool.{Bool, true, false}
use mathlib.Core.List.{List, []}
use mathlib.Core.Option.{Option, none, some}
use Prim.Native.Nat.{ℕ}
use lib.ListN.{length, replicate}
use Rattle.std.specs.Prelude.{Ok, Err}
use Rattle.resolved_sort.specs.Checks.{first_failing}
use Rattle.resolved_sort.proofs.GivenBack.{given_back_agrees}
use Rattle.unification.specs.Nodes.{binds_of}
use Rattle.unification.specs.Making.{Lent}
use Rattle.unification.specs.Inner.Making.{lent}
use Rattle.unification.specs.Growing.{CheckedLent, NodesAgree}
use Rattle.inference.specs.Constraints.{BaseName}
use Rattle.inference.specs.Search.{Candidate, Out, found, missed, ended, solve}
use Rattle.inference.specs.SolveChecks.{Call, solve_checks}
use Rattle.words.specs.Words.{cleared}
use Rattle.inference.specs.SolveEntry.{problem_of, base_names_of, lent_of, searched, SolveLeft, left_with}
use Rattle.inference.specs.SolveEntry.{counts_in, judged, judged_by, room_refusal, verdict, nothing_met, solve_entry}
use Rattle.inference.proofs.Accepted.{passed_is_searched}
use Rattle.inference.proofs.ListsLeft.{nodes_given_back_agree, search_gives_nodes_back}
use Rattle.inference.specs.ListsLeft.{Ends}
use Rattle.search_state.specs.declared.Sizes.{Sizes}
use Rattle.search_state.specs.Inner.States.{State}
use Rattle.search_state.specs.declared.Branch.{Branch}
use Rattle.search_state.specs.Inner.States.{Answer}
use Rattle.search_state.specs.Inner.States.{Found, Missed, Full}
use Rattle.search_state.specs.Inner.Memory.{problem_in, chosen_exprs, best_of, path_of, world_of, out_of, solve_from}
use Rattle.search_state.specs.Inner.Searching.{SearchGrown, Done}
use Rattle.solve_outputs.specs.Inner.Begin.{sizes_of, no_incumbent, nothing_taken}
use Rattle.solve_outputs.specs.Inner.Finish.{Settled, settled, solve_left_by, handed_out, settled_by, judged_out as judgedIn, judged_out_by as judgedByIn}
use Rattle.solve_outputs.proofs.Passed.{passed_accepted, rest_is_all}
use Rattle.search_state.proofs.Parts.{nothing_chosen}

-- what is left depends on what the search comes to alone
module _ (ls : List ℕ) (z : Sizes) (ws ns bs sc ix : List ℕ) (k : State) (e : Branch) (O : Out (Unit {0}))
    (ws' ns' bs' sc' : List ℕ) (r : Answer) (c : CheckedLent (lent ws ns k.lengths))
    (d : Done ls z ws ns bs sc k e O ws' ns' bs' sc' r) where
  abbrev W : Lent
  W = lent ws ns k.lengths

  nodes_kept : (r : Answer) → SearchGrown W ws' ns' r → NodesAgree ns ns' k.lengths.nodes k.lengths.arguments × (length ns' ≡ length ns)
  nodes_kept (Found s) g = (g.grows.node_words, g.grows.as_long.1)
  nodes_kept (Missed s) g = (g.grows.node_words, g.grows.as_long.1)
  nodes_kept (Full x l) g = (g.node_words, g.as_long.1)

  same_left : (s : Settled) → solve_left_by k.lengths ns' bs' sc' ix s ≡ solve_left_by k.lengths ns bs sc ix s
  same_left s =
      let a = nodes_kept r d.grown in
      let n = nodes_given_back_agree k.lengths.nodes k.lengths.arguments c.nodes c.entries ns ns' c.long a.1 a.0 in
      let m : cleared sc' ≡ cleared sc = ap (λ m. replicate m 0) d.path.long in
      λ i. record {
        answer = s.told.answer;
        sorts = s.sorts;
        nodes = n i;
        binds = d.binds i;
        scratch = m i;
        index = cleared ix;
        typing = s.told.typing;
        measure = s.told.measure;
        choices = s.told.choices;
      }

  pub left_by_search : (names : List BaseName) (ts ms hs : List ℕ) (L : SolveLeft)
      → L ≡ solve_left_by k.lengths ns' bs' sc' ix (settled_by (problem_in ls z) names ts ms hs k.lengths (out_of ls z ws' ns' sc' r))
      → L ≡ solve_left_by k.lengths ns bs sc ix (settled_by (problem_in ls z) names ts ms hs k.lengths O)
  left_by_search names ts ms hs L q =
      q ∙ (same_left _ ∙ ap (λ o. solve_left_by k.lengths ns bs sc ix (settled_by (problem_in ls z) names ts ms hs k.lengths o)) d.says)

module _ (I : Call) (x : first_failing (solve_checks I) ≡ Ok tt) where
  abbrev settles : Out (Unit {0}) → Settled
  settles O = settled_by (problem_of I) (base_names_of I) I.typing I.measure I.choices I.lengths O

  abbrev leaves : Settled → SolveLeft
  leaves s = solve_left_by I.lengths I.nodes I.binds I.scratch I.index s

  -- the incumbent is judged as in the definition
  by_tie : (W : Lent) (c : Candidate) (b : Bool)
      → leaves (settled W.sorts (judgedByIn (problem_of I) (base_names_of I) I.typing I.measure I.choices (counts_in W) c b)) ≡ judged_by I W c b
  unfolding handed_out
  by_tie W c true = refl
  by_tie W c false = refl

  by_best : (W : Lent) (b : Option Candidate)
      → leaves (settled W.sorts (judgedIn (problem_of I) (base_names_of I) I.typing I.measure I.choices
      (counts_in W) b)) ≡ judged I W b
  by_best W none = refl
  by_best W (some c) = by_tie W c c.duplicate

  by_out : (O : Out (Unit {0})) → Ends I O → leaves (settles O) ≡ verdict I O
  by_out (found w) h = by_best w.lent w.best
  by_out (missed w) h = by_best w.lent w.best
  by_out (ended c W) h =
      let k = (passed_accepted I x).ready.nodes.sorts in
      ap (λ us. left_with I (Err (room_refusal c)) us I.typing I.measure I.choices)
      (given_back_agrees I.lengths.sorts I.lengths.entries k.sorts k.entries I.sorts W.sorts k.long h.as_long.0 h.sorts)

  -- The search of packed lists that say the problem comes to the call's outcome.
  module _ (ls : List ℕ) (p : problem_in ls (sizes_of I) ≡ problem_of I) where
    abbrev search : Out (Unit {0})
    search =
        solve_from ls (sizes_of I) 0 (path_of ls (sizes_of I) (binds_of I.binds I.lengths.variables) I.scratch nothing_taken)
        (world_of ls (sizes_of I) I.sorts I.nodes I.scratch (no_incumbent I.lengths))

    same_search : search ≡ searched (Unit {0}) nothing_met tt I
    unfolding best_of
    same_search =
        λ i. solve (Unit {0}) nothing_met (p i) (rest_is_all I x ls p i)
        (record { binds = binds_of I.binds I.lengths.variables; measure = []; choices = nothing_chosen (chosen_exprs ls (sizes_of I)) i })
        (record { lent = lent_of I; best = none; met = tt })

    pub left_is_outcome : leaves (settled_by (problem_in ls (sizes_of I)) (base_names_of I) I.typing I.measure I.choices I.lengths search) ≡ solve_entry I
    left_is_outcome =
        (λ i. leaves (settled_by (p i) (base_names_of I) I.typing I.measure I.choices I.lengths (same_search i)))
        ∙ (by_out (searched (Unit {0}) nothing_met tt I) (search_gives_nodes_back I x (Unit {0}) nothing_met tt) ∙ sym (passed_is_searched I x))
