-- What a call that is accepted leaves of the lent lists. After 0, 17 and 18 the sorts have grown: the given ones stand as they were, new ones follow them,
-- and no two are equal, so that each was made once. Where the search stands at its end there are as many nodes as were given, with the words that they had.
-- By what the search leaves. Assumes nothing.
use mathlib.Core.Path.{◌≡◌, subst}
use mathlib.Core.Bool.{Bool, true, false}
use mathlib.Core.List.{List}
use mathlib.Core.Option.{Option, none, some}
use Prim.Native.Nat.{ℕ, ◌*◌, ◌≤◌}
use native.Mathlib.Omega.{arith}
use lib.ListN.{length}
use Rattle.std.specs.Prelude.{Ok}
use Rattle.resolved_sort.specs.declared.Counts.{Counts}
use Rattle.resolved_sort.specs.Checks.{first_failing}
use Rattle.resolved_sort.proofs.GivenBack.{zeroed_agrees}
use Rattle.resolved_sort.proofs.Reached.{no_confusion}
use Rattle.unification.specs.Nodes.{max_nodes, max_node_entries, node_entries_at, full_nodes, binds_of}
use Rattle.unification.specs.Making.{Lent}
use Rattle.unification.specs.Growing.{Grows, NodesAgree}
use Rattle.inference.specs.Search.{Path, Candidate, Out, found, missed, ended}
use Rattle.inference.specs.SolveChecks.{Call, solve_checks}
use Rattle.inference.specs.SolveEntry.{problem_of, lent_of, nodes_given_back, judged, judged_by, verdict, searched, nothing_met, counts_in, solve_entry}
use Rattle.inference.proofs.Invariant.{Leaves}
use Rattle.inference.proofs.Accepted.{accepted, refused_or_searched}
use Rattle.inference.proofs.Together.{search_leaves}
use Rattle.inference.specs.ListsLeft.{counts_told, SortsGrown, ListsKept, Ends}

-- nodes that read the same below the counts are given back alike
pub nodes_given_back_agree : (m d : ℕ) → m ≤ max_nodes → d ≤ max_node_entries → (ns ns' : List ℕ) → full_nodes ≤ length ns
    → length ns' ≡ length ns → NodesAgree ns ns' m d
    → nodes_given_back m d ns' ≡ nodes_given_back m d ns
unfolding nodes_given_back
nodes_given_back_agree m d hm hd ns ns' long same a =
    zeroed_agrees (4 * m) node_entries_at d (omega arith) ns ns' (omega arith) same a.rows a.entries

module _ (I : Call) where
  grown : (W : Lent) → Grows (lent_of I) W → SortsGrown I W.sorts (counts_in W)
  grown W g = record { old = g.sort_words; more = g.sorts; more_entries = g.entries; checked = g.checked.sorts; as_long = g.as_long.0 }

  by_candidate : (W : Lent) (c : Candidate) (b : Bool) → Grows (lent_of I) W → (k : Counts)
      → counts_told (judged_by I W c b).answer ≡ some k → SortsGrown I (judged_by I W c b).sorts k
  by_candidate W c true g k e = let q : counts_in W ≡ k = cc in subst (SortsGrown I W.sorts) q (grown W g)
  by_candidate W c false g k e = let q : counts_in W ≡ k = cc in subst (SortsGrown I W.sorts) q (grown W g)

  by_best : (W : Lent) (b : Option Candidate) → Grows (lent_of I) W → (k : Counts) → counts_told (judged I W b).answer
      ≡ some k → SortsGrown I (judged I W b).sorts k
  by_best W none g k e = let q : counts_in W ≡ k = cc in subst (SortsGrown I W.sorts) q (grown W g)
  by_best W (some c) g k e = by_candidate W c c.duplicate g k e

  -- After 0, 17 and 18 the sorts have grown.
  pub sorts_only_grow : (k : Counts) → counts_told (solve_entry I).answer ≡ some k → SortsGrown I (solve_entry I).sorts k
  unfolding Leaves
  sorts_only_grow k =
      refused_or_searched I (λ L. counts_told L.answer ≡ some k → SortsGrown I L.sorts k) (λ c l e. no_confusion cc)
      (λ A. ends (searched (Unit {0}) nothing_met tt I) (search_leaves I A (Unit {0}) nothing_met tt))
    where
      ends : (O : Out (Unit {0})) → Leaves (lent_of I) (binds_of I.binds I.lengths.variables) (problem_of I)
          (Unit {0}) (lent_of I) O → counts_told (verdict I O).answer ≡ some k → SortsGrown I (verdict I O).sorts k
      ends (found w) l e = by_best w.lent w.best l.only.grows k e
      ends (missed w) l e = by_best w.lent w.best l.only.grows k e
      ends (ended d W) l e = no_confusion cc

  kept : (W : Lent) → Grows (lent_of I) W → ListsKept I W
  kept W g = record { sorts = g.sort_words; nodes = g.node_words; as_long = g.as_long }

  pub search_gives_nodes_back : first_failing (solve_checks I) ≡ Ok tt → (Met : Type 0) (meet : Path → Lent → Met → Met) (m : Met) → Ends I (searched Met meet m I)
  unfolding Leaves
  search_gives_nodes_back f Met meet m = go (searched Met meet m I) (search_leaves I (accepted I f) Met meet m)
    where
      go : (O : Out Met) → Leaves (lent_of I) (binds_of I.binds I.lengths.variables) (problem_of I) Met (lent_of I) O → Ends I O
      go (found w) l = (kept w.lent l.only.grows, l.only.nodes, l.only.arguments)
      go (missed w) l = (kept w.lent l.only.grows, l.only.nodes, l.only.arguments)
      go (ended d W) l = kept W l
