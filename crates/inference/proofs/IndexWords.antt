-- "Whatever its words held at entry": two calls that differ in the words of the index only, as many, come to the same
-- answer and leave the same in all other lent memory. By the checks, which look at its length alone, and by the cases of
-- what a search comes to. Assumes nothing.
use mathlib.Core.Path.{◌≡◌, refl, ap}
use mathlib.Core.Bool.{Bool, true, false, ◌&&◌}
use mathlib.Core.List.{List, []}
use Prim.Native.Nat.{ℕ}
use lib.ListN.{length}
use Rattle.std.specs.Prelude.{Ok, Err}
use Rattle.std.proofs.Math.Option.{Option, none, some}
use Rattle.resolved_sort.specs.Checks.{Tested, first_failing}
use Rattle.resolved_sort.specs.Entries.{refused_or}
use Rattle.resolved_sort.specs.Index.{index_long}
use Rattle.unification.specs.Making.{Lent}
use Rattle.inference.specs.Search.{Candidate, Out, found, missed, ended}
use Rattle.inference.specs.SolveChecks.{Call, all_within_lent, rows_within_lent, exprs_fine, names_fine, target_fine, overload_fine}
use Rattle.inference.specs.SolveChecks.{constraints_fine, long_enough, outputs_long, solve_checks}
use Rattle.inference.specs.SolveEntry.{SolveLeft, refused, judged, verdict, searched, nothing_met, solve_entry}

-- a call with other words in its index
abbrev pub with_index : Call → List ℕ → Call
with_index I jx = record I { index = jx }

-- what a call leaves, but for the index
abbrev pub but_the_index : SolveLeft → SolveLeft
but_the_index L = record L { index = [] }

module _ (I : Call) (jx : List ℕ) (as_long : length jx ≡ length I.index) where
  abbrev J : Call
  J = with_index I jx

  same_checks : solve_checks J ≡ solve_checks I
  unfolding solve_checks all_within_lent rows_within_lent exprs_fine names_fine target_fine overload_fine constraints_fine long_enough outputs_long index_long
  same_checks = rw as_long refl

  judged_alike : (W : Lent) (o : Option Candidate) → but_the_index (judged J W o) ≡ but_the_index (judged I W o)
  judged_alike W none = refl
  judged_alike W (some c) = by_tie c c.duplicate
    where
      by_tie : (c : Candidate) (b : Bool) → but_the_index (judged J W (some (record c { duplicate = b }))) ≡ but_the_index (judged I W (some (record c { duplicate = b })))
      by_tie c true = refl
      by_tie c false = refl

  verdict_alike : (O : Out (Unit {0})) → but_the_index (verdict J O) ≡ but_the_index (verdict I O)
  verdict_alike (found w) = judged_alike w.lent w.best
  verdict_alike (missed w) = judged_alike w.lent w.best
  verdict_alike (ended c W) = refl

  tested_alike : (o : Tested) (L M : SolveLeft) → but_the_index L ≡ but_the_index M
      → but_the_index (refused_or o (refused J) L) ≡ but_the_index (refused_or o (refused I) M)
  tested_alike (Ok u) L M h = h
  tested_alike (Err c) L M h = refl

  pub index_words_do_not_matter : but_the_index (solve_entry J) ≡ but_the_index (solve_entry I)
  unfolding solve_entry
  index_words_do_not_matter =
      rw same_checks
      (tested_alike (first_failing (solve_checks I)) _ _ (verdict_alike (searched (Unit {0}) nothing_met tt I)))
