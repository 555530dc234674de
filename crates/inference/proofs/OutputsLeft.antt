-- Outputs are written by a typing only: after every other answer, 17 and 18 among them, they are as they were lent. By the cases of the answer.
-- Assumes nothing.
use mathlib.Core.Path.{◌≡◌, refl}
use mathlib.Core.Bool.{Bool, true, false}
use mathlib.Core.Option.{Option, none, some}
use Rattle.resolved_sort.proofs.Reached.{no_confusion}
use Rattle.unification.specs.Making.{Lent}
use Rattle.inference.specs.Search.{Candidate, Out, found, missed, ended}
use Rattle.inference.specs.SolveChecks.{Call}
use Rattle.inference.specs.SolveEntry.{judged, judged_by, verdict, searched, nothing_met, solve_entry}
use Rattle.inference.proofs.Accepted.{refused_or_searched}
use Rattle.inference.specs.OutputsLeft.{hands_out, OutputsUntouched}

module _ (I : Call) where
  by_candidate : (W : Lent) (c : Candidate) (b : Bool) → hands_out (judged_by I W c b).answer ≡ false → OutputsUntouched I (judged_by I W c b)
  by_candidate W c true e = record { typing = refl; measure = refl; choices = refl }
  by_candidate W c false e = no_confusion cc

  by_best : (W : Lent) (b : Option Candidate) → hands_out (judged I W b).answer ≡ false → OutputsUntouched I (judged I W b)
  by_best W none e = record { typing = refl; measure = refl; choices = refl }
  by_best W (some c) e = by_candidate W c c.duplicate e

  by_out : (O : Out (Unit {0})) → hands_out (verdict I O).answer ≡ false → OutputsUntouched I (verdict I O)
  by_out (found w) e = by_best w.lent w.best e
  by_out (missed w) e = by_best w.lent w.best e
  by_out (ended c W) e = record { typing = refl; measure = refl; choices = refl }

  pub outputs_untouched_unless_a_typing : hands_out (solve_entry I).answer ≡ false → OutputsUntouched I (solve_entry I)
  outputs_untouched_unless_a_typing =
      refused_or_searched I (λ L. hands_out L.answer ≡ false → OutputsUntouched I L)
      (λ c l e. record { typing = refl; measure = refl; choices = refl }) (λ A. by_out (searched (Unit {0}) nothing_met tt I))
