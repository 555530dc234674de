-- What is said of the outputs where no typing is handed out, clause by clause: every answer but a typing leaves each of the three as it was lent. By the
-- cases of the answer. Assumes nothing.
use mathlib.Core.Path.{◌≡◌, refl}
use mathlib.Core.Bool.{true, false}
use Rattle.std.specs.Prelude.{Ok, Err}
use Rattle.resolved_sort.proofs.Reached.{no_confusion}
use Rattle.inference.specs.declared.Outputs.{Outputs}
use Rattle.inference.specs.declared.Verdict.TheVariants.{NoTyping, Ambiguous, Typing}
use Rattle.inference.specs.SolveChecks.{Call}
use Rattle.inference.specs.SolveEntry.{Solved, solve_entry}
use Rattle.inference.specs.OutputsLeft.{hands_out}
use Rattle.inference.proofs.OutputsLeft.{outputs_untouched_unless_a_typing}

pub only_a_typing_hands_out : (a : Solved) → hands_out a ≡ true → (o : Outputs) × (a ≡ Ok (Typing o))
only_a_typing_hands_out (Err r) e = no_confusion cc
only_a_typing_hands_out (Ok (NoTyping k)) e = no_confusion cc
only_a_typing_hands_out (Ok (Ambiguous k)) e = no_confusion cc
only_a_typing_hands_out (Ok (Typing o)) e = (o, refl)

pub other_answers_leave_outputs_as_lent : (I : Call) → hands_out (solve_entry I).answer ≡ false
    → ((solve_entry I).typing ≡ I.typing) × ((solve_entry I).measure ≡ I.measure) × ((solve_entry I).choices ≡ I.choices)
other_answers_leave_outputs_as_lent I e = let u = outputs_untouched_unless_a_typing I e in (u.typing, u.measure, u.choices)
