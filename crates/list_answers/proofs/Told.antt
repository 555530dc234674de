-- The text of an answer begins with the line of its code, and so tells the code; and how long the longest may be. Assumes nothing.
use mathlib.Core.Path.{◌≡◌, refl, sym, ◌∙◌}
use mathlib.Core.List.{List, ◌∷◌, ◌++◌}
use Prim.Native.Nat.{ℕ, ◌≤◌}
use native.Mathlib.Omega.{arith}
use Rattle.std.proofs.Common.{append_assoc}
use Rattle.std.specs.Prelude.{Ok, Err}
use Rattle.resolved_sort.specs.declared.Refusal.{Refusal}
use Rattle.resolved_sort.specs.Checks.{code_of}
use Rattle.inference.specs.declared.Verdict.TheVariants.{NoTyping, Ambiguous, Typing}
use Rattle.inference.specs.SolveEntry.{Solved, SolveLeft, solve_entry, code_solved}
use Rattle.text_out.specs.Quoted.{bytes_of}
use Rattle.text_out.specs.Decimal.{decimal}
use Rattle.list_call.specs.Lists.{call_in}
use Rattle.list_verdict.specs.Words.{message}
use Rattle.list_verdict.specs.Text.{verdict_line}
use Rattle.list_verdict.proofs.Told.{number_in_front_is_told}
use Rattle.list_answers.specs.Answer.{left_text, told_text, answer_text}
use Rattle.list_answers.specs.Longest.{most_answer}

refusal_small : (r : Refusal) → code_of r ≤ 19
unfolding code_of
refusal_small Refusal.NotLent = omega arith
refusal_small Refusal.NotFixedSix = omega arith
refusal_small Refusal.BadSort = omega arith
refusal_small Refusal.EqualSorts = omega arith
refusal_small Refusal.BadNode = omega arith
refusal_small Refusal.BadBinding = omega arith
refusal_small Refusal.Cyclic = omega arith
refusal_small Refusal.BadExpression = omega arith
refusal_small Refusal.BadConstraint = omega arith
refusal_small Refusal.TwoForOne = omega arith
refusal_small Refusal.BadJoin = omega arith
refusal_small Refusal.NotInList = omega arith
refusal_small Refusal.NoText = omega arith
refusal_small Refusal.TooShort = omega arith
refusal_small Refusal.SortsFull = omega arith
refusal_small Refusal.NodesFull = omega arith
refusal_small Refusal.LongLine = omega arith

code_small : (r : Solved) → code_solved r ≤ 19
unfolding code_solved
code_small (Err r) = refusal_small r
code_small (Ok (NoTyping k)) = omega arith
code_small (Ok (Ambiguous k)) = omega arith
code_small (Ok (Typing o)) = omega arith

code_first : (c : ℕ) (under : List ℕ) → verdict_line c ++ under ≡ decimal c ++ (32 ∷ ((message c ++ bytes_of "\n") ++ under))
unfolding verdict_line
code_first c under = append_assoc (decimal c) (32 ∷ (message c ++ bytes_of "\n")) under

-- What is told of two calls is the same text only if they have one code.
pub text_tells_its_code : (g x h y : ℕ) (L M : SolveLeft) → left_text g x L ≡ left_text h y M → code_solved L.answer ≡ code_solved M.answer
unfolding told_text
text_tells_its_code g x h y L M e =
    number_in_front_is_told (code_solved L.answer) (code_solved M.answer) _ _ (omega (arith, code_small L.answer)) (omega (arith, code_small M.answer))
    (sym (code_first (code_solved L.answer) _) ∙ (e ∙ code_first (code_solved M.answer) _))

-- So the answer about a list tells the code of the call that it stands for.
pub answer_tells_its_code : (ws vs : List ℕ) → answer_text ws ≡ answer_text vs
    → code_solved (solve_entry (call_in ws)).answer ≡ code_solved (solve_entry (call_in vs)).answer
unfolding answer_text
answer_tells_its_code ws vs e = text_tells_its_code _ _ _ _ (solve_entry (call_in ws)) (solve_entry (call_in vs)) e

-- The number that docs/CLAIMS.md names.
pub longest_answer_has_379287_bytes : most_answer ≡ 379287
longest_answer_has_379287_bytes = refl
