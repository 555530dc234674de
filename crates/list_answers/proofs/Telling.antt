-- What a call leaves can be told, and where the told slices lie. Assumes nothing.
use mathlib.Core.Path.{◌≡◌, refl, sym, ◌∙◌, ap, subst}
use mathlib.Core.List.{List}
use Prim.Native.Nat.{ℕ}
use Rattle.std.specs.Prelude.{Ok, Err}
use Rattle.inference.specs.declared.Verdict.TheVariants.{NoTyping, Ambiguous, Typing}
use Rattle.inference.specs.SolveChecks.{Call}
use Rattle.inference.specs.SolveEntry.{Solved, solve_entry}
use Rattle.inference.specs.ListsLeft.{counts_told}
use Rattle.inference.proofs.ListsLeft.{sorts_only_grow}
use Rattle.text_out.specs.declared.Out.{Out}
use Rattle.text_out.specs.Outs.{then_put}
use Rattle.list_call.specs.Lists.{sorts_in, typing_in, measure_in, choices_in, call_on}
use Rattle.list_solve.specs.Inner.Asked.{ListAnswer, list_answer, list_answer_of}
use Rattle.list_answers.specs.Answer.{answer_text}
use Rattle.list_answers.specs.Inner.Answer.{Tellable, told_of}

-- What a call leaves can be told: after a typing the sorts are checked.
pub left_tellable : (I : Call) → Tellable (solve_entry I).answer (solve_entry I).sorts
left_tellable I = go (solve_entry I).answer refl
  where
    go : (r : Solved) → (solve_entry I).answer ≡ r → Tellable r (solve_entry I).sorts
    go (Err r) e = tt
    go (Ok (NoTyping k)) e = tt
    go (Ok (Ambiguous k)) e = tt
    go (Ok (Typing o)) e = (sorts_only_grow I o.counts (ap counts_told e)).checked

-- What is left after asking and telling.
module _ (I : Call) (r : Solved) (ss ts ms cs : List ℕ) (e : list_answer r ss ts ms cs ≡ list_answer_of (solve_entry I)) where
  pub answer_tellable : Tellable r ss
  answer_tellable = subst (λ (A : ListAnswer). Tellable A.answer A.sorts) (sym e) (left_tellable I)

-- the slices that are told, as the list lends them
pub all_lent :
    (ws : List ℕ) (out left : Out) (ss ts ms cs : List ℕ) → ss ≡ sorts_in ws → ts ≡ typing_in ws → ms ≡ measure_in ws → cs ≡ choices_in ws
    → left ≡ told_of ws out (solve_entry (call_on ws ss ts ms cs)) → left ≡ then_put out (answer_text ws)
unfolding answer_text
all_lent ws out left ss ts ms cs es et em ec h = h ∙ (λ i. told_of ws out (solve_entry (call_on ws (es i) (et i) (em i) (ec i))))
