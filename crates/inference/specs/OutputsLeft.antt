-- What a call leaves of the outputs where it hands no typing out: "17 and 18 leave outputs untouched", and so do all
-- codes before them. And where it hands one out: "0 leaves output rows past its counts untouched".
use Rattle.std.specs.Prelude.{◌≡◌, Bool, true, false, ◌*◌, length, drop, Ok, Err}
use Rattle.inference.specs.declared.Outputs.{Outputs}
use Rattle.inference.specs.declared.Verdict.TheVariants.{NoTyping, Ambiguous, Typing}
use Rattle.inference.specs.SolveChecks.{Call, typing_words, choice_words}
use Rattle.inference.specs.SolveEntry.{Solved, SolveLeft}

abbrev pub hands_out : Solved → Bool
hands_out (Err r) = false
hands_out (Ok (NoTyping k)) = false
hands_out (Ok (Ambiguous k)) = false
hands_out (Ok (Typing o)) = true

pub record OutputsUntouched (I : Call) (L : SolveLeft) : Type 0 where
  pub typing : L.typing ≡ I.typing
  pub measure : L.measure ≡ I.measure
  pub choices : L.choices ≡ I.choices

-- as long as they were lent, with the rows past the counts as they were
pub record RowsPastUntouched (I : Call) (L : SolveLeft) (o : Outputs) : Type 0 where
  pub typing_long : length L.typing ≡ length I.typing
  pub measure_long : length L.measure ≡ length I.measure
  pub choices_long : length L.choices ≡ length I.choices
  pub typing : drop (typing_words * I.rows.exprs) L.typing ≡ drop (typing_words * I.rows.exprs) I.typing
  pub measure : drop o.components L.measure ≡ drop o.components I.measure
  pub choices : drop (choice_words * o.choices) L.choices ≡ drop (choice_words * o.choices) I.choices
