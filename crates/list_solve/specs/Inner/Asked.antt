-- An answer of the solver with the slices that it is told from, as the call leaves them.
use Rattle.std.specs.Prelude.{List, ℕ}
use Rattle.inference.specs.SolveEntry.{Solved, SolveLeft}

pub record ListAnswer : Type 0 where
  pub answer : Solved
  pub sorts : List ℕ
  pub typing : List ℕ
  pub measure : List ℕ
  pub choices : List ℕ

abbrev pub list_answer : Solved → (sorts typing measure choices : List ℕ) → ListAnswer
list_answer r ss ts ms cs = record { answer = r; sorts = ss; typing = ts; measure = ms; choices = cs }

abbrev pub list_answer_of : SolveLeft → ListAnswer
list_answer_of L = list_answer L.answer L.sorts L.typing L.measure L.choices
