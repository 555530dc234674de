-- What the solver answers about a list, as text.
use Rattle.std.specs.Prelude.{List, [], ◌++◌, ℕ, Ok, Err}
use Rattle.inference.specs.declared.Verdict.TheVariants.{NoTyping, Ambiguous, Typing}
use Rattle.inference.specs.SolveEntry.{Solved, SolveLeft, solve_entry, code_solved}
use Rattle.list_verdict.specs.Text.{verdict_line, new_lines, typing_text}
use Rattle.list_memory.specs.Memory.{sort_list, expr_list}
use Rattle.list_call.specs.Lists.{call_count, call_in}

-- Under the line of the code: of g sorts and x expressions given, a typing, and the sorts made.
unfoldable pub lines_under : ℕ → ℕ → Solved → (sorts typing measure choices : List ℕ) → List ℕ
lines_under g x (Err r) ss ts ms cs = []
lines_under g x (Ok (NoTyping k)) ss ts ms cs = new_lines ss g k.sorts
lines_under g x (Ok (Ambiguous k)) ss ts ms cs = new_lines ss g k.sorts
lines_under g x (Ok (Typing o)) ss ts ms cs =
    typing_text ss o.counts.sorts ts ms cs x o.components o.choices ++ new_lines ss g o.counts.sorts

unfoldable pub told_text : ℕ → ℕ → Solved → (sorts typing measure choices : List ℕ) → List ℕ
told_text g x r ss ts ms cs = verdict_line (code_solved r) ++ lines_under g x r ss ts ms cs

-- what a call left, told
abbrev pub left_text : ℕ → ℕ → SolveLeft → List ℕ
left_text g x L = told_text g x L.answer L.sorts L.typing L.measure L.choices

-- the answer about a list
unfoldable pub answer_text : List ℕ → List ℕ
answer_text ws = left_text (call_count ws sort_list) (call_count ws expr_list) (solve_entry (call_in ws))
