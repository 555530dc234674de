-- What the contract of `solve_all` says of a reader and a writer that say their bytes; and what is printed for one line more: a line not of
-- the format is told by its own number, one that is passed over is not told, and both count. Assumes nothing.
use mathlib.Core.Path.{◌≡◌, ap, ◌∙◌}
use mathlib.Core.Bool.{true}
use mathlib.Core.List.{List, ◌∷◌, ◌++◌, append_assoc}
use Prim.Native.Nat.{ℕ, ◌+◌, ◌≤◌}
use lib.ListN.{length}
use Rattle.std.specs.Prelude.{Some, Ok, Err}
use Rattle.line_input.specs.Taking.{held_lines}
use Rattle.list_memory.specs.declared.Form.{Form}
use Rattle.list_memory.specs.declared.Heard.TheVariants.{Quiet, Begins}
use Rattle.list_memory.specs.declared.Stage.{Stage}
use Rattle.text_out.specs.Quoted.{bytes_of}
use Rattle.list_memory.specs.Memory.{memory_words, Taken, taken}
use Rattle.list_reader.specs.Taking.{stage_is, begun, line_taken}
use Rattle.list_reader.proofs.Stages.{list_keeps_nothing_of_the_one_before}
use Rattle.list_lines.specs.Lines.{unasked_text, printed, numbered}
use Rattle.solve_lists.specs.Printed.{number_text, taken_printed, all_printed, InputPrinted}

-- What is printed for an input is written behind what was written before it.
pub what_is_printed_is_written : (xs shown left : List ℕ) (ws : List ℕ) (most : ℕ) → InputPrinted (Some xs) (Some shown) (Some left) ws most
    → left ≡ shown ++ all_printed 1 ws (held_lines most xs)
what_is_printed_is_written xs shown left ws most p = p

module _ (n : ℕ) (ws line : List ℕ) (ls : List (List ℕ)) where
  by_what_it_came_to : (t : Taken) → line_taken ws line ≡ t → all_printed n ws (line ∷ ls) ≡ taken_printed n ws line t ++ all_printed (n + 1) t.words ls
  unfolding all_printed
  by_what_it_came_to t e = ap (λ (u : Taken). taken_printed n ws line u ++ all_printed (n + 1) u.words ls) e

  pub bad_line_is_told_by_its_number : (vs : List ℕ) (f : Form) → line_taken ws line ≡ taken vs (Err f)
      → all_printed n ws (line ∷ ls) ≡ (number_text true n ++ printed (Err f) line ws vs) ++ all_printed (n + 1) vs ls
  unfolding numbered
  bad_line_is_told_by_its_number vs f e = by_what_it_came_to (taken vs (Err f)) e

  pub line_passed_over_is_not_told : (vs : List ℕ) → line_taken ws line ≡ taken vs (Ok Quiet)
      → all_printed n ws (line ∷ ls) ≡ all_printed (n + 1) vs ls
  unfolding numbered printed number_text
  line_passed_over_is_not_told vs e = by_what_it_came_to (taken vs (Ok Quiet)) e

  -- What is printed from a `list` line on is that of its list and those after it, whatever the list before was: of that one it is only said
  -- whether anything was asked.
  pub what_is_printed_of_a_list_is_its_own : (vs : List ℕ) → length ws ≤ memory_words → length vs ≤ memory_words
      → line_taken ws line ≡ taken (begun ws) (Ok Begins)
      → all_printed n ws (line ∷ ls) ≡ unasked_text (stage_is ws Stage.Reading) ++ ((line ++ bytes_of "\n") ++ all_printed (n + 1) (begun vs) ls)
  unfolding numbered printed number_text
  what_is_printed_of_a_list_is_its_own vs l m e =
      by_what_it_came_to (taken (begun ws) (Ok Begins)) e
      ∙ (append_assoc (unasked_text (stage_is ws Stage.Reading)) (line ++ bytes_of "\n") (all_printed (n + 1) (begun ws) ls)
      ∙ ap (λ us. unasked_text (stage_is ws Stage.Reading) ++ ((line ++ bytes_of "\n") ++ all_printed (n + 1) us ls))
      (list_keeps_nothing_of_the_one_before ws vs l m))
