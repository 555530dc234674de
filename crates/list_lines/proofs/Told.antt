-- What `hear` leaves is told whole by its contract: the words, the output, and whether the number stands before. Of a line that is passed
-- over, as each is in a list that has a line not of the format, nothing is printed. Assumes nothing.
use mathlib.Core.Path.{◌≡◌, ap, ◌∙◌}
use mathlib.Core.Bool.{Bool, false}
use mathlib.Core.List.{List}
use Prim.Native.Nat.{ℕ}
use Rattle.std.specs.Prelude.{Ok}
use Rattle.list_memory.specs.declared.Heard.TheVariants.{Quiet}
use Rattle.list_memory.specs.Memory.{taken}
use Rattle.list_reader.specs.Taking.{line_taken}
use Rattle.text_out.specs.declared.Out.{Out}
use Rattle.text_out.proofs.Outs.{then_put_nothing}
use Rattle.list_lines.specs.Lines.{printed, numbered, LineLeft, line_left, line_left_by, heard_line}

pub what_is_left_is_told_whole : (ws vs : List ℕ) (o p : Out) (b c : Bool) → line_left ws o b ≡ line_left vs p c → (ws ≡ vs) × (o ≡ p) × (b ≡ c)
what_is_left_is_told_whole ws vs o p b c e =
    (ap (λ (l : LineLeft). l.words) e, ap (λ (l : LineLeft). l.out) e, ap (λ (l : LineLeft). l.numbered) e)

pub nothing_is_printed_of_a_line_passed_over : (ws line : List ℕ) (out : Out) → line_taken ws line ≡ taken ws (Ok Quiet)
    → heard_line ws line out ≡ line_left ws out false
unfolding heard_line printed numbered
nothing_is_printed_of_a_line_passed_over ws line out e =
    ap (line_left_by ws line out) e ∙ ap (λ (o : Out). line_left ws o false) (then_put_nothing out)
