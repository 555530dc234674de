-- What is put for a line is what is printed for what it came to. Assumes nothing.
use mathlib.Core.Path.{◌≡◌, refl, sym, ap, ◌∙◌}
use mathlib.Core.Bool.{Bool, true, false}
use mathlib.Core.List.{List}
use Prim.Native.Nat.{ℕ}
use Rattle.std.specs.Prelude.{Result}
use Rattle.list_memory.specs.declared.Form.{Form}
use Rattle.list_memory.specs.declared.Heard.{Heard}
use Rattle.list_memory.specs.Memory.{taken}
use Rattle.list_reader.specs.Taking.{line_taken}
use Rattle.text_out.specs.declared.Out.{Out}
use Rattle.text_out.specs.Outs.{then_put}
use Rattle.text_out.specs.Quoted.{bytes_of}
use Rattle.text_out.specs.Within.{PutWithin}
use Rattle.text_out.proofs.Within.{put_none, put_as}
use Rattle.list_lines.specs.Lines.{unasked_text, printed, numbered, line_left, line_left_by, heard_line}

pub heard :
    (ws line : List ℕ) (out left : Out) {vs : List ℕ} {h : Result Heard Form} → taken vs h ≡ line_taken ws line → (H : Result Heard Form) → h ≡ H
    → left ≡ then_put out (printed H line ws vs) → line_left vs left (numbered H) ≡ heard_line ws line out
unfolding heard_line
heard ws line out left {vs} e H k p =
    ap (λ (o : Out). line_left vs o (numbered H)) p ∙ ap (line_left_by ws line out) (ap (taken vs) (sym k) ∙ e)

-- what is put for a list about which nothing is asked, and for one that is asked about
pub unasked_put :
    (unasked : Bool) → unasked ≡ true → {out left : List ℕ} {at r : ℕ} → PutWithin out at (bytes_of "nothing is asked about this list\n") left r
    → PutWithin out at (unasked_text unasked) left r
unfolding unasked_text
unasked_put unasked e p = put_as (rw e) p

pub nothing_put : (unasked : Bool) → (unasked ≡ true → ⊥) → (out : List ℕ) (at : ℕ) → PutWithin out at (unasked_text unasked) out at
unfolding unasked_text
nothing_put true n out at = absurd (n refl)
nothing_put false n out at = put_none out at
