-- What a line left is told whole: the words of the list, and what came of the line. Assumes nothing.
use mathlib.Core.Path.{◌≡◌, ap}
use mathlib.Core.List.{List}
use Prim.Native.Nat.{ℕ}
use Rattle.std.specs.Prelude.{Result}
use Rattle.list_memory.specs.declared.Form.{Form}
use Rattle.list_memory.specs.declared.Heard.{Heard}
use Rattle.list_memory.specs.Memory.{Taken, taken}

pub what_came_of_a_line_is_told_whole : (ws vs : List ℕ) (h g : Result Heard Form) → taken ws h ≡ taken vs g → (ws ≡ vs) × (h ≡ g)
what_came_of_a_line_is_told_whole ws vs h g e = (ap (λ (t : Taken). t.words) e, ap (λ (t : Taken). t.heard) e)
