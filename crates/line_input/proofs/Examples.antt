-- Lines taken, computed: an input in four parts, with a line that goes over three of them and is longer than the three bytes held,
-- an empty line, and a last line without LF; and no input. Assumes nothing.
use mathlib.Core.Path.{◌≡◌, refl}
use mathlib.Core.List.{[], ◌∷◌, map}
use Rattle.text_out.specs.Quoted.{bytes_of}
use Rattle.held_line.specs.Holding.{holding}
use Rattle.line_input.specs.Taking.{take_line, goes_on, following_by, then_lines, line_by_line}

inputs_are_taken : map (line_by_line 9 3 [])
    ((bytes_of "a\nb" ∷ bytes_of "cde" ∷ [] ∷ bytes_of "f\n\ng" ∷ [])
    ∷ (bytes_of "a\nb\n" ∷ [])
    ∷ (bytes_of "\n" ∷ [])
    ∷ []
    ∷ [])
    ≡ (bytes_of "a" ∷ bytes_of "bcd" ∷ [] ∷ bytes_of "g" ∷ [])
    ∷ (bytes_of "a" ∷ bytes_of "b" ∷ [])
    ∷ ([] ∷ [])
    ∷ []
    ∷ []
unfolding take_line goes_on following_by then_lines line_by_line holding
inputs_are_taken = refl
