-- Lines of inputs, parts of an input one after another, and what is held of a line, computed: a line up to its LF, an empty one, a last
-- one without LF, a CR as any byte; and no input. Assumes nothing.
use mathlib.Core.Path.{◌≡◌, refl}
use mathlib.Core.List.{[], ◌∷◌, map}
use Rattle.text_out.specs.Quoted.{byte_of, bytes_of}
use Rattle.held_line.specs.Lines.{lines, whole}
use Rattle.held_line.specs.Holding.{holding, line_at, line_kept, held_at}

lines_are : map lines (bytes_of "ab\nc\n" ∷ bytes_of "a\n\nbc" ∷ bytes_of "\n" ∷ bytes_of "a\r" ∷ [] ∷ [])
    ≡ (bytes_of "ab" ∷ bytes_of "c" ∷ []) ∷ (bytes_of "a" ∷ [] ∷ bytes_of "bc" ∷ []) ∷ ([] ∷ []) ∷ (bytes_of "a\r" ∷ []) ∷ [] ∷ []
unfolding lines
lines_are = refl

parts_are_one_input : map whole ((bytes_of "a" ∷ [] ∷ bytes_of "bc\n" ∷ bytes_of "d" ∷ []) ∷ [] ∷ []) ≡ bytes_of "abc\nd" ∷ [] ∷ []
parts_are_one_input = refl

held_are : map (λ l. holding 2 l (byte_of "c")) ([] ∷ bytes_of "a" ∷ bytes_of "ab" ∷ [])
    ≡ bytes_of "c" ∷ bytes_of "ac" ∷ bytes_of "ab" ∷ []
unfolding holding
held_are = refl

-- the line from byte 1 on, of which one byte is held, or all that may be
held_in_memory_are : held_at 2 (bytes_of "abcd") 1 1 (byte_of "x") ∷ held_at 2 (bytes_of "abcd") 1 2 (byte_of "x") ∷ []
    ≡ line_kept (bytes_of "abxd") 2 ∷ line_kept (bytes_of "abcd") 2 ∷ []
unfolding held_at
held_in_memory_are = refl

lines_at_are : line_at (bytes_of "abcd") 1 2 ≡ bytes_of "bc"
lines_at_are = refl
