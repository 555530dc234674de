-- What the list program prints for the lines of an input, one after another, and at the end; and of a reader and a writer
-- that say which bytes they have left and hold, that it is written. Standard input and output do not say it.
use Rattle.std.specs.Prelude.{Bool, true, false, List, [], ◌∷◌, ◌++◌, ℕ, ◌+◌, codes, decimal, Option, IfSome}
use Rattle.std.specs.Io.KnownBytes.{Appends}
use Rattle.line_input.specs.Taking.{held_lines}
use Rattle.list_memory.specs.Memory.{Taken}
use Rattle.list_memory.specs.declared.Stage.{Stage}
use Rattle.list_reader.specs.Taking.{stage_is, line_taken}
use Rattle.list_lines.specs.Lines.{unasked_text, printed, numbered}

-- the number of a line, where it is to stand before what there is to say of it
unfoldable pub number_text : Bool → ℕ → List ℕ
number_text true n = codes "line " ++ (decimal n ++ codes ": ")
number_text false n = []

-- line n, which came to t: ws are the words of the list before it
abbrev pub taken_printed : ℕ → List ℕ → List ℕ → Taken → List ℕ
taken_printed n ws line t = number_text (numbered t.heard) n ++ printed t.heard line ws t.words

abbrev pub line_printed : ℕ → List ℕ → List ℕ → List ℕ
line_printed n ws line = taken_printed n ws line (line_taken ws line)

-- the lines from line n on, and the end
unfoldable pub all_printed : ℕ → List ℕ → List (List ℕ) → List ℕ
all_printed n ws [] = unasked_text (stage_is ws Stage.Reading)
all_printed n ws (l ∷ ls) = line_printed n ws l ++ all_printed (n + 1) (line_taken ws l).words ls

-- What is printed for all lines of the input, each as far as it is held, is written.
abbrev pub InputPrinted : (known shown shown-left : Option (List ℕ)) → (ws : List ℕ) → (most : ℕ) → Type 0
InputPrinted known shown shown-left ws most =
    IfSome known (λ xs. Appends shown shown-left (all_printed 1 ws (held_lines most xs)))
