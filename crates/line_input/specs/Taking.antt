-- A line taken from an input that comes in parts. Of a line no more than its first `most` bytes are held, up to its LF;
-- a last nonempty line needs no LF.
use Rattle.std.specs.Prelude.{cond, List, [], ◌∷◌, map, ℕ, zero, suc, take, eqb}
use Rattle.text_out.specs.Quoted.{byte_of}
use Rattle.held_line.specs.Lines.{lines}
use Rattle.held_line.specs.Holding.{holding}

-- What bytes come to: a line, and the bytes behind its LF; or there is no LF among them, and so much of a line is held.
pub data Came : Type 0 where
  line_ends : List ℕ → List ℕ → Came
  going : List ℕ → Came

-- bytes, from what is held of a line on
unfoldable pub take_line : ℕ → List ℕ → List ℕ → Came
take_line most l [] = going l
take_line most l (b ∷ bs) = cond (eqb b (byte_of "\n")) (line_ends l bs) (take_line most (holding most l b) bs)

-- what parts of an input come to, and the parts that are not looked at
pub record Reached : Type 0 where
  pub came : Came
  pub parts : List (List ℕ)

abbrev pub reached : Came → List (List ℕ) → Reached
reached c ps = record { came = c; parts = ps }

-- one part after another, up to the end of the line
unfoldable pub goes_on : ℕ → List (List ℕ) → Came → Reached
goes_on most [] c = reached c []
goes_on most (p ∷ ps) (line_ends l bs) = reached (line_ends l bs) (p ∷ ps)
goes_on most (p ∷ ps) (going l) = goes_on most ps (take_line most l p)

-- the next line of an input that ends with its parts, the bytes left of a part, and the parts left; or no line
pub data Following : Type 0 where
  some_line : List ℕ → List ℕ → List (List ℕ) → Following
  no_line : Following

unfoldable pub following_by : Came → List (List ℕ) → Following
following_by (line_ends l bs) ps = some_line l bs ps
following_by (going []) ps = no_line
following_by (going (b ∷ l)) ps = some_line (b ∷ l) [] []

abbrev pub following_of : Reached → Following
following_of r = following_by r.came r.parts

-- the next line from bytes on that are not taken yet
abbrev pub next_line : ℕ → List ℕ → List (List ℕ) → Following
next_line most bs ps = following_of (goes_on most ps (take_line most [] bs))

-- the lines that calls in turn take, k of them at most
unfoldable pub then_lines : (List ℕ → List (List ℕ) → List (List ℕ)) → Following → List (List ℕ)
then_lines others (some_line l bs ps) = l ∷ others bs ps
then_lines others no_line = []

unfoldable pub line_by_line : ℕ → ℕ → List ℕ → List (List ℕ) → List (List ℕ)
line_by_line zero most bs ps = []
line_by_line (suc k) most bs ps = then_lines (λ cs qs. line_by_line k most cs qs) (next_line most bs ps)

-- the lines of an input, each as far as it is held
abbrev pub held_lines : ℕ → List ℕ → List (List ℕ)
held_lines most bs = map (take most) (lines bs)
