-- The lines of an input, and an input in parts.
use Rattle.std.specs.Prelude.{cond, List, [], ◌∷◌, ◌++◌, ℕ, eqb}
use Rattle.text_out.specs.Quoted.{byte_of}

-- the lines of the input, without their LF: a last nonempty line needs none
abbrev pub onto : ℕ → List (List ℕ) → List (List ℕ)
onto b [] = (b ∷ []) ∷ []
onto b (l ∷ ls) = (b ∷ l) ∷ ls

unfoldable pub lines : List ℕ → List (List ℕ)
lines [] = []
lines (b ∷ bs) = cond (eqb b (byte_of "\n")) ([] ∷ lines bs) (onto b (lines bs))

-- the parts of an input, one after another
abbrev pub whole : List (List ℕ) → List ℕ
whole [] = []
whole (p ∷ ps) = p ++ whole ps
