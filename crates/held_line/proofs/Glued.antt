-- The lines of an input of which a part of a line has come before: by its next byte. Assumes nothing.
use mathlib.Core.Path.{◌≡◌, refl, sym, ◌∙◌, ap}
use mathlib.Core.Bool.{true, false}
use mathlib.Core.List.{List, [], ◌∷◌, ◌++◌, append_assoc, append-nil}
use Prim.Native.Nat.{ℕ}
use lib.Dec.{eqb}
use Rattle.held_line.specs.Lines.{onto, lines}

-- the lines of an input that goes on with the line l
abbrev pub glue : List ℕ → List (List ℕ) → List (List ℕ)
glue [] [] = []
glue (b ∷ l) [] = (b ∷ l) ∷ []
glue l (m ∷ ms) = (l ++ m) ∷ ms

pub glue_none : (ls : List (List ℕ)) → glue [] ls ≡ ls
glue_none [] = refl
glue_none (m ∷ ms) = refl

glue_line : (l m : List ℕ) (ms : List (List ℕ)) → glue l (m ∷ ms) ≡ (l ++ m) ∷ ms
glue_line [] m ms = refl
glue_line (b ∷ l) m ms = refl

glue_last : (l : List ℕ) (b : ℕ) → glue (l ++ (b ∷ [])) [] ≡ (l ++ (b ∷ [])) ∷ []
glue_last [] b = refl
glue_last (c ∷ l) b = refl

glue_onto : (l : List ℕ) (b : ℕ) (ls : List (List ℕ)) → glue (l ++ (b ∷ [])) ls ≡ glue l (onto b ls)
glue_onto l b [] = glue_last l b ∙ sym (glue_line l (b ∷ []) [])
glue_onto l b (m ∷ ms) = glue_line (l ++ (b ∷ [])) m ms ∙ (ap (λ x. x ∷ ms) (append_assoc l (b ∷ []) m) ∙ sym (glue_line l (b ∷ m) ms))

lines_lf : (b : ℕ) (bs : List ℕ) → eqb b 10 ≡ true → lines (b ∷ bs) ≡ [] ∷ lines bs
unfolding lines
lines_lf b bs e = rw e

lines_byte : (b : ℕ) (bs : List ℕ) → eqb b 10 ≡ false → lines (b ∷ bs) ≡ onto b (lines bs)
unfolding lines
lines_byte b bs e = rw e

pub no_lines : lines [] ≡ []
unfolding lines
no_lines = refl

-- an LF ends a line
pub after_lf : (l : List ℕ) (b : ℕ) (bs : List ℕ) → eqb b 10 ≡ true → glue l (lines (b ∷ bs)) ≡ l ∷ lines bs
after_lf l b bs e = ap (glue l) (lines_lf b bs e) ∙ (glue_line l [] (lines bs) ∙ ap (λ x. x ∷ lines bs) (append-nil l))

-- another byte is one more of it
pub after_byte : (l : List ℕ) (b : ℕ) (bs : List ℕ) → eqb b 10 ≡ false → glue (l ++ (b ∷ [])) (lines bs) ≡ glue l (lines (b ∷ bs))
after_byte l b bs e = glue_onto l b (lines bs) ∙ ap (glue l) (sym (lines_byte b bs e))
