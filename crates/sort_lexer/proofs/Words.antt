-- Words told apart by their bytes. Assumes nothing.
use mathlib.Core.Path.{◌≡◌, refl, ap}
use mathlib.Core.Bool.{Bool, true, false, cond, ◌&&◌}
use mathlib.Core.List.{List, [], ◌∷◌}
use Prim.Native.Nat.{ℕ}
use lib.Pointwise.{pointwise}
use Rattle.std.specs.Prelude.{Option, Some, nat_eq}
use Rattle.std.specs.List.{find}
use Rattle.resolved_sort.specs.declared.Sort.{Sort}
use Rattle.resolved_sort.specs.declared.ComplexSort.{ComplexSort}
use Rattle.sort_text.specs.Parse.{same_bytes, meaning, WordMeaning, basic, operator, unknown}
use Rattle.sort_lexer.specs.declared.Word.{Word}
use Rattle.sort_lexer.specs.declared.Word.TheVariants.{Basic, Container}
use Rattle.sort_lexer.specs.Inner.Meant.{meant, text_of}

pub equal_bytes : (a b : List ℕ) → pointwise nat_eq a b ≡ same_bytes a b
unfolding same_bytes
equal_bytes [] [] = refl
equal_bytes [] (y ∷ ys) = refl
equal_bytes (x ∷ xs) [] = refl
equal_bytes (x ∷ xs) (y ∷ ys) = ap (λ q. nat_eq x y && q) (equal_bytes xs ys)

abbrev pub all_words : List Word
all_words =
    Basic Sort.Bool ∷ Basic Sort.Pos ∷ Basic Sort.Nat ∷ Basic Sort.Int ∷ Basic Sort.Real
    ∷ Container ComplexSort.List ∷ Container ComplexSort.Set ∷ Container ComplexSort.FSet ∷ Container ComplexSort.Bag ∷ Container ComplexSort.FBag ∷ []

-- the meaning of a word, and of the first word of a list that has the bytes w
abbrev says : Word → WordMeaning
says (Basic s) = basic s
says (Container o) = operator o

abbrev first_with : List ℕ → List Word → WordMeaning
first_with w [] = unknown
first_with w (x ∷ xs) = cond (same_bytes w (text_of x)) (says x) (first_with w xs)

meant_says : (x : Word) → Some x ≡ meant (says x)
unfolding meant
meant_says (Basic s) = refl
meant_says (Container o) = refl

chosen : (q : Bool) (x : Word) (m : WordMeaning) (o : Option Word) → o ≡ meant m → cond q (Some x) o ≡ meant (cond q (says x) m)
chosen true x m o e = meant_says x
chosen false x m o e = e

found_first : (w : List ℕ) (xs : List Word) → find (λ x. same_bytes w (text_of x)) xs ≡ meant (first_with w xs)
unfolding meant
found_first w [] = refl
found_first w (x ∷ xs) = chosen (same_bytes w (text_of x)) x (first_with w xs) (find (λ x. same_bytes w (text_of x)) xs) (found_first w xs)

pub found_word : (w : List ℕ) → find (λ x. same_bytes w (text_of x)) all_words ≡ meant (meaning w)
unfolding meaning text_of
found_word w = found_first w all_words
