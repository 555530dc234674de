-- C-15 of document 02: "the chosen overloads come in whatever order the build had. Fix it: rising expression number."
use Rattle.std.specs.Prelude.{cond, List, [], ◌∷◌, ◌++◌, ℕ, zero, suc, ◌+◌, ◌<◌, eqb, length}
use Rattle.inference.specs.Constraints.{Problem}
use Rattle.inference.specs.Search.{Choice}
use Rattle.inference.specs.Typing.{All}

-- the choices for the expression x, of those in ks
unfoldable pub choices_for : ℕ → List Choice → List Choice
choices_for x [] = []
choices_for x (k ∷ ks) = cond (eqb k.expr x) (k ∷ choices_for x ks) (choices_for x ks)

-- those for n expressions from x on, one expression after another
unfoldable pub rising_from : List Choice → ℕ → ℕ → List Choice
rising_from ks x zero = []
rising_from ks x (suc n) = choices_for x ks ++ rising_from ks (x + 1) n

-- "rising expression number. With that .. it too is equated with a defined one": the choices for each expression of a
-- problem in turn
abbrev pub rising : Problem → List Choice → List Choice
rising P ks = rising_from ks 0 (length P.exprs)

-- numbers of which each is below all that come after it
pub data RisingNumbers : List ℕ → Type 0 where
  no_numbers : RisingNumbers []
  then_above : (x : ℕ) (xs : List ℕ) → All (λ y. x < y) xs → RisingNumbers xs → RisingNumbers (x ∷ xs)
