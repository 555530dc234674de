-- The measure: "256 measure components (one per Sub, per Lit, per Join source)". Measures compare
-- from the front; the first components that differ decide.
use Rattle.std.specs.Prelude.{Bool, true, false, cond, List, [], ◌∷◌, ◌++◌, ℕ, suc, ltb, eqb, length, take, ◌≡◌}
use Rattle.std.specs.declared.cmp.Ordering.{Ordering}
use Rattle.std.specs.declared.cmp.Ordering.TheVariants.{Less, Equal, Greater}

abbrev pub Components : Type 0
Components = List ℕ

pub data Ranking : Type 0 where
  smaller equal greater : Ranking

unfoldable pub compare : Components → Components → Ranking
compare [] [] = equal
compare [] (y ∷ ys) = smaller
compare (x ∷ xs) [] = greater
compare (x ∷ xs) (y ∷ ys) = cond (ltb x y) smaller (cond (ltb y x) greater (compare xs ys))

-- of any two lists: "It also returns how many pairs of components it looked at: up to and with the first that differs,
-- or all of the shorter measure where none does."
unfoldable pub looked : Components → Components → ℕ
looked [] ys = 0
looked (x ∷ xs) [] = 0
looked (x ∷ xs) (y ∷ ys) = suc (cond (eqb x y) (looked xs ys) 0)

-- Any two measures: they share components up to a first pair that differs, or one of them begins the other.
pub data Parting : Components → Components → Type 0 where
  differ : (ps xs ys : Components) (x y : ℕ) → (x ≡ y → ⊥) → Parting (ps ++ x ∷ xs) (ps ++ y ∷ ys)
  begins : (ps xs : Components) → Parting ps (ps ++ xs)
  begun : (ps xs : Components) → Parting (ps ++ xs) ps

-- the ranking that an Ordering of the Rust says
abbrev pub ranking_of : Ordering → Ranking
ranking_of Less = smaller
ranking_of Equal = equal
ranking_of Greater = greater

abbrev pub is_greater : Ranking → Bool
is_greater smaller = false
is_greater equal = false
is_greater greater = true

-- "a prefix greater than the incumbent's is dropped": compared with as many components of the incumbent
-- Exact, since earlier components decide: a greater prefix can become neither equal nor smaller, and an equal one may
-- tie.
unfoldable pub worse : Components → Components → Bool
worse xs best = is_greater (compare xs (take (length xs) best))

-- the other way round
abbrev pub mirrored : Ranking → Ranking
mirrored smaller = greater
mirrored equal = equal
mirrored greater = smaller

-- the order: smaller or equal
abbrev pub AtMost : Components → Components → Type 0
AtMost xs ys = is_greater (compare xs ys) ≡ false
