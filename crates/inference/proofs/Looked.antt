-- How many pairs of components a comparison looks at. Two measures share components up to a first pair that differs, or one of them begins the other;
-- each law is of one of these, and every two measures are one or the other, so that the laws say the number of all. The ranking is settled at that
-- pair. By induction over what is shared. Assumes nothing.
use mathlib.Core.Path.{◌≡◌, refl, sym, ap, subst, ◌∙◌}
use mathlib.Core.Bool.{Bool, true, false}
use mathlib.Core.List.{List, [], ◌∷◌, ◌++◌, map}
use Prim.Native.Nat.{ℕ, suc}
use lib.Dec.{eqb}
use lib.ListN.{length, replicate}
use borrow.Author.Tests.{eqb-true, eqb-false, ne_eqb, eq-eqb}
use Rattle.inference.specs.Measure.{Components, Ranking, smaller, equal, greater, compare, looked, Parting, differ, begins, begun}
use Rattle.inference.proofs.Measures.{Tri, below, level, above, tri, compare_level, compare_below, compare_above}

-- one pair more
pub looked_on : (x y : ℕ) (xs ys : Components) → x ≡ y → looked (x ∷ xs) (y ∷ ys) ≡ suc (looked xs ys)
unfolding looked
looked_on x y xs ys e = rw (eq-eqb x y e)

-- a pair that differs is the last
pub looked_no_further : (x y : ℕ) (xs ys : Components) → (x ≡ y → ⊥) → looked (x ∷ xs) (y ∷ ys) ≡ 1
unfolding looked
looked_no_further x y xs ys n = rw (ne_eqb x y n)

-- "up to and with the first that differs"
pub looked_to_the_difference : (ps xs ys : Components) (x y : ℕ) → (x ≡ y → ⊥) → looked (ps ++ x ∷ xs) (ps ++ y ∷ ys) ≡ suc (length ps)
looked_to_the_difference [] xs ys x y n = looked_no_further x y xs ys n
looked_to_the_difference (p ∷ ps) xs ys x y n =
    looked_on p p (ps ++ x ∷ xs) (ps ++ y ∷ ys) refl ∙ ap suc (looked_to_the_difference ps xs ys x y n)

-- "or all of the shorter measure where none does"
pub looked_at_all_of_the_shorter : (ps xs : Components) → (looked ps (ps ++ xs) ≡ length ps) × (looked (ps ++ xs) ps ≡ length ps)
unfolding looked
looked_at_all_of_the_shorter [] [] = (refl, refl)
looked_at_all_of_the_shorter [] (x ∷ xs) = (refl, refl)
looked_at_all_of_the_shorter (p ∷ ps) xs =
    let h = looked_at_all_of_the_shorter ps xs in
    (looked_on p p ps (ps ++ xs) refl ∙ ap suc h.0, looked_on p p (ps ++ xs) ps refl ∙ ap suc h.1)

-- what comes before both, shared
further : (x y : ℕ) (xs ys : Components) → x ≡ y → Parting xs ys → Parting (x ∷ xs) (y ∷ ys)
further x y _ _ e (differ ps us vs u v n) = subst (λ (z : ℕ). Parting (x ∷ ps ++ u ∷ us) (z ∷ ps ++ v ∷ vs)) e (differ (x ∷ ps) us vs u v n)
further x y _ _ e (begins ps us) = subst (λ (z : ℕ). Parting (x ∷ ps) (z ∷ ps ++ us)) e (begins (x ∷ ps) us)
further x y _ _ e (begun ps us) = subst (λ (z : ℕ). Parting (x ∷ ps ++ us) (z ∷ ps)) e (begun (x ∷ ps) us)

-- Every two measures are of one of the three kinds.
pub every_two_differ_or_begin : (xs ys : Components) → Parting xs ys
every_two_differ_or_begin [] ys = begins [] ys
every_two_differ_or_begin (x ∷ xs) [] = begun [] (x ∷ xs)
every_two_differ_or_begin (x ∷ xs) (y ∷ ys) = go (eqb x y) refl (every_two_differ_or_begin xs ys)
  where
    go : (b : Bool) → eqb x y ≡ b → Parting xs ys → Parting (x ∷ xs) (y ∷ ys)
    go true e h = further x y xs ys (eqb-true x y e) h
    go false e h = differ [] xs ys x y (eqb-false x y e)

-- So the two laws say the number of every two measures.
pub counts_alike_are_looked :
    (f : Components → Components → ℕ)
    → ((ps xs ys : Components) (x y : ℕ) → (x ≡ y → ⊥) → f (ps ++ x ∷ xs) (ps ++ y ∷ ys) ≡ suc (length ps))
    → ((ps xs : Components) → (f ps (ps ++ xs) ≡ length ps) × (f (ps ++ xs) ps ≡ length ps))
    → (xs ys : Components) → f xs ys ≡ looked xs ys
counts_alike_are_looked f d s xs ys = go xs ys (every_two_differ_or_begin xs ys)
  where
    go : (xs ys : Components) → Parting xs ys → f xs ys ≡ looked xs ys
    go _ _ (differ ps us vs u v n) = d ps us vs u v n ∙ sym (looked_to_the_difference ps us vs u v n)
    go _ _ (begins ps us) = (s ps us).0 ∙ sym (looked_at_all_of_the_shorter ps us).0
    go _ _ (begun ps us) = (s ps us).1 ∙ sym (looked_at_all_of_the_shorter ps us).1

-- "The answer is settled at the first component that differs": what comes after it does not count.
pub settled_at_the_difference : (ps xs ys : Components) (x y : ℕ) → (x ≡ y → ⊥) → compare (ps ++ x ∷ xs) (ps ++ y ∷ ys) ≡ compare (x ∷ []) (y ∷ [])
settled_at_the_difference [] xs ys x y n = go (tri x y)
  where
    go : Tri x y → compare (x ∷ xs) (y ∷ ys) ≡ compare (x ∷ []) (y ∷ [])
    go (below l) = compare_below x y xs ys l ∙ sym (compare_below x y [] [] l)
    go (level e) = absurd (n e)
    go (above l) = compare_above x y xs ys l ∙ sym (compare_above x y [] [] l)
settled_at_the_difference (p ∷ ps) xs ys x y n =
    compare_level p p (ps ++ x ∷ xs) (ps ++ y ∷ ys) refl ∙ settled_at_the_difference ps xs ys x y n

-- Two measures, their ranking and how many pairs are looked at, by computation. The longest have 256 components.
long : ℕ → Components → Components
long n xs = replicate n 1 ++ xs

abbrev Sample : Type 0
Sample = Components × Components × Ranking × ℕ

abbrev told : Sample → Ranking × ℕ
told m = (compare m.0 m.1, looked m.0 m.1)

abbrev answer : Sample → Ranking × ℕ
answer m = (m.2, m.3)

pub samples : List Sample
samples =
    ([], [], equal, 0)
    ∷ ([], 3 ∷ [], smaller, 0)
    ∷ (3 ∷ [], [], greater, 0)
    ∷ (0 ∷ 9 ∷ 9 ∷ [], 1 ∷ 0 ∷ 0 ∷ [], smaller, 1)
    ∷ (1 ∷ 0 ∷ 0 ∷ [], 0 ∷ 9 ∷ 9 ∷ [], greater, 1)
    ∷ (2 ∷ 5 ∷ 0 ∷ [], 2 ∷ 4 ∷ 9 ∷ [], greater, 2)
    ∷ (2 ∷ 4 ∷ 9 ∷ [], 2 ∷ 5 ∷ 0 ∷ [], smaller, 2)
    ∷ (1 ∷ 2 ∷ 3 ∷ [], 1 ∷ 5 ∷ 3 ∷ [], smaller, 2)
    ∷ (2 ∷ [], 1 ∷ 9 ∷ [], greater, 1)
    ∷ (1 ∷ 9 ∷ [], 2 ∷ [], smaller, 1)
    ∷ (2 ∷ 4 ∷ [], 2 ∷ 4 ∷ [], equal, 2)
    ∷ (2 ∷ 4 ∷ [], 2 ∷ 4 ∷ 0 ∷ [], smaller, 2)
    ∷ (2 ∷ 4 ∷ 0 ∷ [], 2 ∷ 4 ∷ [], greater, 2)
    ∷ (long 255 (2 ∷ []), long 255 (1 ∷ []), greater, 256)
    ∷ (long 256 [], long 256 [], equal, 256)
    ∷ (0 ∷ long 255 [], long 256 [], smaller, 1)
    ∷ []

pub samples_are_compared : map told samples ≡ map answer samples
unfolding compare looked long samples
samples_are_compared = refl
