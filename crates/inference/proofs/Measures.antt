-- Measures are in a total order, from the front, and rank as the Rust's slices do. Components that differ first decide, so each law is by the first
-- components: below, level or above. A prefix is worse than the incumbent exactly if every measure that begins with it is greater: "Pruning is exact".
-- Assumes nothing.
use mathlib.Core.Path.{◌≡◌, refl, sym, ap, ap₂, subst, ◌∙◌}
use mathlib.Core.Bool.{Bool, true, false}
use mathlib.Core.List.{[], ◌∷◌, ◌++◌}
use mathlib.Core.Logic.{◌⊎◌, inl, inr, ◌↔◌}
use Prim.Native.Nat.{ℕ, ◌<◌}
use native.Mathlib.Omega.{arith}
use lib.Dec.{ltb}
use lib.ListN.{length, take, drop}
use borrow.Author.Tests.{ltb-true, ltb-false, lt-ltb, le-ltb}
use Rattle.resolved_sort.proofs.Reached.{no_confusion}
use Rattle.std.specs.declared.cmp.Ordering.{Ordering}
use Rattle.std.specs.declared.cmp.Ordering.TheVariants.{Less, Equal, Greater}
use Rattle.std.specs.Ordering.{MatchOrdering, nat_cmp, ordering_then}
use Rattle.std.specs.Cmp.Lexicographic.{slice_cmp}
use Rattle.std.proofs.lemmas.Cmp.{ranked}
use Rattle.inference.specs.Measure.{Components, Ranking, smaller, equal, greater, compare, is_greater, worse, mirrored, AtMost, ranking_of}

-- how two components stand
pub data Tri (x y : ℕ) : Type 0 where
  below : x < y → Tri x y
  level : x ≡ y → Tri x y
  above : y < x → Tri x y

pub tri : (x y : ℕ) → Tri x y
tri x y = go (ltb x y) refl (ltb y x) refl
  where
    go : (a : Bool) → ltb x y ≡ a → (b : Bool) → ltb y x ≡ b → Tri x y
    go true a b d = below (ltb-true x y a)
    go false a true d = above (ltb-true y x d)
    go false a false d = level (omega (arith, ltb-false x y a, ltb-false y x d))

module _ (x y : ℕ) (xs ys : Components) where
  pub compare_below : x < y → compare (x ∷ xs) (y ∷ ys) ≡ smaller
  unfolding compare
  compare_below l = rw (lt-ltb x y l)

  pub compare_above : y < x → compare (x ∷ xs) (y ∷ ys) ≡ greater
  unfolding compare
  compare_above l = rw (le-ltb x y (omega (arith, l)), lt-ltb y x l)

  pub compare_level : x ≡ y → compare (x ∷ xs) (y ∷ ys) ≡ compare xs ys
  unfolding compare
  compare_level e = rw (le-ltb x y (omega (arith, e)), le-ltb y x (omega (arith, e)))

-- from the front: the first components decide if they differ, else what comes after them
pub first_difference_decides :
    (x y : ℕ) (xs ys : Components)
    → (x < y → compare (x ∷ xs) (y ∷ ys) ≡ smaller)
    × (y < x → compare (x ∷ xs) (y ∷ ys) ≡ greater)
    × (x ≡ y → compare (x ∷ xs) (y ∷ ys) ≡ compare xs ys)
first_difference_decides x y xs ys = (compare_below x y xs ys, compare_above x y xs ys, compare_level x y xs ys)

-- where one begins the other, the shorter is smaller
pub shorter_is_smaller : (ps xs : Components) (x : ℕ) → compare ps (ps ++ x ∷ xs) ≡ smaller
unfolding compare
shorter_is_smaller [] xs x = refl
shorter_is_smaller (p ∷ ps) xs x = compare_level p p ps (ps ++ x ∷ xs) refl ∙ shorter_is_smaller ps xs x

-- The Rust's order of slices, by which merc compares measures, ranks as measures do.
pub ranked_as_slices_are : (xs ys : Components) → ranking_of (slice_cmp nat_cmp xs ys) ≡ compare xs ys
unfolding compare
ranked_as_slices_are [] [] = refl
ranked_as_slices_are [] (y ∷ ys) = refl
ranked_as_slices_are (x ∷ xs) [] = refl
ranked_as_slices_are (x ∷ xs) (y ∷ ys) =
    by_first (nat_cmp x y) (slice_cmp nat_cmp xs ys) (ranked x y (nat_cmp x y) refl) (ranked_as_slices_are xs ys)
  where
    by_first : (o p : Ordering) → MatchOrdering o (x < y) (x ≡ y) (y < x) → ranking_of p ≡ compare xs ys
        → ranking_of (ordering_then o p) ≡ compare (x ∷ xs) (y ∷ ys)
    by_first Less p l q = sym (compare_below x y xs ys l)
    by_first Equal p l q = q ∙ sym (compare_level x y xs ys l)
    by_first Greater p l q = sym (compare_above x y xs ys l)

pub compare_mirrored : (xs ys : Components) → compare ys xs ≡ mirrored (compare xs ys)
unfolding compare
compare_mirrored [] [] = refl
compare_mirrored [] (y ∷ ys) = refl
compare_mirrored (x ∷ xs) [] = refl
compare_mirrored (x ∷ xs) (y ∷ ys) = go (tri x y) (compare_mirrored xs ys)
  where
    go : Tri x y → compare ys xs ≡ mirrored (compare xs ys) → compare (y ∷ ys) (x ∷ xs) ≡ mirrored (compare (x ∷ xs) (y ∷ ys))
    go (below l) h = compare_above y x ys xs l ∙ ap mirrored (sym (compare_below x y xs ys l))
    go (level e) h = compare_level y x ys xs (sym e) ∙ (h ∙ ap mirrored (sym (compare_level x y xs ys e)))
    go (above l) h = compare_below y x ys xs l ∙ ap mirrored (sym (compare_above x y xs ys l))

pub compare_self : (xs : Components) → compare xs xs ≡ equal
unfolding compare
compare_self [] = refl
compare_self (x ∷ xs) = compare_level x x xs xs refl ∙ compare_self xs

pub equal_are_one : (xs ys : Components) → compare xs ys ≡ equal → xs ≡ ys
unfolding compare
equal_are_one [] [] e = refl
equal_are_one [] (y ∷ ys) e = no_confusion (cc)
equal_are_one (x ∷ xs) [] e = no_confusion (cc)
equal_are_one (x ∷ xs) (y ∷ ys) e = go (tri x y) (equal_are_one xs ys)
  where
    go : Tri x y → (compare xs ys ≡ equal → xs ≡ ys) → x ∷ xs ≡ y ∷ ys
    go (below l) h = let z : smaller ≡ equal = sym (compare_below x y xs ys l) ∙ e in no_confusion (cc)
    go (level i) h = ap₂ ◌∷◌ i (h (sym (compare_level x y xs ys i) ∙ e))
    go (above l) h = let z : greater ≡ equal = sym (compare_above x y xs ys l) ∙ e in no_confusion (cc)

pub equal_exactly_if_one : (xs ys : Components) → (compare xs ys ≡ equal) ↔ (xs ≡ ys)
equal_exactly_if_one xs ys = (equal_are_one xs ys, λ e. subst (λ zs. compare xs zs ≡ equal) e (compare_self xs))

pub smaller_trans : (xs ys zs : Components) → compare xs ys ≡ smaller → compare ys zs ≡ smaller → compare xs zs ≡ smaller
unfolding compare
smaller_trans [] [] zs e f = no_confusion (cc)
smaller_trans [] (y ∷ ys) [] e f = no_confusion (cc)
smaller_trans [] (y ∷ ys) (z ∷ zs) e f = refl
smaller_trans (x ∷ xs) [] zs e f = no_confusion (cc)
smaller_trans (x ∷ xs) (y ∷ ys) [] e f = no_confusion (cc)
smaller_trans (x ∷ xs) (y ∷ ys) (z ∷ zs) e f = go (tri x y) (tri y z) (smaller_trans xs ys zs)
  where
    go : Tri x y → Tri y z → (compare xs ys ≡ smaller → compare ys zs ≡ smaller → compare xs zs ≡ smaller) → compare (x ∷ xs) (z ∷ zs) ≡ smaller
    go (above l) t h = let c : greater ≡ smaller = sym (compare_above x y xs ys l) ∙ e in no_confusion (cc)
    go (below l) (above m) h = let c : greater ≡ smaller = sym (compare_above y z ys zs m) ∙ f in no_confusion (cc)
    go (level i) (above m) h = let c : greater ≡ smaller = sym (compare_above y z ys zs m) ∙ f in no_confusion (cc)
    go (below l) (below m) h = compare_below x z xs zs (omega (arith, l, m))
    go (below l) (level j) h = compare_below x z xs zs (omega (arith, l, j))
    go (level i) (below m) h = compare_below x z xs zs (omega (arith, i, m))
    go (level i) (level j) h = compare_level x z xs zs (i ∙ j) ∙ h (sym (compare_level x y xs ys i) ∙ e) (sym (compare_level y z ys zs j) ∙ f)

pub at_most_is_smaller_or_one : (xs ys : Components) → AtMost xs ys → (compare xs ys ≡ smaller) ⊎ (xs ≡ ys)
at_most_is_smaller_or_one xs ys a = go (compare xs ys) refl a
  where
    go : (r : Ranking) → compare xs ys ≡ r → is_greater r ≡ false → (r ≡ smaller) ⊎ (xs ≡ ys)
    go smaller e a = inl refl
    go equal e a = inr (equal_are_one xs ys e)
    go greater e a = no_confusion (cc)

pub smaller_is_at_most : (xs ys : Components) → compare xs ys ≡ smaller → AtMost xs ys
smaller_is_at_most xs ys e = ap is_greater e

pub at_most_self : (xs : Components) → AtMost xs xs
at_most_self xs = ap is_greater (compare_self xs)

-- what is smaller than one is smaller than all that this is at most
pub smaller_below : (xs ys zs : Components) → compare xs ys ≡ smaller → AtMost ys zs → compare xs zs ≡ smaller
smaller_below xs ys zs e a = go (at_most_is_smaller_or_one ys zs a)
  where
    go : (compare ys zs ≡ smaller) ⊎ (ys ≡ zs) → compare xs zs ≡ smaller
    go (inl f) = smaller_trans xs ys zs e f
    go (inr i) = subst (λ us. compare xs us ≡ smaller) i e

pub at_most_each_other_are_one : (xs ys : Components) → AtMost xs ys → AtMost ys xs → xs ≡ ys
at_most_each_other_are_one xs ys a b = go (at_most_is_smaller_or_one xs ys a)
  where
    go : (compare xs ys ≡ smaller) ⊎ (xs ≡ ys) → xs ≡ ys
    go (inl e) = let z : true ≡ false = sym (ap is_greater (compare_mirrored xs ys ∙ ap mirrored e)) ∙ b in no_confusion (cc)
    go (inr i) = i

pub greater_mirrored : (xs ys : Components) → compare xs ys ≡ greater → compare ys xs ≡ smaller
greater_mirrored xs ys e = compare_mirrored xs ys ∙ ap mirrored e

pub one_is_at_most : (xs ys : Components) → AtMost xs ys ⊎ AtMost ys xs
one_is_at_most xs ys = go (compare xs ys) refl
  where
    go : (r : Ranking) → compare xs ys ≡ r → AtMost xs ys ⊎ AtMost ys xs
    go smaller e = inl (ap is_greater e)
    go equal e = inl (ap is_greater e)
    go greater e = inr (smaller_is_at_most ys xs (greater_mirrored xs ys e))

-- Dropping loses nothing that is smaller or equal: what begins with a worse prefix is greater.
pub worse_extended : (xs ys best : Components) → worse xs best ≡ true → compare (xs ++ ys) best ≡ greater
unfolding worse compare
worse_extended [] ys best w = no_confusion (cc)
worse_extended (x ∷ xs) ys [] w = refl
worse_extended (x ∷ xs) ys (b ∷ bs) w = go (tri x b) (worse_extended xs ys bs)
  where
    go : Tri x b → (is_greater (compare xs (take (length xs) bs)) ≡ true → compare (xs ++ ys) bs ≡ greater) → compare (x ∷ xs ++ ys) (b ∷ bs) ≡ greater
    go (below l) h = let z : false ≡ true = sym (ap is_greater (compare_below x b xs (take (length xs) bs) l)) ∙ w in no_confusion (cc)
    go (level i) h = compare_level x b (xs ++ ys) bs i ∙ h (sym (ap is_greater (compare_level x b xs (take (length xs) bs) i)) ∙ w)
    go (above l) h = compare_above x b (xs ++ ys) bs l

-- Nothing is kept that could be dropped: a prefix that is not worse begins a measure that is at most the incumbent's.
pub not_worse_extended : (xs best : Components) → worse xs best ≡ false → AtMost (xs ++ drop (length xs) best) best
unfolding worse compare
not_worse_extended [] best w = at_most_self best
not_worse_extended (x ∷ xs) [] w = no_confusion (cc)
not_worse_extended (x ∷ xs) (b ∷ bs) w = go (tri x b) (not_worse_extended xs bs)
  where
    go : Tri x b → (is_greater (compare xs (take (length xs) bs)) ≡ false → AtMost (xs ++ drop (length xs) bs) bs)
        → AtMost (x ∷ xs ++ drop (length xs) bs) (b ∷ bs)
    go (below l) h = ap is_greater (compare_below x b (xs ++ drop (length xs) bs) bs l)
    go (level i) h = ap is_greater (compare_level x b (xs ++ drop (length xs) bs) bs i) ∙ h
        (sym (ap is_greater (compare_level x b xs (take (length xs) bs) i)) ∙ w)
    go (above l) h = let z : true ≡ false = sym (ap is_greater (compare_above x b xs (take (length xs) bs) l)) ∙ w in no_confusion (cc)

pub worse_exactly_if_extensions_greater : (xs best : Components) → (worse xs best ≡ true) ↔ ((ys : Components) → compare (xs ++ ys) best ≡ greater)
worse_exactly_if_extensions_greater xs best = (λ w ys. worse_extended xs ys best w, λ h. go (worse xs best) refl h)
  where
    go : (b : Bool) → worse xs best ≡ b → ((ys : Components) → compare (xs ++ ys) best ≡ greater) → b ≡ true
    go true w h = refl
    go false w h = let z : true ≡ false = sym (ap is_greater (h (drop (length xs) best))) ∙ not_worse_extended xs best w in no_confusion (cc)
