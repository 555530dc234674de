-- A run of stores, one turn after another. Assumes nothing.
use mathlib.Core.Path.{◌≡◌, refl, sym, ap, ◌∙◌}
use mathlib.Core.List.{List}
use Prim.Native.Nat.{ℕ, zero, suc, ◌+◌, ◌*◌, ◌<◌, ◌≤◌}
use native.Mathlib.Omega.{arith}
use native.Mathlib.Nat.{add-zero}
use native.Mathlib.Numerals.{add-one}
use lib.ListN.{length, get_or, drop, set, drop_of_length-le}
use lib.Seq.{sets, drop-cons}
use Rattle.resolved_sort.specs.declared.SortId.{SortId}
use Rattle.resolved_sort.specs.Storage.{row_words, fixed_rows}
use Rattle.resolved_sort.specs.Inner.Storage.{sort_numbers}
use Rattle.resolved_sort.proofs.SortNumbers.{length_sort_numbers, get_d_sort_numbers}

-- the words of xs from i on stored, the first of xs at p
unfoldable pub sets_from : ℕ → List ℕ → ℕ → List ℕ → List ℕ
sets_from i ws p xs = sets ws (p + i) (drop i xs)

pub stored_from_start : (ws : List ℕ) (p : ℕ) (xs : List ℕ) → sets ws p xs ≡ sets_from 0 ws p xs
unfolding sets_from
stored_from_start ws p xs = ap (λ q. sets ws q xs) (sym (add-zero p))

stored_from_next : (i : ℕ) (ws : List ℕ) (p : ℕ) (xs : List ℕ) → i < length xs → sets_from i ws p xs ≡ sets_from (i + 1) (set ws (p + i) (get_or xs i 0)) p xs
unfolding sets_from
stored_from_next i ws p xs h =
    ap (λ ys. sets ws (p + i) ys) (drop-cons xs i 0 h)
    ∙ ap (λ q. sets (set ws (p + i) (get_or xs i 0)) q (drop (suc i) xs)) (omega arith)
    ∙ ap (λ q. sets (set ws (p + i) (get_or xs i 0)) (p + (i + 1)) (drop q xs)) (sym (add-one i))

stored_at_end : (i : ℕ) (ws : List ℕ) (p : ℕ) (xs : List ℕ) → length xs ≤ i → sets_from i ws p xs ≡ ws
unfolding sets_from
stored_at_end i ws p xs h = ap (λ ys. sets ws (p + i) ys) (drop_of_length-le xs h)

-- words given, put one after another
module _ (ws xs : List ℕ) (p i : ℕ) (whole : List ℕ) (inv : whole ≡ sets_from i ws p xs) where
  pub given_stored : length xs ≤ i → ws ≡ whole
  given_stored h = sym (inv ∙ stored_at_end i ws p xs h)

  pub given_from_next : i < length xs → (vs : List ℕ) → vs ≡ set ws (p + i) (get_or xs i 0) → whole ≡ sets_from (i + 1) vs p xs
  given_from_next h vs e = inv ∙ stored_from_next i ws p xs h ∙ ap (λ l. sets_from (i + 1) l p xs) (sym e)

  pub numbers_from_next : (ids : List SortId) → xs ≡ sort_numbers ids → i < length ids → (vs : List ℕ)
      → vs ≡ set ws (p + i) (get_or ids i (record { 0 = 0 })).0 → whole ≡ sets_from (i + 1) vs p xs
  numbers_from_next ids q h vs e =
      given_from_next (omega (arith, ap length q, length_sort_numbers ids)) vs
      (e ∙ ap (set ws (p + i)) (get_d_sort_numbers ids i ∙ ap (λ ys. get_or ys i 0) (sym q)))

-- the first of the fixed sorts stand there
pub none_fixed : (a : ℕ) (start : List ℕ) → start ≡ fixed_rows a 0 start
unfolding fixed_rows
none_fixed a start = refl

pub next_fixed :
    (a : ℕ) (start ws : List ℕ) (i : ℕ) → ws ≡ fixed_rows a i start → (us : List ℕ) → us ≡ set ws (a + row_words * i) i
    → us ≡ fixed_rows a (i + 1) start
unfolding fixed_rows
next_fixed a start ws i g us e = e ∙ ap (λ (l : List ℕ). set l (a + row_words * i) i) g ∙ rw (add-one) refl
