-- What bytes come to, byte by byte: what is held only grows, up to `most` bytes, and what is left are the last bytes. By
-- induction on the bytes. Assumes nothing.
use mathlib.Core.Path.{◌≡◌, refl, sym, ◌∙◌, ap, subst}
use mathlib.Core.Bool.{Bool, true, false, cond}
use mathlib.Core.List.{List, [], ◌∷◌, ◌++◌}
use Prim.Native.Nat.{ℕ, zero, suc, ◌-◌, ◌<◌, ◌≤◌}
use native.Mathlib.Omega.{arith}
use lib.ListN.{length, drop, length-append}
use lib.Dec.{eqb, ltb}
use borrow.Author.Tests.{ltb-true}
use Rattle.held_line.specs.Holding.{holding}
use Rattle.line_input.specs.Taking.{Came, line_ends, going, take_line, Reached, reached, goes_on}
use Rattle.line_input.specs.Inner.Answers.{held_of}

pub taken_lf : (most : ℕ) (l : List ℕ) (b : ℕ) (bs : List ℕ) → eqb b 10 ≡ true → take_line most l (b ∷ bs) ≡ line_ends l bs
unfolding take_line
taken_lf most l b bs e = rw e

pub taken_byte : (most : ℕ) (l : List ℕ) (b : ℕ) (bs : List ℕ) → eqb b 10 ≡ false
    → take_line most l (b ∷ bs) ≡ take_line most (holding most l b) bs
unfolding take_line
taken_byte most l b bs e = rw e

pub taken_none : (most : ℕ) (l : List ℕ) → take_line most l [] ≡ going l
unfolding take_line
taken_none most l = refl

-- what is held after a byte has at least as many bytes, and never too many
pub record Grown (most : ℕ) (l m : List ℕ) : Type 0 where
  pub more : length l ≤ length m
  pub few : length l ≤ most → length m ≤ most

held_by : (most : ℕ) (l : List ℕ) (b : ℕ) (t : Bool) → ltb (length l) most ≡ t → Grown most l (cond t (l ++ (b ∷ [])) l)
held_by most l b true e = record { more = omega (arith, length-append l (b ∷ [])); few = λ h. omega (arith, ltb-true (length l) most e, length-append l (b ∷ [])) }
held_by most l b false e = record { more = omega arith; few = λ h. h }

held_grows : (most : ℕ) (l : List ℕ) (b : ℕ) → Grown most l (holding most l b)
unfolding holding
held_grows most l b = held_by most l b (ltb (length l) most) refl

grows_on : (most : ℕ) (bs l : List ℕ) (b : ℕ) (t : Bool) → eqb b 10 ≡ t
    → ((m : List ℕ) → Grown most m (held_of (take_line most m bs))) → Grown most l (held_of (take_line most l (b ∷ bs)))
unfolding held_of
grows_on most bs l b true e rest =
    subst (λ c. Grown most l (held_of c)) (sym (taken_lf most l b bs e)) (record { more = omega arith; few = λ h. h })
grows_on most bs l b false e rest =
    let g = held_grows most l b in
    let k = rest (holding most l b) in
    subst (λ c. Grown most l (held_of c)) (sym (taken_byte most l b bs e))
    (record { more = omega (arith, g.more, k.more); few = λ h. k.few (g.few h) })

pub grows : (most : ℕ) (bs l : List ℕ) → Grown most l (held_of (take_line most l bs))
unfolding take_line held_of
grows most [] l = record { more = omega arith; few = λ h. h }
grows most (b ∷ bs) l = grows_on most bs l b (eqb b 10) refl (grows most bs)

-- what is left are the last bytes
pub record Last (bs left : List ℕ) : Type 0 where
  pub is : drop (length bs - length left) bs ≡ left
  pub fewer : length left < length bs

abbrev pub LastOf : List ℕ → Came → Type 0
LastOf bs (line_ends l left) = Last bs left
LastOf bs (going l) = Unit

last_later : (b : ℕ) (bs left : List ℕ) → Last bs left → Last (b ∷ bs) left
last_later b bs left h =
    record {
      is = ap (λ (k : ℕ). drop k (b ∷ bs)) (one_more (length bs) (length left) (omega (arith, h.fewer))) ∙ h.is;
      fewer = omega (arith, h.fewer);
    }
  where
    one_more : (n m : ℕ) → m ≤ n → suc n - m ≡ suc (n - m)
    one_more n m h = omega (arith, h)

last_byte : (b : ℕ) (bs : List ℕ) (c : Came) → LastOf bs c → LastOf (b ∷ bs) c
last_byte b bs (line_ends l left) h = last_later b bs left h
last_byte b bs (going l) h = tt

last_by : (most : ℕ) (bs l : List ℕ) (b : ℕ) (t : Bool) → eqb b 10 ≡ t
    → ((m : List ℕ) → LastOf bs (take_line most m bs)) → LastOf (b ∷ bs) (take_line most l (b ∷ bs))
last_by most bs l b true e rest =
    subst (LastOf (b ∷ bs)) (sym (taken_lf most l b bs e))
    (record { is = ap (λ (k : ℕ). drop k (b ∷ bs)) (one (length bs)); fewer = omega arith })
  where
    one : (n : ℕ) → suc n - n ≡ suc zero
    one n = omega arith
last_by most bs l b false e rest =
    subst (LastOf (b ∷ bs)) (sym (taken_byte most l b bs e)) (last_byte b bs (take_line most (holding most l b) bs) (rest (holding most l b)))

last_bytes : (most : ℕ) (bs l : List ℕ) → LastOf bs (take_line most l bs)
unfolding take_line
last_bytes most [] l = tt
last_bytes most (b ∷ bs) l = last_by most bs l b (eqb b 10) refl (last_bytes most bs)

pub left_is_last : (most : ℕ) (bs l m left : List ℕ) → take_line most l bs ≡ line_ends m left → Last bs left
left_is_last most bs l m left e = subst (LastOf bs) e (last_bytes most bs l)

-- further parts, where there was no line yet
pub goes_further : (most : ℕ) (ps qs : List (List ℕ)) (c : Came) (l : List ℕ) → goes_on most ps c ≡ reached (going l) []
    → goes_on most (ps ++ qs) c ≡ goes_on most qs (going l)
unfolding goes_on
goes_further most [] qs c l e = ap (λ (r : Reached). goes_on most qs r.came) e
goes_further most (p ∷ ps) qs (line_ends m bs) l e = absurd (no_line (ap (λ (r : Reached). r.came) e))
  where
    no_line : line_ends m bs ≡ going l → ⊥
    no_line e = let z : ◌≡◌ {A = ℕ} 0 1 = cc e in omega arith
goes_further most (p ∷ ps) qs (going m) l e = goes_further most ps qs (take_line most m p) l e

-- Parts that are not looked at are the next call's.
pub later_parts : (most : ℕ) (ps qs : List (List ℕ)) (c : Came) (l left : List ℕ) → goes_on most ps c ≡ reached (line_ends l left) []
    → goes_on most (ps ++ qs) c ≡ reached (line_ends l left) qs
unfolding goes_on
later_parts most [] qs c l left e = ap (λ (r : Reached). goes_on most qs r.came) e ∙ ended_stays qs
  where
    ended_stays : (rs : List (List ℕ)) → goes_on most rs (line_ends l left) ≡ reached (line_ends l left) rs
    ended_stays [] = refl
    ended_stays (r ∷ rs) = refl
later_parts most (p ∷ ps) qs (line_ends m bs) l left e = absurd (some_parts (ap (λ (r : Reached). length r.parts) e))
  where
    some_parts : length (p ∷ ps) ≡ 0 → ⊥
    some_parts e = omega (arith, e)
later_parts most (p ∷ ps) qs (going m) l left e = later_parts most ps qs (take_line most m p) l left e
