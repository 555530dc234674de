-- Adding up the digits that a text starts with comes to the number that they write; reading numbers one by one comes to
-- the numbers of the line. Assumes nothing.
use mathlib.Core.Path.{◌≡◌, refl, sym, ap, ◌∙◌}
use mathlib.Core.Bool.{Bool, true, false, cond, and-eq-true_iff}
use Rattle.std.specs.Bool.{then_some}
use Rattle.std.specs.Char.{is_ascii_digit}
use lib.Dec.{leb, ltb}
use mathlib.Core.List.{List, [], ◌∷◌}
use Prim.Native.Nat.{ℕ, zero, suc, ◌+◌, ◌*◌, ◌-◌, ◌<◌, ◌≤◌}
use native.Mathlib.Omega.{arith}
use lib.ListN.{length, get_or, set, drop, drop_of_length-le, length-drop}
use lib.Seq.{drop-cons}
use native.Mathlib.Numerals.{add-one}
use borrow.Author.Tests.{lt-ltb, le-ltb, le-leb, lt-leb, leb-true, ltb-true, ltb-false, eq-eqb, ne_eqb}
use Rattle.std.specs.Prelude.{Option, Some, None}
use Rattle.replay.specs.declared.Fields.{Fields}
use Rattle.replay.specs.Inner.Numbers.{digits, value_after, too_large, number_of, number_at, all_read, after_number, fields_from}

-- a number of n digits: there is one, and its value is not too large
told : ℕ → ℕ → ℕ → Option (ℕ × ℕ)
told at v n = cond (ltb 0 n) (cond (ltb v too_large) (Some (v, at + n)) None) None

-- what i digits, of the value v, and those after them come to
pub comes_to : ℕ → ℕ → ℕ → List ℕ → Option (ℕ × ℕ)
comes_to at v i ds = told at (value_after v ds) (i + length ds)

told_digits : (at v n : ℕ) → 0 < n → told at v n ≡ cond (ltb v too_large) (Some (v, at + n)) None
unfolding told
told_digits at v n h = rw (lt-ltb 0 n h) refl

all_comes_to : (at : ℕ) (ds : List ℕ) → comes_to at 0 0 ds ≡ number_of at ds
unfolding comes_to number_of told value_after
all_comes_to at [] = refl
all_comes_to at (d ∷ ds) =
    let v = value_after 0 (d ∷ ds) in ap (told at v) (omega arith) ∙ told_digits at v (length (d ∷ ds)) (omega arith)

told_small : (at v n : ℕ) → v < too_large → then_some {T = ℕ × ℕ} (ltb 0 n) (v, at + n) ≡ told at v n
unfolding told
told_small at v n small = rw (lt-ltb v too_large small) (go (ltb 0 n))
  where
    go : (t : Bool) → then_some {T = ℕ × ℕ} t (v, at + n) ≡ cond t (Some (v, at + n)) None
    go true = refl
    go false = refl

told_large : (at v n : ℕ) → too_large ≤ v → ◌≡◌ {A = Option (ℕ × ℕ)} None (told at v n)
unfolding told
told_large at v n large = rw (le-ltb v too_large large) (go (ltb 0 n))
  where
    go : (t : Bool) → ◌≡◌ {A = Option (ℕ × ℕ)} None (cond t None None)
    go true = refl
    go false = refl

-- more digits make no smaller value
grows : (v : ℕ) (ds : List ℕ) → v ≤ value_after v ds
unfolding value_after
grows v [] = omega arith
grows v (d ∷ ds) = let g = grows (v * 10 + d) ds in omega (arith, g)

-- one more digit after at most 18 of them
pub small_still : (v b d : ℕ) → v ≤ 999999999999999999 → is_ascii_digit b ≡ true → d ≡ b - 48 → v * 10 + d < too_large
small_still v b d small e is =
    let digit = leb-true b 57 ((and-eq-true_iff (leb 48 b) (leb b 57)).0 e).1 in omega (arith, small, is, digit)

-- the digits of a text from a place on
module _ (bs : List ℕ) (i : ℕ) where
  module _ (h : i < length bs) where
    none_left : is_ascii_digit (get_or bs i 0) ≡ false → digits (drop i bs) ≡ []
    unfolding digits
    none_left e = rw (drop-cons bs i 0 h, e) refl

    one_left : is_ascii_digit (get_or bs i 0) ≡ true → digits (drop i bs) ≡ (get_or bs i 0 - 48) ∷ digits (drop (i + 1) bs)
    unfolding digits
    one_left e = rw (drop-cons bs i 0 h, e, add-one) refl

  none_behind : length bs ≤ i → digits (drop i bs) ≡ []
  unfolding digits
  none_behind h = rw (drop_of_length-le bs h) refl

-- in a text that is the line from a position on
module _ (line : List ℕ) (at : ℕ) (bs : List ℕ) (text : bs ≡ drop at line) where
  pub from_the_first : comes_to at 0 0 (digits bs) ≡ number_at line at
  unfolding number_at
  from_the_first = all_comes_to at (digits bs) ∙ ap (λ us. number_of at (digits us)) text

  -- after i digits of the value v
  module _ (v i : ℕ) where
    ended : v < too_large → digits (drop i bs) ≡ [] → then_some {T = ℕ × ℕ} (ltb 0 i) (v, at + i) ≡ comes_to at v i (digits (drop i bs))
    unfolding comes_to value_after
    ended small e = told_small at v i small ∙ ap (told at v) (omega arith) ∙ ap (comes_to at v i) (sym e)

    pub ends_with_the_line : v < too_large → i ≤ length bs → length bs ≤ i
        → then_some {T = ℕ × ℕ} (ltb at (length line)) (v, length line) ≡ comes_to at v i (digits (drop i bs))
    ends_with_the_line small below h = go (ltb at (length line)) refl ∙ ended small (none_behind bs i h)
      where
        all : i ≡ length line - at
        all = omega (arith, below, h, ap length text, length-drop at line)

        go : (t : Bool) → ltb at (length line) ≡ t → then_some {T = ℕ × ℕ} t (v, length line) ≡ then_some {T = ℕ × ℕ} (ltb 0 i) (v, at + i)
        go true t =
            let l = ltb-true at (length line) t in
            rw (lt-ltb 0 i (omega (arith, all, l))) (ap (λ n. then_some {T = ℕ × ℕ} true (v, n)) (omega (arith, all, l)))
        go false t =
            let l = ltb-false at (length line) t in rw (le-ltb 0 i (omega (arith, all, l))) refl

    module _ (h : i < length bs) where
      pub ends_at_another : v < too_large → is_ascii_digit (get_or bs i 0) ≡ false
          → then_some {T = ℕ × ℕ} (ltb 0 i) (v, at + i) ≡ comes_to at v i (digits (drop i bs))
      ends_at_another small e = ended small (none_left bs i h e)

      module _ (e : is_ascii_digit (get_or bs i 0) ≡ true) where
        abbrev w : ℕ
        w = v * 10 + (get_or bs i 0 - 48)

        pub one_more_digit : (d : ℕ) → d ≡ get_or bs i 0 - 48
            → comes_to at (v * 10 + d) (i + 1) (digits (drop (i + 1) bs)) ≡ comes_to at v i (digits (drop i bs))
        unfolding comes_to value_after
        one_more_digit d is =
            ap (λ x. comes_to at (v * 10 + x) (i + 1) (digits (drop (i + 1) bs))) is
            ∙ ap (told at (value_after w (digits (drop (i + 1) bs)))) (omega arith) ∙ ap (comes_to at v i) (sym (one_left bs i h e))

        pub too_many_digits : 999999999999999999 < v → ◌≡◌ {A = Option (ℕ × ℕ)} None (comes_to at v i (digits (drop i bs)))
        unfolding comes_to value_after
        too_many_digits large =
            let g = grows w (digits (drop (i + 1) bs)) in
            told_large at (value_after w (digits (drop (i + 1) bs))) _ (omega (arith, g, large)) ∙ ap (comes_to at v i) (sym (one_left bs i h e))

pub fields_ended : (m : ℕ) (line : List ℕ) (at : ℕ) (values : List ℕ) (k : ℕ) → length line ≤ at → all_read values k ≡ fields_from m line at values k
unfolding fields_from
fields_ended zero line at values k h = rw (le-leb _ _ h)
fields_ended (suc m) line at values k h = rw (le-leb _ _ h)

pub fields_no_space :
    (m : ℕ) (line : List ℕ) (at : ℕ) (values : List ℕ) (k : ℕ) → at < length line → (get_or line at 0 ≡ 32 → ⊥) → ◌≡◌ {A = Option Fields} None (fields_from m line at values k)
unfolding fields_from
fields_no_space zero line at values k h n = rw (lt-leb _ _ h)
fields_no_space (suc m) line at values k h n = rw (lt-leb _ _ h, ne_eqb _ _ n)

pub fields_no_number :
    (m : ℕ) (line : List ℕ) (at : ℕ) (values : List ℕ) (k : ℕ) → at < length line → get_or line at 0 ≡ 32 → number_at line (at + 1) ≡ None
    → ◌≡◌ {A = Option Fields} None (fields_from m line at values k)
unfolding fields_from after_number
fields_no_number zero line at values k h s n = rw (lt-leb _ _ h)
fields_no_number (suc m) line at values k h s n = rw (lt-leb _ _ h, eq-eqb _ _ s, n)

fields_more_at :
    (m : ℕ) (line : List ℕ) (at : ℕ) (values : List ℕ) (k v next : ℕ) → at < length line → get_or line at 0 ≡ 32 → number_at line (at + 1) ≡ Some (v, next)
    → fields_from (suc m) line at values k ≡ fields_from m line next (set values k v) (k + 1)
unfolding fields_from after_number
fields_more_at m line at values k v next h s n = rw (lt-leb _ _ h, eq-eqb _ _ s, n)

pub fields_more :
    (line : List ℕ) (at : ℕ) (values : List ℕ) (k v next : ℕ) → k < 18 → at < length line → get_or line at 0 ≡ 32 → number_at line (at + 1) ≡ Some (v, next)
    → fields_from (18 - k) line at values k ≡ fields_from (18 - (k + 1)) line next (set values k v) (k + 1)
fields_more line at values k v next room h s n =
    ap (λ (m : ℕ). fields_from m line at values k) (omega arith) ∙ fields_more_at (18 - (k + 1)) line at values k v next h s n

pub fields_over :
    (line : List ℕ) (at : ℕ) (values : List ℕ) (k : ℕ) → 18 ≤ k → at < length line → ◌≡◌ {A = Option Fields} None (fields_from (18 - k) line at values k)
unfolding fields_from
fields_over line at values k full h =
    let e : 18 - k ≡ zero = omega arith in rw (e, lt-leb _ _ h)

pub fields_full : (line : List ℕ) (at : ℕ) (values : List ℕ) (k : ℕ) → 18 ≤ k → k ≤ 18 → length line ≤ at
    → all_read values 18 ≡ fields_from (18 - k) line at values k
fields_full line at values k full few h =
    let e : 18 ≡ k = omega arith in
    ap (all_read values) e ∙ fields_ended (18 - k) line at values k h
