-- The library reads digits as the number that they say. Assumes nothing.
use mathlib.Core.Path.{◌≡◌, refl, sym, ap, ◌∙◌}
use mathlib.Core.Bool.{Bool, true, false, cond, ◌&&◌, and-eq-true_iff}
use mathlib.Core.List.{List, [], ◌∷◌}
use Prim.Native.Nat.{ℕ, zero, suc, ◌+◌, ◌*◌, ◌-◌, ◌^◌, ◌<◌, ◌≤◌}
use native.Mathlib.Omega.{arith}
use lib.ListN.{length, get_or}
use lib.Dec.{ltb, leb, eqb}
use borrow.Author.Tests.{leb-true, ltb-false, le-ltb, le-leb, lt-leb, ne_eqb, both_ways}
use Rattle.std.proofs.Common.{rules, Bor}
use Rattle.std.proofs.lemmas.Str.{IsUtf8-from_ascii}
use Rattle.std.proofs.lemmas.Str.Parse.{IsNumeralModel, numerals_by_fold, parse_digits}
use Rattle.std.specs.Char.{is_ascii_digit}
use Rattle.std.specs.List.{list_all}
use Rattle.std.specs.Prelude.{Option, Some, None, Result, Ok, Err, MatchResult}
use Rattle.std.specs.Result.{OkIff, result_ok}
use Rattle.std.specs.Str.{IsUtf8}
use Rattle.std.specs.Str.Parse.{ParsesUnsigned}
use Rattle.list_tokens.specs.Tokens.{decimal_read, number_read}

all_digits : List ℕ → Bool
all_digits bs = list_all is_ascii_digit bs

-- the value of digits after those of v
value_on : ℕ → List ℕ → ℕ
value_on v [] = v
value_on v (b ∷ bs) = value_on (v * 10 + (b - 48)) bs

digits_model : IsNumeralModel (λ ds. all_digits ds ≡ true) (value_on 0)
unfolding all_digits value_on
digits_model = numerals_by_fold _ (search rules) value_on (search rules)

first_digit : (b : ℕ) (bs : List ℕ) → all_digits (b ∷ bs) ≡ true → is_ascii_digit b ≡ true
unfolding all_digits
first_digit b bs h = ((and-eq-true_iff (is_ascii_digit b) (list_all is_ascii_digit bs)).0 h).0

more_digits : (b : ℕ) (bs : List ℕ) → all_digits (b ∷ bs) ≡ true → all_digits bs ≡ true
unfolding all_digits
more_digits b bs h = ((and-eq-true_iff (is_ascii_digit b) (list_all is_ascii_digit bs)).0 h).1

digit_small : (b : ℕ) → is_ascii_digit b ≡ true → b < 128
digit_small b h = omega (arith, leb-true b 57 ((and-eq-true_iff (leb 48 b) (leb b 57)).0 h).1)

ascii : (bs : List ℕ) → all_digits bs ≡ true → (i : ℕ) → get_or bs i 0 < 128
ascii [] h i = omega arith
ascii (b ∷ bs) h zero = digit_small b (first_digit b bs h)
ascii (b ∷ bs) h (suc i) = ascii bs (more_digits b bs h) i

grows : (v : ℕ) (bs : List ℕ) → v ≤ value_on v bs
unfolding value_on
grows v [] = omega arith
grows v (b ∷ bs) = omega (arith, grows (v * 10 + (b - 48)) bs)

-- a number that a word holds
small : (bs : List ℕ) (v : ℕ) → all_digits bs ≡ true → value_on v bs ≤ 65535 → Some (value_on v bs) ≡ decimal_read v bs
unfolding decimal_read value_on
small [] v h l = refl
small (b ∷ bs) v h l =
    let u : ℕ = v * 10 + (b - 48) in
    small bs u (more_digits b bs h) l ∙ rw (first_digit b bs h, le-ltb 65535 u (omega (arith, grows u bs, l))) refl

-- and one that it does not
large : (bs : List ℕ) (v : ℕ) → all_digits bs ≡ true → v ≤ 65535 → 65535 < value_on v bs → None ≡ decimal_read v bs
unfolding decimal_read value_on
large [] v h l m = absurd (omega (arith, l, m))
large (b ∷ bs) v h l m = rw (first_digit b bs h) (go (ltb 65535 u) refl (λ k. large bs u (more_digits b bs h) k m))
  where
    u : ℕ
    u = v * 10 + (b - 48)

    go : (c : Bool) → ltb 65535 u ≡ c → (u ≤ 65535 → None ≡ decimal_read u bs) → None ≡ cond c None (decimal_read u bs)
    go true e k = refl
    go false e k = k (ltb-false 65535 u e)

no_digits : (bs : List ℕ) (v : ℕ) → all_digits bs ≡ false → None ≡ decimal_read v bs
unfolding decimal_read all_digits
no_digits [] v h = absurd (both_ways true h refl)
no_digits (b ∷ bs) v h = go (is_ascii_digit b) (ltb 65535 u) h (no_digits bs u)
  where
    u : ℕ
    u = v * 10 + (b - 48)

    go : (d c : Bool) → (d && list_all is_ascii_digit bs) ≡ false → (list_all is_ascii_digit bs ≡ false → None ≡ decimal_read u bs)
        → None ≡ cond d (cond c None (decimal_read u bs)) None
    go true true h k = refl
    go true false h k = k h
    go false c h k = refl

module _ (w : List ℕ) where
  module _ (h : list_all is_ascii_digit w ≡ true) where
    pub digits_are_text : IsUtf8 w
    unfolding all_digits
    digits_are_text = IsUtf8-from_ascii w (ascii w h)

    parsed : {E : Type 0} (r : Result ℕ E) → 0 < length w → OkIff r ((0 < length w) × (value_on 0 w < 2 ^ 16)) (value_on 0 w) → result_ok r ≡ decimal_read 0 w
    unfolding all_digits
    parsed (Ok x) l k = ap (λ (n : ℕ). Some n) k.1 ∙ small w 0 h (omega (arith, k.0.1))
    parsed (Err e) l k = large w 0 h (omega arith) (omega (arith, (λ (m : value_on 0 w < 65536). k (l, m))))

    pub digits_read : {E : Type 0} (r : Result ℕ E) → 0 < length w → ParsesUnsigned 16 10 w r → result_ok r ≡ decimal_read 0 w
    unfolding all_digits
    digits_read r l p = parsed r l (parse_digits digits_model 16 w r p h)

  pub no_number : false ≡ list_all is_ascii_digit w → None ≡ number_read w
  unfolding number_read all_digits
  no_number h = go (eqb (length w) 0) (leb (length w) 1) (eqb (get_or w 0 0) 48) (no_digits w 0 (sym h))
    where
      go : (a b c : Bool) {x : Option ℕ} → None ≡ x → None ≡ cond a None (cond b x (cond c None x))
      go true b c k = refl
      go false true c k = k
      go false false true k = refl
      go false false false k = k

-- what `from_utf8` made of bytes, where they are text
module _ {E : Type 0} (r : Result (Bor (List ℕ)) E) (w : List ℕ) (P : E → Type 0)
    (h : MatchResult r (λ s. (s.now ≡ w) × IsUtf8 w) (λ e. ¬ (IsUtf8 w) × P e)) where
  pub is_text : IsUtf8 w → result_ok r ≡ None → ⊥
  is_text u e = go r h e
    where
      go : (r : Result (Bor (List ℕ)) E) → MatchResult r (λ s. (s.now ≡ w) × IsUtf8 w) (λ e. ¬ (IsUtf8 w) × P e) → result_ok r ≡ None → ⊥
      go (Ok s) h e = cc
      go (Err s) h e = h.0 u

  pub text_of : (s : Bor (List ℕ)) → result_ok r ≡ Some s → s.now ≡ w
  text_of s e = go r h e
    where
      go : (r : Result (Bor (List ℕ)) E) → MatchResult r (λ s. (s.now ≡ w) × IsUtf8 w) (λ e. ¬ (IsUtf8 w) × P e) → result_ok r ≡ Some s → s.now ≡ w
      go (Ok t) h e = cc
      go (Err t) h e = absurd cc

-- a digit alone, and digits of which the first is not 0
module _ (w : List ℕ) (e : length w ≡ 0 → ⊥) where
  pub read_alone : length w ≤ 1 → decimal_read 0 w ≡ number_read w
  unfolding number_read
  read_alone l = rw (ne_eqb _ _ e, le-leb (length w) 1 l) refl

  pub read_long : 1 < length w → (get_or w 0 0 ≡ 48 → ⊥) → decimal_read 0 w ≡ number_read w
  unfolding number_read
  read_long l z = rw (ne_eqb _ _ e, lt-leb (length w) 1 l, ne_eqb _ _ z) refl
