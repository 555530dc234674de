-- A number is read from its decimal digits, and from no others: no sign, no zero before another digit, at most 65,535. Digit by digit.
-- Assumes nothing.
use mathlib.Core.Path.{◌≡◌, refl, sym, ap, ap₂, ◌∙◌}
use mathlib.Core.Bool.{Bool, true, false, cond, and-eq-true_iff}
use mathlib.Core.List.{List, [], ◌∷◌}
use Prim.Native.Nat.{ℕ, suc, ◌+◌, ◌*◌, ◌-◌, ◌/◌, ◌%◌, ◌<◌, ◌≤◌}
use native.Mathlib.Omega.{arith}
use native.Mathlib.Decide.{dec_le}
use lib.ListN.{length}
use lib.Dec.{eqb, leb, ltb}
use borrow.Author.Tests.{eq-eqb, ne_eqb, leb-true, ltb-false, le-leb, lt-leb, lt-ltb, le-ltb, both_ways}
use Rattle.std.specs.Prelude.{Some, None}
use Rattle.std.specs.Char.{is_ascii_digit}
use Rattle.text_out.specs.Decimal.{digit, decimal}
use Rattle.list_tokens.specs.Tokens.{decimal_read, number_read}

-- one digit more
one_digit : (v d : ℕ) (bs : List ℕ) (n : ℕ) → d ≤ 9 → v * 10 + d ≤ 65535 → decimal_read (v * 10 + d) bs ≡ Some n → decimal_read v ((48 + d) ∷ bs) ≡ Some n
unfolding decimal_read
one_digit v d bs n l m e =
    let z : v * 10 + (48 + d - 48) ≡ v * 10 + d = omega arith in
    rw (le-leb 48 (48 + d) (omega arith), le-leb (48 + d) 57 (omega (arith, l)), z, le-ltb 65535 (v * 10 + d) m) e

no_digit_left : (v n : ℕ) → v ≡ n → decimal_read v [] ≡ Some n
unfolding decimal_read
no_digit_left v n e = ap (λ (k : ℕ). Some k) e

-- a digit alone, or several of which the first is not 0
one_only : (d n : ℕ) → decimal_read 0 ((48 + d) ∷ []) ≡ Some n → number_read ((48 + d) ∷ []) ≡ Some n
unfolding number_read
one_only d n e = e

several : (d c : ℕ) (bs : List ℕ) (n : ℕ) → (d ≡ 0 → ⊥) → decimal_read 0 ((48 + d) ∷ c ∷ bs) ≡ Some n → number_read ((48 + d) ∷ c ∷ bs) ≡ Some n
unfolding number_read
several d c bs n z e =
    let q : (48 + d ≡ 48 → ⊥) = λ h. z (omega (arith, h)) in
    rw (ne_eqb (suc (suc (length bs))) 0 (λ h. omega (arith, h)), lt-leb (suc (suc (length bs))) 1 (omega arith), ne_eqb (48 + d) 48 q) e

-- the digits of a number by its size
ones : (n : ℕ) → n < 10 → decimal n ≡ (48 + n % 10) ∷ []
unfolding decimal digit
ones n h = rw (lt-ltb n 10000 (omega (arith, h)), lt-ltb n 1000 (omega (arith, h)), lt-ltb n 100 (omega (arith, h)), lt-ltb n 10 h) refl

tens : (n : ℕ) → 10 ≤ n → n < 100 → decimal n ≡ (48 + n / 10 % 10) ∷ (48 + n % 10) ∷ []
unfolding decimal digit
tens n g h = rw (lt-ltb n 10000 (omega (arith, h)), lt-ltb n 1000 (omega (arith, h)), lt-ltb n 100 h, le-ltb n 10 g) refl

hundreds : (n : ℕ) → 100 ≤ n → n < 1000 → decimal n ≡ (48 + n / 100 % 10) ∷ (48 + n / 10 % 10) ∷ (48 + n % 10) ∷ []
unfolding decimal digit
hundreds n g h = rw (lt-ltb n 10000 (omega (arith, h)), lt-ltb n 1000 h, le-ltb n 100 g, le-ltb n 10 (omega (arith, g))) refl

thousands : (n : ℕ) → 1000 ≤ n → n < 10000 → decimal n ≡ (48 + n / 1000 % 10) ∷ (48 + n / 100 % 10) ∷ (48 + n / 10 % 10) ∷ (48 + n % 10) ∷ []
unfolding decimal digit
thousands n g h = rw (lt-ltb n 10000 h, le-ltb n 1000 g, le-ltb n 100 (omega (arith, g)), le-ltb n 10 (omega (arith, g))) refl

myriads : (n : ℕ) → 10000 ≤ n
    → decimal n ≡ (48 + n / 10000 % 10) ∷ (48 + n / 1000 % 10) ∷ (48 + n / 100 % 10) ∷ (48 + n / 10 % 10) ∷ (48 + n % 10) ∷ []
unfolding decimal digit
myriads n g = rw (le-ltb n 10000 g, le-ltb n 1000 (omega (arith, g)), le-ltb n 100 (omega (arith, g)), le-ltb n 10 (omega (arith, g))) refl

module _ (n : ℕ) (l : n ≤ 65535) where
  read_ones : n < 10 → number_read (decimal n) ≡ Some n
  read_ones h =
      rw (ones n h)
      (one_only (n % 10) n (one_digit 0 (n % 10) [] n (omega arith) (omega arith) (no_digit_left (0 * 10 + n % 10) n (omega (arith, h)))))

  read_tens : 10 ≤ n → n < 100 → number_read (decimal n) ≡ Some n
  read_tens g h =
      rw (tens n g h)
      (several (n / 10 % 10) (48 + n % 10) [] n (λ z. omega (arith, z, g, h))
      (one_digit 0 (n / 10 % 10) _ n (omega arith) (omega arith)
      (one_digit (0 * 10 + n / 10 % 10) (n % 10) [] n (omega arith) (omega arith) (no_digit_left _ n (omega (arith, g, h))))))

  read_hundreds : 100 ≤ n → n < 1000 → number_read (decimal n) ≡ Some n
  read_hundreds g h =
      rw (hundreds n g h)
      (several (n / 100 % 10) _ _ n (λ z. omega (arith, z, g, h))
      (one_digit 0 (n / 100 % 10) _ n (omega arith) (omega arith)
      (one_digit _ (n / 10 % 10) _ n (omega arith) (omega arith)
      (one_digit _ (n % 10) [] n (omega arith) (omega arith) (no_digit_left _ n (omega (arith, g, h)))))))

  read_thousands : 1000 ≤ n → n < 10000 → number_read (decimal n) ≡ Some n
  read_thousands g h =
      rw (thousands n g h)
      (several (n / 1000 % 10) _ _ n (λ z. omega (arith, z, g, h))
      (one_digit 0 (n / 1000 % 10) _ n (omega arith) (omega arith)
      (one_digit _ (n / 100 % 10) _ n (omega arith) (omega arith)
      (one_digit _ (n / 10 % 10) _ n (omega arith) (omega arith)
      (one_digit _ (n % 10) [] n (omega arith) (omega arith) (no_digit_left _ n (omega (arith, g, h))))))))

  read_myriads : 10000 ≤ n → number_read (decimal n) ≡ Some n
  read_myriads g =
      rw (myriads n g)
      (several (n / 10000 % 10) _ _ n (λ z. omega (arith, z, g, l))
      (one_digit 0 (n / 10000 % 10) _ n (omega arith) (omega arith)
      (one_digit _ (n / 1000 % 10) _ n (omega arith) (omega arith)
      (one_digit _ (n / 100 % 10) _ n (omega arith) (omega (arith, l))
      (one_digit _ (n / 10 % 10) _ n (omega arith) (omega (arith, l))
      (one_digit _ (n % 10) [] n (omega arith) (omega (arith, l)) (no_digit_left _ n (omega (arith, g, l)))))))))

  pub each_number_is_read : number_read (decimal n) ≡ Some n
  each_number_is_read = go (dec_le 10 n) (dec_le 100 n) (dec_le 1000 n) (dec_le 10000 n)
    where
      go : Dec (10 ≤ n) → Dec (100 ≤ n) → Dec (1000 ≤ n) → Dec (10000 ≤ n) → number_read (decimal n) ≡ Some n
      go (no a) b c d = read_ones (omega (arith, a))
      go (yes a) (no b) c d = read_tens a (omega (arith, b))
      go (yes a) (yes b) (no c) d = read_hundreds b (omega (arith, c))
      go (yes a) (yes b) (yes c) (no d) = read_thousands c (omega (arith, d))
      go (yes a) (yes b) (yes c) (yes d) = read_myriads d

-- a digit taken from the front of what is read
record Digit (v b : ℕ) (bs : List ℕ) (n : ℕ) : Type 0 where
  low : 48 ≤ b
  high : b ≤ 57
  few : v * 10 + (b - 48) ≤ 65535
  rest : decimal_read (v * 10 + (b - 48)) bs ≡ Some n

a_digit : (v b : ℕ) (bs : List ℕ) (n : ℕ) → decimal_read v (b ∷ bs) ≡ Some n → Digit v b bs n
unfolding decimal_read
a_digit v b bs n e = go (is_ascii_digit b) (ltb 65535 (v * 10 + (b - 48))) refl refl e
  where
    go : (p q : Bool) → is_ascii_digit b ≡ p → ltb 65535 (v * 10 + (b - 48)) ≡ q
        → cond p (cond q None (decimal_read (v * 10 + (b - 48)) bs)) None ≡ Some n → Digit v b bs n
    go true false f g e =
        let d = (and-eq-true_iff (leb 48 b) (leb b 57)).0 f in
        record { low = leb-true 48 b d.0; high = leb-true b 57 d.1; few = ltb-false 65535 (v * 10 + (b - 48)) g; rest = e }
    go true true f g e = absurd cc
    go false q f g e = absurd cc

the_end : (v n : ℕ) → decimal_read v [] ≡ Some n → v ≡ n
unfolding decimal_read
the_end v n e = cc

of_several : (b c : ℕ) (bs : List ℕ) (n : ℕ) → number_read (b ∷ c ∷ bs) ≡ Some n → (b ≡ 48 → ⊥) × (decimal_read 0 (b ∷ c ∷ bs) ≡ Some n)
unfolding number_read
of_several b c bs n e = go (eqb b 48) refl (rw (ne_eqb (suc (suc (length bs))) 0 (λ h. omega (arith, h)), lt-leb (suc (suc (length bs))) 1 (omega arith)) at e)
  where
    go : (p : Bool) → eqb b 48 ≡ p → cond p None (decimal_read 0 (b ∷ c ∷ bs)) ≡ Some n → (b ≡ 48 → ⊥) × (decimal_read 0 (b ∷ c ∷ bs) ≡ Some n)
    go true f e = absurd cc
    go false f e = (λ z. both_ways (eqb b 48) f (eq-eqb b 48 z), e)

cons : {x y : ℕ} {xs ys : List ℕ} → x ≡ y → xs ≡ ys → x ∷ xs ≡ y ∷ ys
cons e f = ap₂ (λ x xs. x ∷ xs) e f

pub number_is_its_decimal : (w : List ℕ) (n : ℕ) → number_read w ≡ Some n → w ≡ decimal n
unfolding number_read
number_is_its_decimal [] n e = absurd cc
number_is_its_decimal (a ∷ []) n e =
    let d = a_digit 0 a [] n e in
    let z = the_end _ n d.rest in
    cons (omega (arith, z, d.low, d.high)) refl ∙ sym (ones n (omega (arith, z, d.high)))
number_is_its_decimal (a ∷ b ∷ []) n e =
    let s = of_several a b [] n e in
    let d = a_digit 0 a _ n s.1 in
    let c = a_digit _ b _ n d.rest in
    let z = the_end _ n c.rest in
    cons (omega (arith, z, d.low, d.high, c.low, c.high)) (cons (omega (arith, z, d.low, d.high, c.low, c.high)) refl)
    ∙ sym (tens n (omega (arith, z, s.0, d.low, c.low)) (omega (arith, z, d.high, c.high)))
number_is_its_decimal (a ∷ b ∷ c ∷ []) n e =
    let s = of_several a b _ n e in
    let i = a_digit 0 a _ n s.1 in
    let j = a_digit _ b _ n i.rest in
    let k = a_digit _ c _ n j.rest in
    let z = the_end _ n k.rest in
    cons (omega (arith, z, i.low, i.high, j.low, j.high, k.low, k.high))
    (cons (omega (arith, z, i.low, i.high, j.low, j.high, k.low, k.high))
    (cons (omega (arith, z, i.low, i.high, j.low, j.high, k.low, k.high)) refl))
    ∙ sym (hundreds n (omega (arith, z, i.low, i.high, j.low, j.high, k.low, k.high, s.0)) (omega (arith, z, i.low, i.high, j.low, j.high, k.low, k.high)))
number_is_its_decimal (a ∷ b ∷ c ∷ d ∷ []) n e =
    let s = of_several a b _ n e in
    let i = a_digit 0 a _ n s.1 in
    let j = a_digit _ b _ n i.rest in
    let k = a_digit _ c _ n j.rest in
    let m = a_digit _ d _ n k.rest in
    let z = the_end _ n m.rest in
    cons (omega (arith, z, i.low, i.high, j.low, j.high, k.low, k.high, m.low, m.high))
    (cons (omega (arith, z, i.low, i.high, j.low, j.high, k.low, k.high, m.low, m.high))
    (cons (omega (arith, z, i.low, i.high, j.low, j.high, k.low, k.high, m.low, m.high))
    (cons (omega (arith, z, i.low, i.high, j.low, j.high, k.low, k.high, m.low, m.high)) refl)))
    ∙ sym (thousands n (omega (arith, z, i.low, i.high, j.low, j.high, k.low, k.high, m.low, m.high, s.0))
    (omega (arith, z, i.low, i.high, j.low, j.high, k.low, k.high, m.low, m.high)))
number_is_its_decimal (a ∷ b ∷ c ∷ d ∷ f ∷ []) n e =
    let s = of_several a b _ n e in
    let i = a_digit 0 a _ n s.1 in
    let j = a_digit _ b _ n i.rest in
    let k = a_digit _ c _ n j.rest in
    let m = a_digit _ d _ n k.rest in
    let o = a_digit _ f _ n m.rest in
    let z = the_end _ n o.rest in
    cons (omega (arith, z, i.low, i.high, j.low, j.high, k.low, k.high, m.low, m.high, o.low, o.high))
    (cons (omega (arith, z, i.low, i.high, j.low, j.high, k.low, k.high, m.low, m.high, o.low, o.high))
    (cons (omega (arith, z, i.low, i.high, j.low, j.high, k.low, k.high, m.low, m.high, o.low, o.high))
    (cons (omega (arith, z, i.low, i.high, j.low, j.high, k.low, k.high, m.low, m.high, o.low, o.high))
    (cons (omega (arith, z, i.low, i.high, j.low, j.high, k.low, k.high, m.low, m.high, o.low, o.high)) refl))))
    ∙ sym (myriads n (omega (arith, z, i.low, i.high, j.low, j.high, k.low, k.high, m.low, m.high, o.low, o.high, s.0)))
number_is_its_decimal (a ∷ b ∷ c ∷ d ∷ f ∷ g ∷ bs) n e =
    let s = of_several a b (c ∷ d ∷ f ∷ g ∷ bs) n e in
    let i = a_digit 0 a _ n s.1 in
    let j = a_digit _ b _ n i.rest in
    let k = a_digit _ c _ n j.rest in
    let m = a_digit _ d _ n k.rest in
    let o = a_digit _ f _ n m.rest in
    let p = a_digit _ g _ n o.rest in
    absurd (omega (arith, s.0, i.low, p.few))
