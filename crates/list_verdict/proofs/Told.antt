-- A line that begins with a number tells it, so that the line of a verdict tells its code, and each code has its own words; and the name of a
-- sort tells the sort. Digit by digit. Assumes nothing.
use mathlib.Core.Path.{◌≡◌, refl, sym, ap, ◌∙◌}
use mathlib.Core.Bool.{Bool, true, false, cond}
use mathlib.Core.List.{List, [], ◌∷◌, ◌++◌, map}
use Prim.Native.Nat.{ℕ, zero, suc, ◌+◌, ◌*◌, ◌-◌, ◌/◌, ◌%◌, ◌<◌, ◌≤◌}
use native.Mathlib.Omega.{arith}
use lib.Dec.{eqb, ltb}
use borrow.Author.Tests.{ne_eqb, lt-ltb, le-ltb, ltb-true, ltb-false}
use lib.ListN.{get_or, drop}
use native.Mathlib.Decide.{dec_le}
use Rattle.std.specs.Prelude.{Option, Some}
use Rattle.std.specs.List.{find}
use Rattle.std.proofs.Common.{append_assoc}
use Rattle.sort_text.specs.Parse.{same_bytes}
use Rattle.text_out.specs.Decimal.{digit, decimal}
use Rattle.list_verdict.specs.Words.{kind_word, message}
use Rattle.list_verdict.specs.Text.{name, sort_name, verdict_line}

-- the number that the digits up to a space say, after those of v
value : ℕ → List ℕ → ℕ
value v [] = v
value v (b ∷ bs) = cond (eqb b 32) v (value (v * 10 + (b - 48)) bs)

one_digit : (v d : ℕ) (bs : List ℕ) → d ≤ 9 → value v ((48 + d) ∷ bs) ≡ value (v * 10 + d) bs
unfolding value
one_digit v d bs l =
    let z : v * 10 + (48 + d - 48) ≡ v * 10 + d = omega arith in
    rw (ne_eqb (48 + d) 32 (λ e. omega (arith, e)), z) refl

-- a digit for a unit, where the number reaches it
a_unit : (unit n v w : ℕ) (bs : List ℕ) → (n < unit → v ≡ w) → (unit ≤ n → v * 10 + n / unit % 10 ≡ w) → n / unit % 10 ≤ 9
    → value v (digit unit n ++ bs) ≡ value w bs
unfolding digit
a_unit unit n v w bs below reached l = go (ltb n unit) refl
  where
    go : (t : Bool) → ltb n unit ≡ t → value v (cond t [] ((48 + n / unit % 10) ∷ []) ++ bs) ≡ value w bs
    go true e = ap (λ (x : ℕ). value x bs) (below (ltb-true n unit e))
    go false e = one_digit v (n / unit % 10) bs l ∙ ap (λ (x : ℕ). value x bs) (reached (ltb-false n unit e))

decimal_in_front : (n : ℕ) (bs : List ℕ)
    → decimal n ++ bs ≡ digit 10000 n ++ (digit 1000 n ++ (digit 100 n ++ (digit 10 n ++ ((48 + n % 10) ∷ bs))))
unfolding decimal
decimal_in_front n bs =
    append_assoc (digit 10000 n) _ bs
    ∙ ap (λ cs. digit 10000 n ++ cs)
    (append_assoc (digit 1000 n) _ bs
    ∙ ap (λ cs. digit 1000 n ++ cs)
    (append_assoc (digit 100 n) _ bs ∙ ap (λ cs. digit 100 n ++ cs) (append_assoc (digit 10 n) ((48 + n % 10) ∷ []) bs)))

ended : (v : ℕ) (bs : List ℕ) → value v (32 ∷ bs) ≡ v
unfolding value
ended v bs = refl

number_in_front : (n : ℕ) (bs : List ℕ) → n ≤ 99999 → value 0 (decimal n ++ (32 ∷ bs)) ≡ n
number_in_front n bs l =
    ap (value 0) (decimal_in_front n (32 ∷ bs))
    ∙ (a_unit 10000 n 0 (n / 10000) _ (λ h. omega (arith, h)) (λ h. omega (arith, l)) (omega arith)
    ∙ (a_unit 1000 n (n / 10000) (n / 1000) _ (λ h. omega (arith, h)) (λ h. omega (arith, l)) (omega arith)
    ∙ (a_unit 100 n (n / 1000) (n / 100) _ (λ h. omega (arith, h)) (λ h. omega (arith, l)) (omega arith)
    ∙ (a_unit 10 n (n / 100) (n / 10) _ (λ h. omega (arith, h)) (λ h. omega (arith, l)) (omega arith)
    ∙ (one_digit (n / 10) (n % 10) (32 ∷ bs) (omega arith) ∙ (ended (n / 10 * 10 + n % 10) bs ∙ omega arith))))))

pub number_in_front_is_told : (m n : ℕ) (bs cs : List ℕ) → m ≤ 99999 → n ≤ 99999 → decimal m ++ (32 ∷ bs) ≡ decimal n ++ (32 ∷ cs) → m ≡ n
number_in_front_is_told m n bs cs l k e = sym (number_in_front m bs l) ∙ (ap (value 0) e ∙ number_in_front n cs k)

pub verdict_line_tells_its_code : (a b : ℕ) → a ≤ 99999 → b ≤ 99999 → verdict_line a ≡ verdict_line b → a ≡ b
unfolding verdict_line
verdict_line_tells_its_code a b l k e = number_in_front_is_told a b _ _ l k e

-- the solver's codes
abbrev codes : List ℕ
codes = 0 ∷ 1 ∷ 2 ∷ 3 ∷ 4 ∷ 5 ∷ 6 ∷ 7 ∷ 8 ∷ 9 ∷ 10 ∷ 11 ∷ 12 ∷ 14 ∷ 15 ∷ 16 ∷ 17 ∷ 18 ∷ []

-- each has words of its own, and no other number has any
pub each_code_has_words_of_its_own :
    map (λ (a : ℕ). find (λ (b : ℕ). same_bytes (message a) (message b)) (13 ∷ 19 ∷ codes)) codes ≡ map (λ (a : ℕ). Some a) codes
unfolding message same_bytes
each_code_has_words_of_its_own = refl

-- A letter and a number tell the number, and the name of a sort tells the sort.
pub name_tells_its_number : (letter m n : ℕ) → m ≤ 99999 → n ≤ 99999 → name letter m ≡ name letter n → m ≡ n
unfolding name
name_tells_its_number letter m n l k e =
    let f : decimal m ≡ decimal n = ap (drop 1) e in
    number_in_front_is_told m n [] [] l k (ap (λ bs. bs ++ (32 ∷ [])) f)

abbrev six : List ℕ
six = 0 ∷ 1 ∷ 2 ∷ 3 ∷ 4 ∷ 5 ∷ []

-- the first of the fixed six that has a word
of_word : List ℕ → Option ℕ
of_word w = find (λ s. same_bytes w (kind_word s)) six

fixed_sort_of_its_word : (s : ℕ) → s < 6 → (of_word (kind_word s) ≡ Some s) × (get_or (kind_word s) 0 0 ≡ 115 → ⊥)
unfolding of_word kind_word same_bytes
fixed_sort_of_its_word zero h = (refl, λ e. absurd (omega (arith, e)))
fixed_sort_of_its_word (suc zero) h = (refl, λ e. absurd (omega (arith, e)))
fixed_sort_of_its_word (suc (suc zero)) h = (refl, λ e. absurd (omega (arith, e)))
fixed_sort_of_its_word (suc (suc (suc zero))) h = (refl, λ e. absurd (omega (arith, e)))
fixed_sort_of_its_word (suc (suc (suc (suc zero)))) h = (refl, λ e. absurd (omega (arith, e)))
fixed_sort_of_its_word (suc (suc (suc (suc (suc zero))))) h = (refl, λ e. absurd (omega (arith, e)))
fixed_sort_of_its_word (suc (suc (suc (suc (suc (suc s)))))) h = absurd (omega (arith, h))

by_word : (s : ℕ) → s < 6 → sort_name s ≡ kind_word s
unfolding sort_name
by_word s h = rw (lt-ltb s 6 h) refl

by_number : (s : ℕ) → 6 ≤ s → sort_name s ≡ name 115 s
unfolding sort_name
by_number s h = rw (le-ltb s 6 h) refl

no_word_is_a_number : (s t : ℕ) → s < 6 → 6 ≤ t → sort_name s ≡ sort_name t → ⊥
unfolding name
no_word_is_a_number s t h k e =
    (fixed_sort_of_its_word s h).1 (ap (λ bs. get_or bs 0 0) (sym (by_word s h) ∙ (e ∙ by_number t k)))

pub sort_name_tells_the_sort : (s t : ℕ) → s ≤ 99999 → t ≤ 99999 → sort_name s ≡ sort_name t → s ≡ t
sort_name_tells_the_sort s t l k e = go (dec_le 6 s) (dec_le 6 t)
  where
    go : Dec (6 ≤ s) → Dec (6 ≤ t) → s ≡ t
    go (yes a) (yes b) = name_tells_its_number 115 s t l k (sym (by_number s a) ∙ (e ∙ by_number t b))
    go (yes a) (no b) = absurd (no_word_is_a_number t s (omega (arith, b)) a (sym e))
    go (no a) (yes b) = absurd (no_word_is_a_number s t (omega (arith, a)) b e)
    go (no a) (no b) =
        let f : kind_word s ≡ kind_word t = sym (by_word s (omega (arith, a))) ∙ (e ∙ by_word t (omega (arith, b))) in
        let q : Some s ≡ Some t =
        sym (fixed_sort_of_its_word s (omega (arith, a))).0 ∙ (ap of_word f ∙ (fixed_sort_of_its_word t (omega (arith, b))).0) in
        cc
