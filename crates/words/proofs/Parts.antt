-- Parts of a list of words: their length and words, and what a store, the words before and the words after leave of them. Assumes nothing.
use mathlib.Core.Path.{◌≡◌, refl, sym, ap, ◌∙◌}
use mathlib.Core.List.{List, [], ◌∷◌, ◌++◌}
use Prim.Native.Nat.{ℕ, zero, suc, ◌+◌, ◌-◌, ◌<◌, ◌≤◌}
use native.Mathlib.Omega.{arith}
use lib.ListN.{length, get_or, set, take, drop, length-drop}
use lib.Seq.{length-take-le, drop-cons, take-take, drop-drop, take-add, take-set-le, drop-set-lt, drop-set-add, take-suc-set, get_or-take, get_or-drop}
use Rattle.words.specs.Words.{part}

-- Parts.
pub length_part : (a n : ℕ) (xs : List ℕ) → a + n ≤ length xs → length (part a n xs) ≡ n
length_part a n xs h = length-take-le n (drop a xs) (omega (arith, length-drop a xs))

pub part_at : (a n : ℕ) (xs : List ℕ) (i : ℕ) → i < n → get_or (part a n xs) i 0 ≡ get_or xs (a + i) 0
part_at a n xs i l = get_or-take n (drop a xs) i 0 l ∙ get_or-drop a xs i 0

pub take_part : (a m n : ℕ) (xs : List ℕ) → m ≤ n → take m (part a n xs) ≡ part a m xs
take_part a m n xs l = take-take m n (drop a xs) l

pub part_append : (a n m : ℕ) (xs : List ℕ) → part a (n + m) xs ≡ part a n xs ++ part (a + n) m xs
part_append a n m xs = take-add n m (drop a xs) ∙ ap (λ ys. take n (drop a xs) ++ take m ys) (drop-drop n a xs)

-- one word more at its front, and at its end
pub part_first : (a n : ℕ) (xs : List ℕ) → a < length xs → part a (suc n) xs ≡ get_or xs a 0 ∷ part (suc a) n xs
part_first a n xs l = ap (take (suc n)) (drop-cons xs a 0 l)

-- after a store
pub part_set_end : (a n : ℕ) (xs : List ℕ) (v : ℕ) → a + n < length xs → part a (suc n) (set xs (a + n) v) ≡ part a n xs ++ (v ∷ [])
part_set_end a n xs v l = ap (take (suc n)) (drop-set-add a xs n v) ∙ take-suc-set (drop a xs) n v (omega (arith, l, length-drop a xs))

pub part_set_before : (a n : ℕ) (xs : List ℕ) (i v : ℕ) → i < a → part a n (set xs i v) ≡ part a n xs
part_set_before a n xs i v l = ap (take n) (drop-set-lt a xs i v l)

-- of the words at the front and at the end
pub part_of_front : (a n m : ℕ) (xs : List ℕ) → a + n ≤ m → part a n (take m xs) ≡ part a n xs
part_of_front zero n m xs l = take-take n m xs (omega (arith, l))
part_of_front (suc a) n zero xs l = absurd (omega (arith, l))
part_of_front (suc a) n (suc m) [] l = refl
part_of_front (suc a) n (suc m) (x ∷ xs) l = part_of_front a n m xs (omega (arith, l))

pub part_in_front : (a n m : ℕ) (xs ys : List ℕ) → a + n ≤ m → take m ys ≡ take m xs → part a n ys ≡ part a n xs
part_in_front a n m xs ys l e = sym (part_of_front a n m ys l) ∙ (ap (part a n) e ∙ part_of_front a n m xs l)

pub drop_longer : (m a : ℕ) (xs ys : List ℕ) → m ≤ a → drop m ys ≡ drop m xs → drop a ys ≡ drop a xs
drop_longer m a xs ys l e =
    let f : m + (a - m) ≡ a = omega (arith, l) in
    let g : (zs : List ℕ) → drop a zs ≡ drop (a - m) (drop m zs) = λ zs. ap (λ j. drop j zs) (sym f) ∙ sym (drop-drop (a - m) m zs) in
    g ys ∙ (ap (drop (a - m)) e ∙ sym (g xs))

pub part_in_back : (a n m : ℕ) (xs ys : List ℕ) → m ≤ a → drop m ys ≡ drop m xs → part a n ys ≡ part a n xs
part_in_back a n m xs ys l e = ap (take n) (drop_longer m a xs ys l e)

pub take_shorter : (n m : ℕ) (xs ys : List ℕ) → n ≤ m → take m ys ≡ take m xs → take n ys ≡ take n xs
take_shorter n m xs ys l e = sym (take-take n m ys l) ∙ (ap (take n) e ∙ take-take n m xs l)

pub part_set_after : (a n : ℕ) (xs : List ℕ) (i v : ℕ) → a + n ≤ i → part a n (set xs i v) ≡ part a n xs
part_set_after a n xs i v l = part_in_front a n i xs (set xs i v) l (take-set-le i xs i v (omega arith))
