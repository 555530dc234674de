-- A word with a meaning is the word of that meaning, and has three or four letters. By the tests of `meaning`. Assumes nothing.
use mathlib.Core.Path.{◌≡◌, refl, ap₂, subst}
use mathlib.Core.Bool.{Bool, true, false, cond}
use mathlib.Core.List.{List, [], ◌∷◌}
use Prim.Native.Nat.{ℕ, ◌≤◌}
use native.Mathlib.Omega.{arith}
use lib.ListN.{length}
use lib.Dec.{eqb}
use borrow.Author.Tests.{eqb-true}
use Rattle.resolved_sort.specs.declared.Sort.{Sort}
use Rattle.resolved_sort.specs.declared.ComplexSort.{ComplexSort}
use Rattle.sort_text.specs.Parse.{same_bytes, sort_word, op_word, WordMeaning, basic, operator, unknown, meaning}
use Rattle.resolved_sort.proofs.Below.{and_left, and_right}

pub same_bytes_equal : (v w : List ℕ) → same_bytes v w ≡ true → v ≡ w
unfolding same_bytes
same_bytes_equal [] [] e = refl
same_bytes_equal [] (c ∷ cs) e = cc
same_bytes_equal (b ∷ bs) [] e = cc
same_bytes_equal (b ∷ bs) (c ∷ cs) e =
    ap₂ (λ x y. x ∷ y) (eqb-true b c (and_left (eqb b c) (same_bytes bs cs) e)) (same_bytes_equal bs cs (and_right (eqb b c) (same_bytes bs cs) e))

abbrev Says : List ℕ → WordMeaning → Type 0
Says w (basic s) = w ≡ sort_word s
Says w (operator o) = w ≡ op_word o
Says w unknown = Unit {0}

tested : (w v : List ℕ) (m n : WordMeaning) → (w ≡ v → Says w m) → Says w n → Says w (cond (same_bytes w v) m n)
tested w v m n h k = go (same_bytes w v) refl
  where
    go : (b : Bool) → same_bytes w v ≡ b → Says w (cond b m n)
    go true e = h (same_bytes_equal w v e)
    go false e = k

says_meaning : (w : List ℕ) → Says w (meaning w)
unfolding meaning
says_meaning w =
    tested w (sort_word Sort.Bool) (basic Sort.Bool) _ (λ e. e)
    (tested w (sort_word Sort.Pos) (basic Sort.Pos) _ (λ e. e)
    (tested w (sort_word Sort.Nat) (basic Sort.Nat) _ (λ e. e)
    (tested w (sort_word Sort.Int) (basic Sort.Int) _ (λ e. e)
    (tested w (sort_word Sort.Real) (basic Sort.Real) _ (λ e. e)
    (tested w (op_word ComplexSort.List) (operator ComplexSort.List) _ (λ e. e)
    (tested w (op_word ComplexSort.Set) (operator ComplexSort.Set) _ (λ e. e)
    (tested w (op_word ComplexSort.FSet) (operator ComplexSort.FSet) _ (λ e. e)
    (tested w (op_word ComplexSort.Bag) (operator ComplexSort.Bag) _ (λ e. e)
    (tested w (op_word ComplexSort.FBag) (operator ComplexSort.FBag) unknown (λ e. e) tt)))))))))

pub basic_is_its_word : (w : List ℕ) (s : Sort) → meaning w ≡ basic s → w ≡ sort_word s
basic_is_its_word w s e = subst (Says w) e (says_meaning w)

pub over_is_its_word : (w : List ℕ) (o : ComplexSort) → meaning w ≡ operator o → w ≡ op_word o
over_is_its_word w o e = subst (Says w) e (says_meaning w)

pub sort_word_length : (s : Sort) → (3 ≤ length (sort_word s)) × (length (sort_word s) ≤ 4)
unfolding sort_word
sort_word_length Sort.Bool = omega arith
sort_word_length Sort.Pos = omega arith
sort_word_length Sort.Nat = omega arith
sort_word_length Sort.Int = omega arith
sort_word_length Sort.Real = omega arith

pub op_word_length : (o : ComplexSort) → (3 ≤ length (op_word o)) × (length (op_word o) ≤ 4)
unfolding op_word
op_word_length ComplexSort.List = omega arith
op_word_length ComplexSort.Set = omega arith
op_word_length ComplexSort.FSet = omega arith
op_word_length ComplexSort.Bag = omega arith
op_word_length ComplexSort.FBag = omega arith

pub basic_long : (w : List ℕ) (s : Sort) → meaning w ≡ basic s → 3 ≤ length w
basic_long w s e = rw (basic_is_its_word w s e) (sort_word_length s).0

pub over_long : (w : List ℕ) (o : ComplexSort) → meaning w ≡ operator o → 3 ≤ length w
over_long w o e = rw (over_is_its_word w o e) (op_word_length o).0
