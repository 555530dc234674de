-- Laws of runs of entries: their length and elements, and comparing two lists of words entry by entry, as `all` over a
-- range does so. Assumes nothing.
use mathlib.Core.Path.{◌≡◌, refl, sym, ap, ap₂, ◌∙◌}
use mathlib.Core.Bool.{Bool, true, false, ◌&&◌, and-false, and_assoc}
use mathlib.Core.List.{List, [], ◌∷◌}
use Prim.Native.Nat.{ℕ, zero, suc, ◌+◌, ◌<◌}
use native.Mathlib.Omega.{arith}
use native.Mathlib.Nat.{add-zero}
use lib.ListN.{length, get_or}
use lib.Dec.{eqb}
use Rattle.resolved_sort.specs.declared.SortId.{SortId}
use Rattle.resolved_sort.specs.Storage.{entry_at, entries_of}
use Rattle.resolved_sort.specs.Inner.Storage.{sort_numbers}
use Rattle.resolved_sort.specs.Checks.{all_below}
use Rattle.resolved_sort.proofs.SortNumbers.{length_sort_numbers, get_d_sort_numbers}
use Rattle.resolved_sort.specs.Rows.{same_words}

pub length_entries_of : (ws : List ℕ) (s n : ℕ) → length (entries_of ws s n) ≡ n
unfolding entries_of
length_entries_of ws s zero = refl
length_entries_of ws s (suc n) = ap suc (length_entries_of ws (s + 1) n)

pub get_d_entries_of : (ws : List ℕ) (s n k : ℕ) → k < n → get_or (entries_of ws s n) k 0 ≡ entry_at ws (s + k)
unfolding entries_of
get_d_entries_of ws s zero k h = absurd (omega arith)
get_d_entries_of ws s (suc n) zero h = ap (entry_at ws) (sym (add-zero s))
get_d_entries_of ws s (suc n) (suc k) h = get_d_entries_of ws (s + 1) n k (omega arith) ∙ ap (entry_at ws) (omega arith)

words_differ_by_length : (xs ys : List ℕ) → (length xs ≡ length ys → ⊥) → false ≡ same_words xs ys
unfolding same_words
words_differ_by_length [] [] f = absurd (f refl)
words_differ_by_length [] (y ∷ ys) f = refl
words_differ_by_length (x ∷ xs) [] f = refl
words_differ_by_length (x ∷ xs) (y ∷ ys) f = rw (← words_differ_by_length xs ys (λ e. f (ap suc e))) (sym (and-false (eqb x y)))

run_differs_by_count : (ws ys : List ℕ) (s n : ℕ) → (n ≡ length ys → ⊥) → false ≡ same_words (entries_of ws s n) ys
run_differs_by_count ws ys s n f = words_differ_by_length (entries_of ws s n) ys (λ e. f (sym (length_entries_of ws s n) ∙ e))

-- a test of all numbers is that of the first, and of all after it
below_by_first : (p : ℕ → Bool) (n : ℕ) → all_below (suc n) p ≡ (p 0 && all_below n (λ k. p (suc k)))
unfolding all_below
below_by_first p zero = first_alone (p 0)
  where
    first_alone : (b : Bool) → (true && b) ≡ (b && true)
    first_alone true = refl
    first_alone false = refl
below_by_first p (suc n) = ap (λ b. b && p (suc n)) (below_by_first p n) ∙ and_assoc (p 0) (all_below n (λ k. p (suc k))) (p (suc n))

words_by_each : (xs ys : List ℕ) (p : ℕ → Bool) → length xs ≡ length ys
    → ((k : ℕ) → k < length xs → p k ≡ eqb (get_or xs k 0) (get_or ys k 0)) → all_below (length xs) p ≡ same_words xs ys
unfolding same_words all_below
words_by_each [] [] p l h = refl
words_by_each [] (y ∷ ys) p l h = absurd (omega (arith, l))
words_by_each (x ∷ xs) [] p l h = absurd (omega (arith, l))
words_by_each (x ∷ xs) (y ∷ ys) p l h =
    below_by_first p (length xs)
    ∙ ap₂ ◌&&◌ (h 0 (omega arith)) (words_by_each xs ys (λ k. p (suc k)) (omega (arith, l)) (λ k m. h (suc k) (omega (arith, m))))

run_by_each : (ws ys : List ℕ) (s n : ℕ) (p : ℕ → Bool) → n ≡ length ys
    → ((k : ℕ) → k < n → p k ≡ eqb (entry_at ws (s + k)) (get_or ys k 0)) → all_below n p ≡ same_words (entries_of ws s n) ys
run_by_each ws ys s n p l h =
    ap (λ m. all_below m p) (sym (length_entries_of ws s n))
    ∙ words_by_each (entries_of ws s n) ys p (length_entries_of ws s n ∙ l)
    (λ k m.
    let b : k < n = omega (arith, m, length_entries_of ws s n) in
    h k b ∙ ap (λ x. eqb x (get_or ys k 0)) (sym (get_d_entries_of ws s n k b)))

-- two runs of the lent words
abbrev pub same_entry : List ℕ → ℕ → ℕ → ℕ → Bool
same_entry ws s t k = eqb (entry_at ws (s + k)) (entry_at ws (t + k))

pub runs_by_all : (ws : List ℕ) (s t n m : ℕ) → n ≡ m → all_below n (same_entry ws s t) ≡ same_words (entries_of ws s n) (entries_of ws t m)
runs_by_all ws s t n m e =
    run_by_each ws (entries_of ws t m) s n (same_entry ws s t) (e ∙ sym (length_entries_of ws t m))
    (λ k h. ap (eqb (entry_at ws (s + k))) (sym (get_d_entries_of ws t m k (omega (arith, h, e)))))

pub runs_differ_by_count : (ws : List ℕ) (s t n m : ℕ) → (n ≡ m → ⊥) → false ≡ same_words (entries_of ws s n) (entries_of ws t m)
runs_differ_by_count ws s t n m f = run_differs_by_count ws (entries_of ws t m) s n (λ e. f (e ∙ length_entries_of ws t m))

-- a run of the lent words and sorts given
abbrev pub same_arg : List ℕ → ℕ → List SortId → ℕ → Bool
same_arg ws s args k = eqb (entry_at ws (s + k)) (get_or args k (record { 0 = 0 })).0

pub args_by_all : (ws : List ℕ) (args : List SortId) (s n : ℕ) → n ≡ length args
    → all_below n (same_arg ws s args) ≡ same_words (entries_of ws s n) (sort_numbers args)
args_by_all ws args s n e =
    run_by_each ws (sort_numbers args) s n (same_arg ws s args) (e ∙ sym (length_sort_numbers args))
    (λ k h. ap (eqb (entry_at ws (s + k))) (get_d_sort_numbers args k))

pub args_differ_by_count : (ws : List ℕ) (args : List SortId) (s n : ℕ) → (n ≡ length args → ⊥)
    → false ≡ same_words (entries_of ws s n) (sort_numbers args)
args_differ_by_count ws args s n f = run_differs_by_count ws (sort_numbers args) s n (λ e. f (e ∙ length_sort_numbers args))
