-- What is in a list, what holds of all in it, and lists of rows that are read one by one. By induction on the list. Assumes nothing.
use mathlib.Core.Path.{◌≡◌, refl, sym, ap, subst, ◌∙◌}
use mathlib.Core.Bool.{Bool, true, false, cond, not, and-eq-true_iff}
use mathlib.Core.List.{List, [], ◌∷◌, ◌++◌, map}
use mathlib.Core.Logic.{◌⊎◌, inl, inr}
use Prim.Native.Nat.{ℕ, zero, suc, ◌+◌, ◌-◌, ◌<◌, ◌≤◌}
use native.Mathlib.Omega.{arith}
use native.Mathlib.Nat.{add-zero}
use lib.Dec.{eqb}
use lib.ListN.{length, get_or, take, drop, get_or-eq_default}
use borrow.Author.Tests.{eqb-true, eqb-false, eq-eqb, not-true}
use Rattle.resolved_sort.proofs.Reached.{no_confusion}
use Rattle.inference.specs.Constraints.{rows_from}
use Rattle.inference.specs.Typing.{All, none_left, and_all, In, here, there}
use Rattle.inference.specs.SolveChecks.{among, no_two}

module _ {A : Type 0} where
  pub not_in_nothing : (x : A) → In x [] → ⊥
  not_in_nothing x i = elim i [ ]

  pub in_cases : (x y : A) (ys : List A) → In x (y ∷ ys) → (x ≡ y) ⊎ In x ys
  in_cases x _ _ (here ys) = inl refl
  in_cases x _ _ (there y ys i) = inr i

  pub first_in : (x y : A) (ys : List A) → x ≡ y → In x (y ∷ ys)
  first_in x y ys e = subst (λ z. In x (z ∷ ys)) e (here ys)

  pub in_right : (x : A) (xs ys : List A) → In x ys → In x (xs ++ ys)
  in_right x [] ys i = i
  in_right x (z ∷ xs) ys i = there z (xs ++ ys) (in_right x xs ys i)

  pub in_left : (x : A) (xs ys : List A) → In x xs → In x (xs ++ ys)
  in_left x _ ys (here xs) = here (xs ++ ys)
  in_left x _ ys (there y xs i) = there y (xs ++ ys) (in_left x xs ys i)

  pub in_map : {B : Type 0} (f : A → B) (x : A) (xs : List A) → In x xs → In (f x) (map f xs)
  in_map f x _ (here xs) = here (map f xs)
  in_map f x _ (there y xs i) = there (f y) (map f xs) (in_map f x xs i)

  pub in_all : (P : A → Type 0) (x : A) (xs : List A) → All P xs → In x xs → P x
  in_all P x _ none_left x4 = elim x4 [ ]
  in_all P x _ (and_all _ xs p a) (here _) = p
  in_all P x _ (and_all y xs p a) (there _ _ i) = in_all P x xs a i

  pub all_weaker : (P Q : A → Type 0) → ((x : A) → P x → Q x) → (xs : List A) → All P xs → All Q xs
  all_weaker P Q f _ none_left = none_left
  all_weaker P Q f _ (and_all x xs p a) = and_all x xs (f x p) (all_weaker P Q f xs a)

  -- rows that are read one by one
  pub length_rows : (row : ℕ → A) (i n : ℕ) → length (rows_from row i n) ≡ n
  unfolding rows_from
  length_rows row i zero = refl
  length_rows row i (suc n) = omega (arith, length_rows row (i + 1) n)

  row_in : (row : ℕ → A) (d : A) (i n j : ℕ) → j < n → get_or (rows_from row i n) j d ≡ row (i + j)
  unfolding rows_from
  row_in row d i zero j l = absurd (omega (arith, l))
  row_in row d i (suc n) zero l = ap row (sym (add-zero i))
  row_in row d i (suc n) (suc j) l = row_in row d (i + 1) n j (omega (arith, l)) ∙ ap row (omega arith)

  pub all_rows : (R : A → Type 0) (row : ℕ → A) (i n : ℕ) → ((j : ℕ) → j < n → R (row (i + j))) → All R (rows_from row i n)
  unfolding rows_from
  all_rows R row i zero h = none_left
  all_rows R row i (suc n) h =
      and_all (row i) (rows_from row (i + 1) n) (subst (λ (j : ℕ). R (row j)) (add-zero i) (h 0 (omega arith)))
      (all_rows R row (i + 1) n (λ j l. subst (λ (x : ℕ). R (row x)) (omega arith) (h (suc j) (omega (arith, l)))))

  pub each_row : (R : A → Type 0) (row : ℕ → A) (i n : ℕ) → All R (rows_from row i n) → (j : ℕ) → j < n → R (row (i + j))
  unfolding rows_from
  each_row R row i zero a j l = absurd (omega (arith, l))
  each_row R row i (suc n) (and_all _ _ p a) zero l = subst (λ (x : ℕ). R (row x)) (sym (add-zero i)) p
  each_row R row i (suc n) (and_all _ _ p a) (suc j) l = subst (λ (x : ℕ). R (row x)) (omega arith) (each_row R row (i + 1) n a j (omega (arith, l)))

  take_rows : (row : ℕ → A) (i n c : ℕ) → c ≤ n → take c (rows_from row i n) ≡ rows_from row i c
  unfolding rows_from
  take_rows row i n zero l = refl
  take_rows row i zero (suc c) l = absurd (omega (arith, l))
  take_rows row i (suc n) (suc c) l = ap (λ xs. row i ∷ xs) (take_rows row (i + 1) n c (omega (arith, l)))

  -- a run inside a list of rows
  run_rows : (row : ℕ → A) (s i n c : ℕ) → s + c ≤ n → take c (drop s (rows_from row i n)) ≡ rows_from row (i + s) c
  unfolding rows_from
  run_rows row zero i n c l = take_rows row i n c (omega (arith, l)) ∙ ap (λ (j : ℕ). rows_from row j c) (sym (add-zero i))
  run_rows row (suc s) i zero c l = absurd (omega (arith, l))
  run_rows row (suc s) i (suc n) c l = run_rows row s (i + 1) n c (omega (arith, l)) ∙ ap (λ (j : ℕ). rows_from row j c) (omega arith)

  -- and from the first on
  pub row_at_lem : (row : ℕ → A) (d : A) (n j : ℕ) → j < n → get_or (rows_from row 0 n) j d ≡ row j
  row_at_lem row d n j l = row_in row d 0 n j l ∙ ap row (omega arith)

  pub all_rows_at : (R : A → Type 0) (row : ℕ → A) (n : ℕ) → ((j : ℕ) → j < n → R (row j)) → All R (rows_from row 0 n)
  all_rows_at R row n h = all_rows R row 0 n (λ j l. subst (λ (x : ℕ). R (row x)) (omega arith) (h j l))

  pub each_row_at : (R : A → Type 0) (row : ℕ → A) (n : ℕ) → All R (rows_from row 0 n) → (j : ℕ) → j < n → R (row j)
  each_row_at R row n a j l = subst (λ (x : ℕ). R (row x)) (omega arith) (each_row R row 0 n a j l)

  pub run_at : (row : ℕ → A) (n s c : ℕ) → s + c ≤ n → take c (drop s (rows_from row 0 n)) ≡ rows_from row s c
  run_at row n s c l = run_rows row s 0 n c l ∙ ap (λ (j : ℕ). rows_from row j c) (omega arith)

  pub row_past : (row : ℕ → A) (d : A) (n j : ℕ) → n ≤ j → get_or (rows_from row 0 n) j d ≡ d
  row_past row d n j l = get_or-eq_default (rows_from row 0 n) d {n = j} (omega (arith, l, length_rows row 0 n))

  -- rows that say the same
  rows_alike : (row row' : ℕ → A) (i n : ℕ) → ((j : ℕ) → j < n → row (i + j) ≡ row' (i + j)) → rows_from row i n ≡ rows_from row' i n
  unfolding rows_from
  rows_alike row row' i zero h = refl
  rows_alike row row' i (suc n) h =
      let a : row i ≡ row' i = ap row (sym (add-zero i)) ∙ (h 0 (omega arith) ∙ ap row' (add-zero i)) in
      let b : rows_from row (i + 1) n ≡ rows_from row' (i + 1) n = rows_alike row row' (i + 1) n
      (λ j l. ap row (omega arith) ∙ (h (suc j) (omega (arith, l)) ∙ ap row' (omega arith))) in
      cc

  pub rows_same : (row row' : ℕ → A) (n : ℕ) → ((j : ℕ) → j < n → row j ≡ row' j) → rows_from row 0 n ≡ rows_from row' 0 n
  rows_same row row' n h = rows_alike row row' 0 n (λ j l. ap row (omega arith) ∙ (h j l ∙ ap row' (omega arith)))

  -- the rows from the i-th on, of n
  pub rows_all_left : (row : ℕ → A) (n : ℕ) → rows_from row 0 (n - 0) ≡ rows_from row 0 n
  rows_all_left row n = ap (rows_from row 0) (let z : n - 0 ≡ n = omega arith in z)

  pub rows_one_left : (row : ℕ → A) (n i : ℕ) → i < n → rows_from row i (n - i) ≡ row i ∷ rows_from row (i + 1) (n - (i + 1))
  unfolding rows_from
  rows_one_left row n i l = ap (rows_from row i) (let z : n - i ≡ suc (n - (i + 1)) = omega (arith, l) in z)

  -- and of a run of rows
  pub run_one_left : (row : ℕ → A) (s n i : ℕ) → i < n → rows_from row (s + i) (n - i) ≡ row (s + i) ∷ rows_from row (s + (i + 1)) (n - (i + 1))
  unfolding rows_from
  run_one_left row s n i l =
      ap (rows_from row (s + i)) (let q : n - i ≡ suc (n - (i + 1)) = omega (arith, l) in q)
      ∙ ap (λ j. row (s + i) ∷ rows_from row j (n - (i + 1))) (let q : s + i + 1 ≡ s + (i + 1) = omega arith in q)

  pub rows_none_left : (row : ℕ → A) (n i : ℕ) → n ≤ i → rows_from row i (n - i) ≡ []
  unfolding rows_from
  rows_none_left row n i l = ap (rows_from row i) (let z : n - i ≡ 0 = omega (arith, l) in z)

-- Numbers among others, as checks look for them.
pub among_in : (x : ℕ) (ys : List ℕ) → In x ys → among x ys ≡ true
unfolding among
among_in x _ (here ys) = rw (eq-eqb x x refl)
among_in x _ (there y ys i) = go (eqb x y) (among_in x ys i)
  where
    go : (b : Bool) → among x ys ≡ true → cond b true (among x ys) ≡ true
    go true h = refl
    go false h = h

pub is_among : (x : ℕ) (ys : List ℕ) → among x ys ≡ true → In x ys
unfolding among
is_among x [] a = no_confusion cc
is_among x (y ∷ ys) a = go (eqb x y) refl a (is_among x ys)
  where
    go : (b : Bool) → eqb x y ≡ b → cond b true (among x ys) ≡ true → (among x ys ≡ true → In x ys) → In x (y ∷ ys)
    go true e h f = first_in x y ys (eqb-true x y e)
    go false e h f = there y ys (f h)

pub not_among : (x y : ℕ) (ys : List ℕ) → among x (y ∷ ys) ≡ false → (x ≡ y → ⊥) × (among x ys ≡ false)
unfolding among
not_among x y ys a = go (eqb x y) refl a
  where
    go : (b : Bool) → eqb x y ≡ b → cond b true (among x ys) ≡ false → (x ≡ y → ⊥) × (among x ys ≡ false)
    go true e a = no_confusion (cc)
    go false e a = (eqb-false x y e, a)

-- "Two disjunctions .. are for one expression": not so
pub no_two_first : (x : ℕ) (xs : List ℕ) → no_two (x ∷ xs) ≡ true → (among x xs ≡ false) × (no_two xs ≡ true)
unfolding no_two
no_two_first x xs h = let q = (and-eq-true_iff (not (among x xs)) (no_two xs)).0 h in (not-true (among x xs) q.0, q.1)
