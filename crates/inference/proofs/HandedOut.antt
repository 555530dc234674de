-- What a typing hands out, read back from the rows: sorts, names and choices. By induction over the rows. Assumes nothing.
use mathlib.Core.Path.{◌≡◌, refl, ap, ◌∙◌}
use mathlib.Core.List.{List, [], ◌∷◌, ◌++◌}
use Prim.Native.Nat.{ℕ, zero, suc, ◌+◌, ◌*◌, ◌<◌}
use native.Mathlib.Omega.{arith}
use lib.ListN.{length, get_or}
use Rattle.inference.specs.Constraints.{BaseName, rows_from, Problem}
use Rattle.inference.specs.Search.{Choice}
use Rattle.inference.specs.Names.{name_of, name_kind, name_sort}
use Rattle.inference.specs.SolveEntry.{typing_rows, choice_rows, choice_at}

module _ (P : Problem) (bs : List BaseName) (cs : List Choice) where
  later_row : (x s : ℕ) (ss rest : List ℕ) (i k : ℕ) → get_or (typing_rows P bs cs x (s ∷ ss) ++ rest) (3 * suc i + k) 0
      ≡ get_or (typing_rows P bs cs (x + 1) ss ++ rest) (3 * i + k) 0
  unfolding typing_rows
  later_row x s ss rest i k = let e : 3 * suc i + k ≡ suc (suc (suc (3 * i + k))) = omega arith in ap (λ j. get_or (typing_rows P bs cs x (s ∷ ss) ++ rest) j 0) e

  pub sort_row : (x : ℕ) (ss rest : List ℕ) (i : ℕ) → i < length ss → get_or (typing_rows P bs cs x ss ++ rest) (3 * i + 0) 0 ≡ get_or ss i 0
  unfolding typing_rows
  sort_row x [] rest i l = absurd (omega (arith, l))
  sort_row x (s ∷ ss) rest zero l = refl
  sort_row x (s ∷ ss) rest (suc i) l = later_row x s ss rest i 0 ∙ sort_row (x + 1) ss rest i (omega (arith, l))

  pub kind_row : (x : ℕ) (ss rest : List ℕ) (i : ℕ) → i < length ss → get_or (typing_rows P bs cs x ss ++ rest) (3 * i + 1) 0 ≡ name_kind (name_of P bs cs (x + i))
  unfolding typing_rows
  kind_row x [] rest i l = absurd (omega (arith, l))
  kind_row x (s ∷ ss) rest zero l = ap (λ y. name_kind (name_of P bs cs y)) (omega arith)
  kind_row x (s ∷ ss) rest (suc i) l = later_row x s ss rest i 1 ∙ (kind_row (x + 1) ss rest i (omega (arith, l)) ∙ ap
      (λ y. name_kind (name_of P bs cs y)) (omega arith))

  pub name_row : (x : ℕ) (ss rest : List ℕ) (i : ℕ) → i < length ss → get_or (typing_rows P bs cs x ss ++ rest) (3 * i + 2) 0 ≡ name_sort (name_of P bs cs (x + i))
  unfolding typing_rows
  name_row x [] rest i l = absurd (omega (arith, l))
  name_row x (s ∷ ss) rest zero l = ap (λ y. name_sort (name_of P bs cs y)) (omega arith)
  name_row x (s ∷ ss) rest (suc i) l = later_row x s ss rest i 2 ∙ (name_row (x + 1) ss rest i (omega (arith, l)) ∙ ap
      (λ y. name_sort (name_of P bs cs y)) (omega arith))

-- rows that are those of a list are the list
pub rows_are : {A : Type 0} (d : A) (ss : List A) (row : ℕ → A) (i n : ℕ) → n ≡ length ss → ((j : ℕ) → j < length ss
    → row (i + j) ≡ get_or ss j d) → rows_from row i n ≡ ss
unfolding rows_from
rows_are d [] row i zero e h = refl
rows_are d [] row i (suc n) e h = absurd (omega (arith, e))
rows_are d (s ∷ ss) row i zero e h = absurd (omega (arith, e))
rows_are d (s ∷ ss) row i (suc n) e h =
    let a : row i ≡ s = ap row (omega arith) ∙ h 0 (omega arith) in
    let b : rows_from row (i + 1) n ≡ ss = rows_are d ss row (i + 1) n (omega (arith, e)) (λ j l. ap row (omega arith) ∙ h (suc j) (omega (arith, l))) in
    cc

pub choice_rows_long : (ks : List Choice) → length (choice_rows ks) ≡ 2 * length ks
unfolding choice_rows
choice_rows_long [] = refl
choice_rows_long (k ∷ ks) = omega (arith, choice_rows_long ks)

abbrev no_choice : Choice
no_choice = record { expr = 0; position = 0 }

choice_row : (ks : List Choice) (rest : List ℕ) (i : ℕ) → i < length ks → choice_at (choice_rows ks ++ rest) i ≡ get_or ks i no_choice
unfolding choice_rows
choice_row [] rest i l = absurd (omega (arith, l))
choice_row (k ∷ ks) rest zero l = refl
choice_row (k ∷ ks) rest (suc i) l =
    let e : 2 * suc i ≡ suc (suc (2 * i)) = omega arith in
    let f : 2 * suc i + 1 ≡ suc (suc (2 * i + 1)) = omega arith in
    let a : get_or (choice_rows (k ∷ ks) ++ rest) (2 * suc i) 0 ≡ get_or (choice_rows ks ++ rest) (2 * i) 0 = ap (λ j. get_or (choice_rows (k ∷ ks) ++ rest) j 0) e in
    let b : get_or (choice_rows (k ∷ ks) ++ rest) (2 * suc i + 1) 0 ≡ get_or (choice_rows ks ++ rest) (2 * i + 1) 0 = ap
    (λ j. get_or (choice_rows (k ∷ ks) ++ rest) j 0) f in
    (λ j. record { expr = a j; position = b j }) ∙ choice_row ks rest i (omega (arith, l))

-- the choices, read back
pub choices_read : (ks : List Choice) (rest : List ℕ) → rows_from (choice_at (choice_rows ks ++ rest)) 0 (length ks) ≡ ks
choices_read ks rest = rows_are no_choice ks (choice_at (choice_rows ks ++ rest)) 0 (length ks) refl
    (λ j l. ap (choice_at (choice_rows ks ++ rest)) (omega arith) ∙ choice_row ks rest j l)
