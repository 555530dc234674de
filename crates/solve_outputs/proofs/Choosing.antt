-- The rows of choices. First each disjunction stores the slot of its choice: what is left to store comes to all. Since no two are for one expression, the
-- slot that stands at an expression in the end is that of its only choice. Then each expression with a slot stores the row of that choice: again what is
-- left comes to all. Assumes nothing.
use mathlib.Core.Path.{◌≡◌, refl, sym, ap, ◌∙◌, subst}
use mathlib.Core.Bool.{true, false}
use mathlib.Core.List.{List, [], ◌∷◌, ◌++◌, map}
use mathlib.Core.Logic.{◌⊎◌, inl, inr}
use Prim.Native.Nat.{ℕ, zero, suc, ◌+◌, ◌-◌, ◌*◌, ◌<◌, ◌≤◌}
use native.Mathlib.Omega.{arith}
use lib.ListN.{length, get_or, set, replicate, length-set, length-replicate, get_or-replicate}
use borrow.Author.Tests.{ne_eqb}
use lib.Seq.{sets, get_or-set_same, get_or-set_other}
use Rattle.std.proofs.lemmas.Bool.{cases_eq}
use Rattle.inference.specs.declared.Constraint.{Constraint}
use Rattle.inference.specs.declared.Constraint.TheVariants.{Sub, Lit, Disjunction, Comprehension, Join}
use Rattle.inference.specs.Constraints.{max_exprs, max_constraints, constraint_at, rows_from}
use Rattle.inference.specs.Search.{Choice}
use Rattle.inference.specs.SolveChecks.{disjunction_for, disjunctions, among, no_two}
use Rattle.inference.specs.Rising.{choices_for, rising_from, rising}
use Rattle.inference.specs.SolveEntry.{choice_rows, written_over}
use Rattle.inference.specs.Named.{expr_of, choice}
use Rattle.inference.proofs.Members.{length_rows, rows_all_left, rows_one_left, rows_none_left, not_among, no_two_first}
use Rattle.inference.proofs.HandedOut.{choice_rows_long}
use Rattle.inference.proofs.Rising.{one_for, one_for_another, none_for, rising_no_longer}
use Rattle.search_state.specs.declared.Sizes.{Sizes}
use Rattle.search_state.specs.Inner.Memory.{expr_at, problem_in, rest_from, chosen_exprs, best_choices_at, scratch_used, choices_of, choices_kept}
use Rattle.words.specs.Words.{part}
use Rattle.search_state.specs.Inner.Searching.{Sized}
use Rattle.words.proofs.Parts.{part_first, length_part}
use Rattle.solve_outputs.specs.Inner.Written.{Walked, walked, position_at, slots_stored, choice_by}
use Rattle.solve_outputs.proofs.Over.{stored_is_over}

-- Slots, one constraint after another.
one_or_none : (c : Constraint) (xs : List ℕ) → length (disjunction_for c xs) ≡ length (disjunction_for c []) + length xs
one_or_none (Sub l r) xs = omega arith
one_or_none (Lit p kind) xs = omega arith
one_or_none (Disjunction x p run) xs = omega arith
one_or_none (Comprehension body node element) xs = omega arith
one_or_none (Join run t) xs = omega arith

slots_in_turn : (c : Constraint) (xs : List ℕ) (k : ℕ) (ss : List ℕ)
    → slots_stored (disjunction_for c xs) k ss ≡ slots_stored xs (k + length (disjunction_for c [])) (slots_stored (disjunction_for c []) k ss)
unfolding slots_stored
slots_in_turn c xs k ss = go c
  where
    none : slots_stored xs k ss ≡ slots_stored xs (k + 0) ss
    none = ap (λ j. slots_stored xs j ss) (omega arith)

    go : (c : Constraint)
        → slots_stored (disjunction_for c xs) k ss ≡ slots_stored xs (k + length (disjunction_for c [])) (slots_stored (disjunction_for c []) k ss)
    go (Sub l r) = none
    go (Lit p kind) = none
    go (Disjunction x p run) = refl
    go (Comprehension body node element) = none
    go (Join run t) = none

module _ (all : List ℕ) (d : ℕ) where
  -- with the constraints cs left, after k choices
  pub record Storing (cs : List Constraint) (ss : List ℕ) (k : ℕ) : Type 0 where
    pub count : k + length (disjunctions cs) ≡ d
    pub left : all ≡ slots_stored (disjunctions cs) k ss

  one_stored : (c : Constraint) (cs : List Constraint) (ss : List ℕ) (k : ℕ) → Storing (c ∷ cs) ss k → (ss' : List ℕ) (k' : ℕ)
      → walked ss' k' ≡ walked (slots_stored (disjunction_for c []) k ss) (k + length (disjunction_for c [])) → Storing cs ss' k'
  unfolding disjunctions
  one_stored c cs ss k p ss' k' e =
      subst (λ (w : Walked). Storing cs w.words w.count) (sym e)
      (record {
        count = omega (arith, p.count, one_or_none c (disjunctions cs));
        left = p.left ∙ slots_in_turn c (disjunctions cs) k ss;
      })

  all_stored : (ss : List ℕ) (k : ℕ) → Storing [] ss k → ss ≡ all
  unfolding disjunctions slots_stored
  all_stored ss k p = sym p.left

-- The loop over n constraints: those from the i-th on are left, after k choices.
module _ (old ls : List ℕ) (n : ℕ) where
  abbrev rest : ℕ → List Constraint
  rest i = rows_from (constraint_at ls) i (n - i)

  abbrev total : ℕ
  total = length (disjunctions (rest 0))

  abbrev whole : List ℕ
  whole = slots_stored (disjunctions (rest 0)) 0 old

  pub record SlotsLeft (ss : List ℕ) (k i : ℕ) : Type 0 where
    pub within : i ≤ n
    pub few : total ≤ max_constraints
    pub storing : Storing whole total (rest i) ss k

  module _ (ss : List ℕ) (k i : ℕ) (p : SlotsLeft ss k i) where
    pub slots_go_on : i < n → (c : Constraint) → c ≡ constraint_at ls i → (ss' : List ℕ) (k' : ℕ)
        → walked ss' k' ≡ walked (slots_stored (disjunction_for c []) k ss) (k + length (disjunction_for c [])) → SlotsLeft ss' k' (i + 1)
    slots_go_on l c e ss' k' y =
        record {
          within = omega (arith, l);
          few = p.few;
          storing =
              one_stored whole total c (rest (i + 1)) ss k
              (subst (λ cs. Storing whole total cs ss k) (rows_one_left (constraint_at ls) n i l ∙ ap (λ d. d ∷ rest (i + 1)) (sym e)) p.storing) ss' k' y;
        }

    none_left : n ≤ i → ss ≡ whole
    none_left l = all_stored whole total ss k (subst (λ cs. Storing whole total cs ss k) (rows_none_left (constraint_at ls) n i l) p.storing)

-- as many choices as a problem has disjunctions
module _ (ls : List ℕ) (z : Sizes) (s : Sized (problem_in ls z) z) where
  pub choices_in_all : length (disjunctions (rest_from ls z 0)) ≡ z.disjunctions
  unfolding problem_in
  choices_in_all = ap (λ cs. length (disjunctions cs)) (rows_all_left (constraint_at ls) z.constraints) ∙ s.disjunctions

  pub exprs_in_all : length (chosen_exprs ls z) ≡ z.disjunctions
  unfolding chosen_exprs
  exprs_in_all = choices_in_all

length_choices : (xs is : List ℕ) → length is ≡ length xs → length (choices_of xs is) ≡ length xs
unfolding choices_of
length_choices [] is e = refl
length_choices (x ∷ xs) [] e = absurd (omega (arith, e))
length_choices (x ∷ xs) (i ∷ is) e = ap suc (length_choices xs is (omega (arith, e)))

module _ (sc ls : List ℕ) (z : Sizes) (s : Sized (problem_in ls z) z) (used : scratch_used ≤ length sc) where
  pub choices_as_counted : length (choices_kept ls z sc) ≡ z.disjunctions
  choices_as_counted =
      length_choices (chosen_exprs ls z) (part best_choices_at z.disjunctions sc)
      (length_part best_choices_at z.disjunctions sc (omega (arith, used, s.few_disjunctions)) ∙ sym (exprs_in_all ls z s))
      ∙ exprs_in_all ls z s

module _ (old ls : List ℕ) (z : Sizes) (s : Sized (problem_in ls z) z) where
  pub slots_begin : SlotsLeft old ls z.constraints old 0 0
  slots_begin =
      record {
        within = omega arith;
        few = omega (arith, choices_in_all ls z s, s.few_disjunctions);
        storing = record { count = omega arith; left = refl };
      }

  pub slots_end : (ss : List ℕ) (k i : ℕ) → SlotsLeft old ls z.constraints ss k i → z.constraints ≤ i → ss ≡ slots_stored (chosen_exprs ls z) 0 old
  unfolding chosen_exprs
  slots_end ss k i p l = none_left old ls z.constraints ss k i p l

-- What stands at an expression in the end: what stood there, where no choice is for it.
slot_stays : (xs : List ℕ) (k : ℕ) (ss : List ℕ) (x : ℕ) → among x xs ≡ false → get_or (slots_stored xs k ss) x 0 ≡ get_or ss x 0
unfolding slots_stored
slot_stays [] k ss x a = refl
slot_stays (y ∷ ys) k ss x a =
    let q = not_among x y ys a in
    slot_stays ys (k + 1) (set ss y (k + 1)) x q.1 ∙ get_or-set_other ss y x (k + 1) 0 q.0

-- the choices for an expression, by the slot of its choice
unfoldable pub chosen_at : List ℕ → ℕ → ℕ → List Choice
chosen_at sc x zero = []
chosen_at sc x (suc i) = choice x (position_at sc i) ∷ []

no_choice_among : (xs is : List ℕ) (x : ℕ) → among x xs ≡ false → among x (map expr_of (choices_of xs is)) ≡ false
unfolding choices_of among
no_choice_among [] is x a = refl
no_choice_among (y ∷ ys) [] x a = refl
no_choice_among (y ∷ ys) (i ∷ is) x a = let q = not_among x y ys a in rw (ne_eqb x y q.0) (no_choice_among ys is x q.1)

-- for one expression more, y, after k choices
module _ (sc : List ℕ) (y : ℕ) (ys : List ℕ) (k : ℕ) (ss : List ℕ) (x : ℕ) (n : no_two (y ∷ ys) ≡ true) (l : x < length ss) where
  abbrev others : List Choice
  others = choices_of ys (part (best_choices_at + (k + 1)) (length ys) sc)

  abbrev end : ℕ
  end = get_or (slots_stored ys (k + 1) (set ss y (k + 1))) x 0

  no_other : y ≡ x → among x ys ≡ false
  no_other e = ap (λ v. among v ys) (sym e) ∙ (no_two_first y ys n).0

  this : y ≡ x → end ≡ suc k
  this e =
      slot_stays ys (k + 1) (set ss y (k + 1)) x (no_other e)
      ∙ (ap (λ v. get_or (set ss v (k + 1)) x 0) e ∙ (get_or-set_same ss x (k + 1) 0 l ∙ omega arith))

  by_first : (y ≡ x) ⊎ (y ≡ x → ⊥) → ((y ≡ x → ⊥) → choices_for x others ≡ chosen_at sc x end)
      → choices_for x (choice y (position_at sc k) ∷ others) ≡ chosen_at sc x end
  unfolding chosen_at
  by_first (inl e) h =
      one_for x (choice y (position_at sc k)) others e
      ∙ (ap (λ js. choice y (position_at sc k) ∷ js) (none_for x others (no_choice_among ys (part (best_choices_at + (k + 1)) (length ys) sc) x (no_other e)))
      ∙ (ap (λ v. choice v (position_at sc k) ∷ []) e ∙ sym (ap (chosen_at sc x) (this e))))
  by_first (inr d) h = one_for_another x (choice y (position_at sc k)) others d ∙ h d

choices_by_slot : (sc : List ℕ) (xs : List ℕ) (k : ℕ) (ss : List ℕ) (x : ℕ) → no_two xs ≡ true → x < length ss → get_or ss x 0 ≡ 0
    → best_choices_at + (k + length xs) ≤ length sc
    → choices_for x (choices_of xs (part (best_choices_at + k) (length xs) sc)) ≡ chosen_at sc x (get_or (slots_stored xs k ss) x 0)
unfolding choices_for choices_of slots_stored chosen_at
choices_by_slot sc [] k ss x n l z m = rw z refl
choices_by_slot sc (y ∷ ys) k ss x n l z m =
    let e : suc (best_choices_at + k) ≡ best_choices_at + (k + 1) = omega arith in
    ap (λ is. choices_for x (choices_of (y ∷ ys) is)) (part_first (best_choices_at + k) (length ys) sc (omega (arith, m)))
    ∙ (ap (λ j. choices_for x (choice y (position_at sc k) ∷ choices_of ys (part j (length ys) sc))) e
    ∙ by_first sc y ys k ss x n l (cases_eq y x)
    (λ d. choices_by_slot sc ys (k + 1) (set ss y (k + 1)) x (no_two_first y ys n).1 (omega (arith, l, length-set ss y (k + 1)))
    (get_or-set_other ss y x (k + 1) 0 (λ e. d (sym e)) ∙ z) (omega (arith, m))))

-- Rows of the choices ks, one expression after another.
module _ (old : List ℕ) (ks : List Choice) (n : ℕ) where
  abbrev rows : List ℕ
  rows = sets old 0 (choice_rows (rising_from ks 0 n))

  -- from the expression x on, of n, after k rows
  pub record RowsLeft (ch : List ℕ) (k x : ℕ) : Type 0 where
    pub within : x ≤ n
    pub few : length ks ≤ max_constraints
    pub count : k + length (rising_from ks x (n - x)) ≤ length ks
    pub left : rows ≡ sets ch (2 * k) (choice_rows (rising_from ks x (n - x)))

  rows_begin : length ks ≤ max_constraints → RowsLeft old 0 0
  rows_begin f =
      record {
        within = omega arith;
        few = f;
        count = omega (arith, rising_no_longer ks 0 (n - 0));
        left = ap (λ (m : ℕ). sets old 0 (choice_rows (rising_from ks 0 m))) (let e : n ≡ n - 0 = omega arith in e);
      }

  rows_end : (ch : List ℕ) (k x : ℕ) → RowsLeft ch k x → n ≤ x → 2 * length ks ≤ length old → ch ≡ written_over (choice_rows (rising_from ks 0 n)) old
  unfolding rising_from choice_rows
  rows_end ch k x r l room =
      sym (r.left ∙ ap (λ (m : ℕ). sets ch (2 * k) (choice_rows (rising_from ks x m))) (let e : n - x ≡ 0 = omega (arith, l) in e))
      ∙ stored_is_over (choice_rows (rising_from ks 0 n)) old
      (omega (arith, choice_rows_long (rising_from ks 0 n), rising_no_longer ks 0 n, room))

  -- by the slots of the choices
  module _ (sc ss : List ℕ) (by_slot : (x : ℕ) → x < n → choices_for x ks ≡ chosen_at sc x (get_or ss x 0)) where
    abbrev Later : ℕ → List Choice
    Later x = rising_from ks (x + 1) (n - (x + 1))

    this_first : (x : ℕ) → x < n → rising_from ks x (n - x) ≡ chosen_at sc x (get_or ss x 0) ++ Later x
    unfolding rising_from
    this_first x l =
        ap (rising_from ks x) (let e : n - x ≡ suc (n - (x + 1)) = omega (arith, l) in e) ∙ ap (λ js. js ++ Later x) (by_slot x l)

    has_row : (x i : ℕ) (ch : List ℕ) (k : ℕ) → choice_by sc x (suc i) ch k ≡ walked (set (set ch (2 * k) x) (2 * k + 1) (position_at sc i)) (k + 1)
    unfolding choice_by
    has_row x i ch k =
        rw (ne_eqb (suc i) 0 (λ e. omega (arith, e)))
        (ap (λ j. walked (set (set ch (2 * k) x) (2 * k + 1) (position_at sc j)) (k + 1)) (let e : suc i - 1 ≡ i = omega arith in e))

    one_row : (x slot : ℕ) (ch : List ℕ) (k : ℕ) → x < n → length ks ≤ max_constraints
        → k + length (chosen_at sc x slot ++ Later x) ≤ length ks → rows ≡ sets ch (2 * k) (choice_rows (chosen_at sc x slot ++ Later x))
        → (w : Walked) → w ≡ choice_by sc x slot ch k → RowsLeft w.words w.count (x + 1)
    unfolding chosen_at choice_rows choice_by
    one_row x zero ch k l f c e w q =
        subst (λ (w : Walked). RowsLeft w.words w.count (x + 1)) (sym q)
        (record { within = omega (arith, l); few = f; count = c; left = e })
    one_row x (suc i) ch k l f c e w q =
        let a : suc (2 * k) ≡ 2 * k + 1 = omega arith in
        let b : suc (suc (2 * k)) ≡ 2 * (k + 1) = omega arith in
        subst (λ (w : Walked). RowsLeft w.words w.count (x + 1)) (sym (q ∙ has_row x i ch k))
        (record {
          within = omega (arith, l);
          few = f;
          count = omega (arith, c);
          left = e ∙ (λ j. sets (set (set ch (2 * k) x) (a j) (position_at sc i)) (b j) (choice_rows (Later x)));
        })

    rows_go_on : (ch : List ℕ) (k x : ℕ) → RowsLeft ch k x → x < n → (ch' : List ℕ) (k' : ℕ)
        → walked ch' k' ≡ choice_by sc x (get_or ss x 0) ch k → RowsLeft ch' k' (x + 1)
    rows_go_on ch k x r l ch' k' e =
        let q = this_first x l in
        one_row x (get_or ss x 0) ch k l r.few (subst (λ (js : List Choice). k + length js ≤ length ks) q r.count)
        (r.left ∙ ap (λ js. sets ch (2 * k) (choice_rows js)) q) (walked ch' k') e

-- for the constraints of a problem
module _ (sc old ls : List ℕ) (z : Sizes) (s : Sized (problem_in ls z) z) (used : scratch_used ≤ length sc) where
  pub rows_begin_in : RowsLeft old (choices_kept ls z sc) z.exprs old 0 0
  rows_begin_in = rows_begin old (choices_kept ls z sc) z.exprs (omega (arith, choices_as_counted sc ls z s used, s.few_disjunctions))

  pub rows_go_on_in : no_two (chosen_exprs ls z) ≡ true → (ss : List ℕ) → ss ≡ slots_stored (chosen_exprs ls z) 0 (replicate max_exprs 0)
      → (ch : List ℕ) (k x : ℕ) → RowsLeft old (choices_kept ls z sc) z.exprs ch k x → x < z.exprs
      → (slot : ℕ) → slot ≡ get_or ss x 0 → (ch' : List ℕ) (k' : ℕ) → walked ch' k' ≡ choice_by sc x slot ch k
      → RowsLeft old (choices_kept ls z sc) z.exprs ch' k' (x + 1)
  rows_go_on_in one ss stored ch k x r l slot e ch' k' y =
      rows_go_on old (choices_kept ls z sc) z.exprs sc ss by_slot ch k x r l ch' k' (y ∙ ap (λ p. choice_by sc x p ch k) e)
    where
      by_slot : (x : ℕ) → x < z.exprs → choices_for x (choices_kept ls z sc) ≡ chosen_at sc x (get_or ss x 0)
      by_slot x l =
          let inside : x < max_exprs = omega (arith, l, s.exprs) in
          ap (λ d. choices_for x (choices_of (chosen_exprs ls z) (part best_choices_at d sc))) (sym (exprs_in_all ls z s))
          ∙ (choices_by_slot sc (chosen_exprs ls z) 0 (replicate max_exprs 0) x one (omega (arith, length-replicate {A = ℕ} max_exprs 0, inside))
          (get_or-replicate max_exprs x 0 0 inside) (omega (arith, exprs_in_all ls z s, s.few_disjunctions, used))
          ∙ ap (λ ws. chosen_at sc x (get_or ws x 0)) (sym stored))

  pub rows_end_in : 2 * z.disjunctions ≤ length old → (ch : List ℕ) (k x : ℕ) → RowsLeft old (choices_kept ls z sc) z.exprs ch k x → z.exprs ≤ x
      → ch ≡ written_over (choice_rows (rising (problem_in ls z) (choices_kept ls z sc))) old
  unfolding problem_in
  rows_end_in room ch k x r l =
      rows_end old (choices_kept ls z sc) z.exprs ch k x r l (omega (arith, choices_as_counted sc ls z s used, room))
      ∙ ap (λ (n : ℕ). written_over (choice_rows (rising_from (choices_kept ls z sc) 0 n)) old) (sym (length_rows (expr_at ls) 0 z.exprs))
