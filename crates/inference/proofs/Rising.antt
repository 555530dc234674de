-- C-15: the list of choices by rising expression number. It has, for each expression, the choices that the search made for it, in their order; so it has the same
-- entries, as many of them, and gives the same names. Where no two choices are for one expression, each is there once, the expression numbers rise strictly, and no
-- other list of these choices does. By induction over the expressions in turn and over the choices. Assumes nothing.
use mathlib.Core.Path.{◌≡◌, refl, sym, ap, ap₂, subst, ◌∙◌}
use mathlib.Core.Bool.{Bool, true, false, cond}
use mathlib.Core.List.{List, [], ◌∷◌, ◌++◌, map, append-nil}
use mathlib.Core.Logic.{◌⊎◌, inl, inr, ◌↔◌}
use Prim.Native.Nat.{ℕ, zero, suc, ◌+◌, ◌<◌, ◌≤◌}
use native.Mathlib.Omega.{arith}
use lib.Dec.{eqb}
use lib.ListN.{length, length-append}
use borrow.Author.Tests.{eqb-true, eq-eqb, ne_eqb}
use Rattle.std.proofs.lemmas.Bool.{cases_eq, cases_lt}
use Rattle.inference.specs.Constraints.{BaseName, Problem}
use Rattle.inference.specs.Search.{Choice}
use Rattle.inference.specs.Names.{run_for, target_in, chosen_name, name_of}
use Rattle.inference.specs.Typing.{All, none_left, and_all, In, here, there}
use Rattle.inference.specs.SolveChecks.{among, no_two}
use Rattle.inference.specs.Rising.{choices_for, rising_from, rising, RisingNumbers, no_numbers, then_above}
use Rattle.inference.specs.Named.{expr_of, choice}
use Rattle.inference.proofs.Members.{not_in_nothing, in_cases, first_in, in_map, in_all, all_weaker, not_among, no_two_first}

-- The choices for one expression.
pub one_for : (x : ℕ) (k : Choice) (ks : List Choice) → k.expr ≡ x → choices_for x (k ∷ ks) ≡ k ∷ choices_for x ks
unfolding choices_for
one_for x k ks e = rw (eq-eqb k.expr x e)

pub one_for_another : (x : ℕ) (k : Choice) (ks : List Choice) → (k.expr ≡ x → ⊥) → choices_for x (k ∷ ks) ≡ choices_for x ks
unfolding choices_for
one_for_another x k ks n = rw (ne_eqb k.expr x n)

pub none_for : (x : ℕ) (ks : List Choice) → among x (map expr_of ks) ≡ false → choices_for x ks ≡ []
unfolding choices_for
none_for x [] a = refl
none_for x (k ∷ ks) a =
    let q = not_among x k.expr (map expr_of ks) a in
    one_for_another x k ks (λ e. q.0 (sym e)) ∙ none_for x ks q.1

-- an expression has a choice where there are choices for it
abbrev some_of : List Choice → Bool
some_of [] = false
some_of (k ∷ ks) = true

among_by_own : (x : ℕ) (ks : List Choice) → among x (map expr_of ks) ≡ some_of (choices_for x ks)
unfolding among choices_for
among_by_own x [] = refl
among_by_own x (k ∷ ks) = go (cases_eq k.expr x) (among_by_own x ks)
  where
    go : (k.expr ≡ x) ⊎ (k.expr ≡ x → ⊥) → among x (map expr_of ks) ≡ some_of (choices_for x ks)
        → among x (map expr_of (k ∷ ks)) ≡ some_of (choices_for x (k ∷ ks))
    go (inl e) h = rw (eq-eqb x k.expr (sym e), eq-eqb k.expr x e) refl
    go (inr d) h = rw (ne_eqb x k.expr (λ e. d (sym e)), ne_eqb k.expr x d) h

pub among_alike : (x : ℕ) (ks ls : List Choice) → choices_for x ks ≡ choices_for x ls → among x (map expr_of ks) ≡ among x (map expr_of ls)
among_alike x ks ls e = among_by_own x ks ∙ (ap some_of e ∙ sym (among_by_own x ls))

choices_for_append : (x : ℕ) (ks ls : List Choice) → choices_for x (ks ++ ls) ≡ choices_for x ks ++ choices_for x ls
unfolding choices_for
choices_for_append x [] ls = refl
choices_for_append x (k ∷ ks) ls = go (eqb k.expr x) (choices_for_append x ks ls)
  where
    go : (b : Bool) → choices_for x (ks ++ ls) ≡ choices_for x ks ++ choices_for x ls
        → cond b (k ∷ choices_for x (ks ++ ls)) (choices_for x (ks ++ ls)) ≡ cond b (k ∷ choices_for x ks) (choices_for x ks) ++ choices_for x ls
    go true h = ap (λ js. k ∷ js) h
    go false h = h

-- of the choices for y: those for y, and none for others
choices_for_own : (x : ℕ) (ks : List Choice) → choices_for x (choices_for x ks) ≡ choices_for x ks
unfolding choices_for
choices_for_own x [] = refl
choices_for_own x (k ∷ ks) = go (eqb k.expr x) refl (choices_for_own x ks)
  where
    go : (b : Bool) → eqb k.expr x ≡ b → choices_for x (choices_for x ks) ≡ choices_for x ks
        → choices_for x (cond b (k ∷ choices_for x ks) (choices_for x ks)) ≡ cond b (k ∷ choices_for x ks) (choices_for x ks)
    go true e h = one_for x k (choices_for x ks) (eqb-true k.expr x e) ∙ ap (λ js. k ∷ js) h
    go false e h = h

choices_for_others : (x y : ℕ) (ks : List Choice) → (y ≡ x → ⊥) → choices_for x (choices_for y ks) ≡ []
unfolding choices_for
choices_for_others x y [] n = refl
choices_for_others x y (k ∷ ks) n = go (eqb k.expr y) refl (choices_for_others x y ks n)
  where
    go : (b : Bool) → eqb k.expr y ≡ b → choices_for x (choices_for y ks) ≡ []
        → choices_for x (cond b (k ∷ choices_for y ks) (choices_for y ks)) ≡ []
    go true e h = one_for_another x k (choices_for y ks) (λ q. n (sym (eqb-true k.expr y e) ∙ q)) ∙ h
    go false e h = h

-- a choice is among those for its own expression
own_in : (k : Choice) (ks : List Choice) → In k ks → In k (choices_for k.expr ks)
own_in k _ (here ks) = subst (In k) (sym (one_for k.expr k ks refl)) (here (choices_for k.expr ks))
own_in k _ (there j ks i) = go (cases_eq j.expr k.expr) (own_in k ks i)
  where
    go : (j.expr ≡ k.expr) ⊎ (j.expr ≡ k.expr → ⊥) → In k (choices_for k.expr ks) → In k (choices_for k.expr (j ∷ ks))
    go (inl e) h = subst (In k) (sym (one_for k.expr j ks e)) (there j (choices_for k.expr ks) h)
    go (inr n) h = subst (In k) (sym (one_for_another k.expr j ks n)) h

in_own : (k : Choice) (x : ℕ) (ks : List Choice) → In k (choices_for x ks) → In k ks
unfolding choices_for
in_own k x [] i = absurd (not_in_nothing k i)
in_own k x (j ∷ ks) i = go (cases_eq j.expr x) (in_own k x ks)
  where
    this : (k ≡ j) ⊎ In k (choices_for x ks) → (In k (choices_for x ks) → In k ks) → In k (j ∷ ks)
    this (inl q) f = first_in k j ks q
    this (inr l) f = there j ks (f l)

    go : (j.expr ≡ x) ⊎ (j.expr ≡ x → ⊥) → (In k (choices_for x ks) → In k ks) → In k (j ∷ ks)
    go (inl e) f = this (in_cases k j (choices_for x ks) (subst (In k) (one_for x j ks e) i)) f
    go (inr n) f = there j ks (f (subst (In k) (one_for_another x j ks n) i))

-- Where lists have the same choices for each expression, they have the same entries.
alike_have_the_same : (ks ls : List Choice) → ((x : ℕ) → choices_for x ks ≡ choices_for x ls) → (k : Choice) → In k ks → In k ls
alike_have_the_same ks ls a k i = in_own k k.expr ls (subst (In k) (a k.expr) (own_in k ks i))

-- The name of an expression is by the choices for it.
name_by_own : (P : Problem) (ks : List Choice) (x : ℕ) → chosen_name P (choices_for x ks) x ≡ chosen_name P ks x
unfolding choices_for chosen_name
name_by_own P [] x = refl
name_by_own P (k ∷ ks) x = go (eqb k.expr x) refl (name_by_own P ks x)
  where
    go : (b : Bool) → eqb k.expr x ≡ b → chosen_name P (choices_for x ks) x ≡ chosen_name P ks x
        → chosen_name P (cond b (k ∷ choices_for x ks) (choices_for x ks)) x
        ≡ cond b (target_in P.overloads k.position (run_for x P.constraints)) (chosen_name P ks x)
    go true e h = rw e refl
    go false e h = h

pub alike_name_the_same : (P : Problem) (bs : List BaseName) (ks ls : List Choice) → ((x : ℕ) → choices_for x ks ≡ choices_for x ls)
    → (x : ℕ) → name_of P bs ks x ≡ name_of P bs ls x
unfolding name_of
alike_name_the_same P bs ks ls a x =
    let h : chosen_name P ks x ≡ chosen_name P ls x = sym (name_by_own P ks x) ∙ (ap (λ js. chosen_name P js x) (a x) ∙ name_by_own P ls x) in
    rw h

-- The choices for an expression, of those that rise from x on: all that there are for it, and none where it is not one of the n.
rest_for : (ks : List Choice) (y x n : ℕ) → (x ≡ y → ⊥) → choices_for y (rising_from ks x (suc n)) ≡ choices_for y (rising_from ks (x + 1) n)
unfolding rising_from
rest_for ks y x n d =
    choices_for_append y (choices_for x ks) (rising_from ks (x + 1) n)
    ∙ ap (λ js. js ++ choices_for y (rising_from ks (x + 1) n)) (choices_for_others y x ks d)

rising_has_none_below : (ks : List Choice) (y x n : ℕ) → y < x → choices_for y (rising_from ks x n) ≡ []
unfolding rising_from choices_for
rising_has_none_below ks y x zero l = refl
rising_has_none_below ks y x (suc n) l = rest_for ks y x n (λ e. omega (arith, e, l)) ∙ rising_has_none_below ks y (x + 1) n (omega (arith, l))

rising_has_none_past : (ks : List Choice) (y x n : ℕ) → x + n ≤ y → choices_for y (rising_from ks x n) ≡ []
unfolding rising_from choices_for
rising_has_none_past ks y x zero l = refl
rising_has_none_past ks y x (suc n) l = rest_for ks y x n (λ e. omega (arith, e, l)) ∙ rising_has_none_past ks y (x + 1) n (omega (arith, l))

rising_has_all_for : (ks : List Choice) (y x n : ℕ) → x ≤ y → y < x + n → choices_for y (rising_from ks x n) ≡ choices_for y ks
unfolding rising_from
rising_has_all_for ks y x zero l m = absurd (omega (arith, l, m))
rising_has_all_for ks y x (suc n) l m = go (cases_eq x y) (λ d. rising_has_all_for ks y (x + 1) n (omega (arith, l, d)) (omega (arith, m)))
  where
    go : (x ≡ y) ⊎ (x ≡ y → ⊥) → ((x ≡ y → ⊥) → choices_for y (rising_from ks (x + 1) n) ≡ choices_for y ks)
        → choices_for y (rising_from ks x (suc n)) ≡ choices_for y ks
    go (inl e) f =
        choices_for_append y (choices_for x ks) (rising_from ks (x + 1) n)
        ∙ (ap₂ ◌++◌ (ap (λ z. choices_for y (choices_for z ks)) e ∙ choices_for_own y ks) (rising_has_none_below ks y (x + 1) n (omega (arith, e)))
        ∙ append-nil (choices_for y ks))
    go (inr d) f = rest_for ks y x n d ∙ f d

-- Choices for n expressions.
abbrev pub AllFor : ℕ → List Choice → Type 0
AllFor n ks = All (λ x. x < n) (map expr_of ks)

none_past : (n y : ℕ) (ks : List Choice) → AllFor n ks → n ≤ y → choices_for y ks ≡ []
unfolding choices_for
none_past n y [] a l = refl
none_past n y (k ∷ ks) (and_all _ _ m a) l = one_for_another y k ks (λ e. omega (arith, e, m, l)) ∙ none_past n y ks a l

-- For each expression it has the choices that the search made for it, in their order.
pub rising_keeps_each : (n : ℕ) (ks : List Choice) → AllFor n ks → (x : ℕ) → choices_for x (rising_from ks 0 n) ≡ choices_for x ks
rising_keeps_each n ks a x = go (cases_lt x n)
  where
    go : (x < n) ⊎ (n ≤ x) → choices_for x (rising_from ks 0 n) ≡ choices_for x ks
    go (inl l) = rising_has_all_for ks x 0 n (omega arith) (omega (arith, l))
    go (inr l) = rising_has_none_past ks x 0 n (omega (arith, l)) ∙ sym (none_past n x ks a l)

-- "the list holds the defined entries, each once": the entries, here; once, where numbers rise
pub rising_has_exactly : (n : ℕ) (ks : List Choice) → AllFor n ks → (k : Choice) → In k (rising_from ks 0 n) ↔ In k ks
rising_has_exactly n ks a k = (
  alike_have_the_same (rising_from ks 0 n) ks (rising_keeps_each n ks a) k,
  alike_have_the_same ks (rising_from ks 0 n) (λ x. sym (rising_keeps_each n ks a x)) k,
)

-- How many there are: a choice more is one more, where its expression is one of the n.
rising_nothing : (x n : ℕ) → rising_from [] x n ≡ []
unfolding rising_from choices_for
rising_nothing x zero = refl
rising_nothing x (suc n) = rising_nothing (x + 1) n

rising_later : (k : Choice) (ks : List Choice) (x n : ℕ) → k.expr < x → rising_from (k ∷ ks) x n ≡ rising_from ks x n
unfolding rising_from
rising_later k ks x zero l = refl
rising_later k ks x (suc n) l =
    ap₂ ◌++◌ (one_for_another x k ks (λ e. omega (arith, e, l))) (rising_later k ks (x + 1) n (omega (arith, l)))

one_more : (k : Choice) (ks : List Choice) (x n : ℕ) → x ≤ k.expr → k.expr < x + n
    → length (rising_from (k ∷ ks) x n) ≡ suc (length (rising_from ks x n))
unfolding rising_from
one_more k ks x zero l m = absurd (omega (arith, l, m))
one_more k ks x (suc n) l m = go (cases_eq k.expr x) (λ d. one_more k ks (x + 1) n (omega (arith, l, d)) (omega (arith, m)))
  where
    go : (k.expr ≡ x) ⊎ (k.expr ≡ x → ⊥)
        → ((k.expr ≡ x → ⊥) → length (rising_from (k ∷ ks) (x + 1) n) ≡ suc (length (rising_from ks (x + 1) n)))
        → length (choices_for x (k ∷ ks) ++ rising_from (k ∷ ks) (x + 1) n) ≡ suc (length (choices_for x ks ++ rising_from ks (x + 1) n))
    go (inl e) f = ap (λ (js : List Choice). length js) (ap₂ ◌++◌ (one_for x k ks e) (rising_later k ks (x + 1) n (omega (arith, e))))
    go (inr d) f =
        ap (λ js. length (js ++ rising_from (k ∷ ks) (x + 1) n)) (one_for_another x k ks d)
        ∙ omega (
          arith,
          length-append (choices_for x ks) (rising_from (k ∷ ks) (x + 1) n),
          length-append (choices_for x ks) (rising_from ks (x + 1) n),
          f d,
        )

pub length_rising : (n : ℕ) (ks : List Choice) → AllFor n ks → length (rising_from ks 0 n) ≡ length ks
length_rising n [] a = ap (λ (js : List Choice). length js) (rising_nothing 0 n)
length_rising n (k ∷ ks) (and_all _ _ l a) = one_more k ks 0 n (omega arith) (omega (arith, l)) ∙ ap suc (length_rising n ks a)

-- never more than there are, whatever they are for
at_most_one_more : (k : Choice) (ks : List Choice) (x n : ℕ) → length (rising_from (k ∷ ks) x n) ≤ suc (length (rising_from ks x n))
unfolding rising_from
at_most_one_more k ks x zero = omega arith
at_most_one_more k ks x (suc n) = go (cases_eq k.expr x) (at_most_one_more k ks (x + 1) n)
  where
    go : (k.expr ≡ x) ⊎ (k.expr ≡ x → ⊥) → length (rising_from (k ∷ ks) (x + 1) n) ≤ suc (length (rising_from ks (x + 1) n))
        → length (choices_for x (k ∷ ks) ++ rising_from (k ∷ ks) (x + 1) n) ≤ suc (length (choices_for x ks ++ rising_from ks (x + 1) n))
    go (inl e) h = rw (one_for x k ks e, rising_later k ks (x + 1) n (omega (arith, e))) (omega arith)
    go (inr d) h =
        rw (one_for_another x k ks d)
        (omega (
          arith,
          h,
          length-append (choices_for x ks) (rising_from (k ∷ ks) (x + 1) n),
          length-append (choices_for x ks) (rising_from ks (x + 1) n),
        ))

pub rising_no_longer : (ks : List Choice) (x n : ℕ) → length (rising_from ks x n) ≤ length ks
rising_no_longer [] x n = rw (rising_nothing x n) (omega arith)
rising_no_longer (k ∷ ks) x n = omega (arith, at_most_one_more k ks x n, rising_no_longer ks x n)

-- Where no two choices are for one expression: it rises.
at_most_one : (x : ℕ) (ks : List Choice) → no_two (map expr_of ks) ≡ true
    → (choices_for x ks ≡ []) ⊎ ((k : Choice) × (k.expr ≡ x) × (choices_for x ks ≡ k ∷ []))
unfolding choices_for
at_most_one x [] n = inl refl
at_most_one x (k ∷ ks) n = go (cases_eq k.expr x) (at_most_one x ks q.1)
  where
    q : (among k.expr (map expr_of ks) ≡ false) × (no_two (map expr_of ks) ≡ true)
    q = no_two_first k.expr (map expr_of ks) n

    AtMost : List Choice → Type 0
    AtMost js = (choices_for x js ≡ []) ⊎ ((j : Choice) × (j.expr ≡ x) × (choices_for x js ≡ j ∷ []))

    go : (k.expr ≡ x) ⊎ (k.expr ≡ x → ⊥) → AtMost ks → AtMost (k ∷ ks)
    go (inl e) h = inr (k, e, one_for x k ks e ∙ ap (λ js. k ∷ js) (none_for x ks (ap (λ y. among y (map expr_of ks)) (sym e) ∙ q.0)))
    go (inr d) (inl f) = inl (one_for_another x k ks d ∙ f)
    go (inr d) (inr f) = inr (f.0, f.1, one_for_another x k ks d ∙ f.2)

-- all that rise from x on are for x or later
own_from : (x : ℕ) (ks ls : List Choice) → All (λ y. x ≤ y) (map expr_of ls) → All (λ y. x ≤ y) (map expr_of (choices_for x ks ++ ls))
unfolding choices_for
own_from x [] ls a = a
own_from x (k ∷ ks) ls a = go (cases_eq k.expr x) (own_from x ks ls a)
  where
    go : (k.expr ≡ x) ⊎ (k.expr ≡ x → ⊥) → All (λ y. x ≤ y) (map expr_of (choices_for x ks ++ ls))
        → All (λ y. x ≤ y) (map expr_of (choices_for x (k ∷ ks) ++ ls))
    go (inl e) h =
        subst (λ js. All (λ y. x ≤ y) (map expr_of (js ++ ls))) (sym (one_for x k ks e))
        (and_all k.expr (map expr_of (choices_for x ks ++ ls)) (omega (arith, e)) h)
    go (inr d) h = subst (λ js. All (λ y. x ≤ y) (map expr_of (js ++ ls))) (sym (one_for_another x k ks d)) h

all_from : (ks : List Choice) (x n : ℕ) → All (λ y. x ≤ y) (map expr_of (rising_from ks x n))
unfolding rising_from
all_from ks x zero = none_left
all_from ks x (suc n) =
    own_from x ks (rising_from ks (x + 1) n)
    (all_weaker (λ y. x + 1 ≤ y) (λ y. x ≤ y) (λ y l. omega (arith, l)) (map expr_of (rising_from ks (x + 1) n)) (all_from ks (x + 1) n))

pub rising_rises : (ks : List Choice) → no_two (map expr_of ks) ≡ true → (x n : ℕ) → RisingNumbers (map expr_of (rising_from ks x n))
unfolding rising_from
rising_rises ks t x zero = no_numbers
rising_rises ks t x (suc n) = go (at_most_one x ks t) (rising_rises ks t (x + 1) n)
  where
    go : (choices_for x ks ≡ []) ⊎ ((k : Choice) × (k.expr ≡ x) × (choices_for x ks ≡ k ∷ []))
        → RisingNumbers (map expr_of (rising_from ks (x + 1) n)) → RisingNumbers (map expr_of (choices_for x ks ++ rising_from ks (x + 1) n))
    go (inl e) h = subst (λ js. RisingNumbers (map expr_of (js ++ rising_from ks (x + 1) n))) (sym e) h
    go (inr f) h =
        subst (λ js. RisingNumbers (map expr_of (js ++ rising_from ks (x + 1) n))) (sym f.2)
        (then_above f.0.expr (map expr_of (rising_from ks (x + 1) n))
        (all_weaker (λ y. x + 1 ≤ y) (λ y. f.0.expr < y) (λ y l. omega (arith, f.1, l)) (map expr_of (rising_from ks (x + 1) n))
        (all_from ks (x + 1) n)) h)

-- "With that the list no longer differs from one correct program to another": two lists that rise and have the same entries are one.
below_rest : (k : Choice) (ks : List Choice) → RisingNumbers (map expr_of (k ∷ ks)) → (j : Choice) → In j ks → k.expr < j.expr
below_rest k ks (then_above _ _ a r) j i = in_all (λ y. k.expr < y) j.expr (map expr_of ks) a (in_map expr_of j ks i)

rest_rises : (k : Choice) (ks : List Choice) → RisingNumbers (map expr_of (k ∷ ks)) → RisingNumbers (map expr_of ks)
rest_rises k ks (then_above _ _ a r) = r

pub only_one_rises : (ks ls : List Choice) → RisingNumbers (map expr_of ks) → RisingNumbers (map expr_of ls)
    → ((k : Choice) → In k ks ↔ In k ls) → ks ≡ ls
only_one_rises [] [] r s h = refl
only_one_rises [] (l ∷ ls) r s h = absurd (not_in_nothing l ((h l).1 (here ls)))
only_one_rises (k ∷ ks) [] r s h = absurd (not_in_nothing k ((h k).0 (here ks)))
only_one_rises (k ∷ ks) (l ∷ ls) r s h =
    ap₂ (λ j js. j ∷ js) same (only_one_rises ks ls (rest_rises k ks r) (rest_rises l ls s) (λ j. (there_too j, back_too j)))
  where
    first : (k ≡ l) ⊎ In k ls → (l ≡ k) ⊎ In l ks → k ≡ l
    first (inl e) _ = e
    first (inr i) (inl e) = sym e
    first (inr i) (inr j) = absurd (omega (arith, below_rest l ls s k i, below_rest k ks r l j))

    same : k ≡ l
    same = first (in_cases k l ls ((h k).0 (here ks))) (in_cases l k ks ((h l).1 (here ls)))

    not_first : (j m : Choice) (js : List Choice) → RisingNumbers (map expr_of (m ∷ js)) → In j js → j ≡ m → ⊥
    not_first j m js t i e = let q : j.expr ≡ m.expr = ap expr_of e in omega (arith, q, below_rest m js t j i)

    there_too : (j : Choice) → In j ks → In j ls
    there_too j i = go (in_cases j l ls ((h j).0 (there k ks i)))
      where
        go : (j ≡ l) ⊎ In j ls → In j ls
        go (inl e) = absurd (not_first j k ks r i (e ∙ sym same))
        go (inr m) = m

    back_too : (j : Choice) → In j ls → In j ks
    back_too j i = go (in_cases j k ks ((h j).1 (there l ls i)))
      where
        go : (j ≡ k) ⊎ In j ks → In j ks
        go (inl e) = absurd (not_first j l ls s i (e ∙ same))
        go (inr m) = m

-- Computed: of four expressions, disjunctions for the last two come before one for the first.
abbrev four_expressions : Problem
four_expressions = record { constraints = []; overloads = []; sources = []; exprs = 0 ∷ 0 ∷ 0 ∷ 0 ∷ []; default = 0 }

pub out_of_order_they_rise : rising four_expressions (choice 2 0 ∷ choice 3 2 ∷ choice 0 1 ∷ []) ≡ choice 0 1 ∷ choice 2 0 ∷ choice 3 2 ∷ []
unfolding rising_from choices_for
out_of_order_they_rise = refl
