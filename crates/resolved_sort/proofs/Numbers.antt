-- Numbers and sorts of a list in which no two sorts are equal: each determines the other. By induction on the list.
-- Assumes nothing.
use mathlib.Core.Path.{◌≡◌, refl, sym, ◌∙◌, ap}
use mathlib.Core.Bool.{Bool, true, false, cond, not, ◌||◌, and-eq-true_iff}
use mathlib.Core.List.{List, [], ◌∷◌, ◌++◌}
use Prim.Native.Nat.{ℕ, zero, suc, ◌+◌, ◌<◌}
use native.Mathlib.Omega.{arith}
use native.Mathlib.Numerals.{add-one}
use lib.ListN.{length, get_or-append}
use borrow.Author.Tests.{not-true}
use Rattle.std.proofs.lemmas.Bool.{or_right, or_parts}
use Rattle.resolved_sort.specs.Tree.{Tree, flat, unit, same}
use Rattle.resolved_sort.specs.Interning.{look, number, member, distinct}
use Rattle.resolved_sort.specs.Rows.{first_from}
use Rattle.resolved_sort.proofs.Same.{same_exactly}

-- no value is both true and false
pub true_not_false : (b : Bool) → b ≡ true → b ≡ false → ⊥
true_not_false b t f = let z : ◌≡◌ {A = ℕ} 0 1 = cc in omega arith

pub same_refl : (t : Tree) → same t t ≡ true
same_refl t = (same_exactly t t).1 refl

-- a member stands at its number
look_step : (s t : Tree) (T : List Tree) (b : Bool) → same s t ≡ b → (b || member T t) ≡ true → (member T t ≡ true → look T (number T t) ≡ t)
    → look (s ∷ T) (cond b 0 (number T t + 1)) ≡ t
unfolding look
look_step s t T true e m ih = (same_exactly s t).0 e
look_step s t T false e m ih = rw add-one (ih m)

pub look_number : (T : List Tree) (t : Tree) → member T t ≡ true → look T (number T t) ≡ t
unfolding number member
look_number [] t e = absurd (true_not_false false e refl)
look_number (s ∷ T) t e = look_step s t T (same s t) refl e (look_number T t)

below_step : (b : Bool) (n l : ℕ) (m : Bool) → (b || m) ≡ true → (m ≡ true → n < l) → cond b 0 (n + 1) < suc l
below_step true n l m e h = omega arith
below_step false n l m e h = omega (arith, h e)

pub number_below : (T : List Tree) (t : Tree) → member T t ≡ true → number T t < length T
unfolding number member
number_below [] t e = absurd (true_not_false false e refl)
number_below (s ∷ T) t e = below_step (same s t) (number T t) (length T) (member T t) e (number_below T t)

-- what is no member has the list's length for a number
past_step : (b : Bool) (n l : ℕ) (m : Bool) → (b || m) ≡ false → (m ≡ false → n ≡ l) → cond b 0 (n + 1) ≡ suc l
past_step true n l m e h = absurd (true_not_false true refl e)
past_step false n l m e h = omega (arith, h e)

pub number_past : (T : List Tree) (t : Tree) → member T t ≡ false → number T t ≡ length T
unfolding number member
number_past [] t e = refl
number_past (s ∷ T) t e = past_step (same s t) (number T t) (length T) (member T t) e (number_past T t)

-- what stands in the list is a member
pub member_look : (T : List Tree) (i : ℕ) → i < length T → member T (look T i) ≡ true
unfolding look member
member_look [] i h = absurd (omega arith)
member_look (s ∷ T) zero h = rw (same_refl s)
member_look (s ∷ T) (suc i) h = or_right (same s (look T i)) (member T (look T i)) (member_look T i (omega arith))

member_of_other : (s : Tree) (T : List Tree) (t : Tree) → member T t ≡ true → member T s ≡ false → (b : Bool) → same s t ≡ b → b ≡ false
member_of_other s T t m n false e = refl
member_of_other s T t m n true e = absurd (true_not_false (member T s) (rw ((same_exactly s t).0 e) m) n)

-- two equal sorts have one number
pub number_look : (T : List Tree) (i : ℕ) → distinct T ≡ true → i < length T → number T (look T i) ≡ i
unfolding look number distinct
number_look [] i d h = absurd (omega arith)
number_look (s ∷ T) zero d h = rw (same_refl s)
number_look (s ∷ T) (suc i) d h =
    let p = (and-eq-true_iff (not (member T s)) (distinct T)).0 d in
    let l : i < length T = omega arith in
    let o : same s (look T i) ≡ false = member_of_other s T (look T i) (member_look T i l) (not-true (member T s) p.0) (same s (look T i)) refl in
    rw o (omega (arith, number_look T i p.1 l))

pub look_injective : (T : List Tree) (i j : ℕ) → distinct T ≡ true → i < length T → j < length T → look T i ≡ look T j → i ≡ j
look_injective T i j d h k e = sym (number_look T i d h) ∙ (ap (number T) e ∙ number_look T j d k)

-- longer lists
grow_step : (b m n : Bool) → (b || m) ≡ true → (m ≡ true → n ≡ true) → (b || n) ≡ true
grow_step true m n e h = refl
grow_step false m n e h = h e

pub member_grows : (T U : List Tree) (t : Tree) → member T t ≡ true → member (T ++ U) t ≡ true
unfolding member
member_grows [] U t e = absurd (true_not_false false e refl)
member_grows (s ∷ T) U t e = grow_step (same s t) (member T t) (member (T ++ U) t) e (member_grows T U t)

keep_step : (b : Bool) (n k : ℕ) (m : Bool) → (b || m) ≡ true → (m ≡ true → n ≡ k) → cond b 0 (n + 1) ≡ cond b 0 (k + 1)
keep_step true n k m e h = refl
keep_step false n k m e h = rw (h e)

pub number_grows : (T U : List Tree) (t : Tree) → member T t ≡ true → number (T ++ U) t ≡ number T t
unfolding number member
number_grows [] U t e = absurd (true_not_false false e refl)
number_grows (s ∷ T) U t e = keep_step (same s t) (number (T ++ U) t) (number T t) (member T t) e (number_grows T U t)

pub look_grows : (T U : List Tree) (i : ℕ) → i < length T → look (T ++ U) i ≡ look T i
unfolding look
look_grows T U i h = get_or-append T U (flat unit) i h

pub member_snoc : (T : List Tree) (s t : Tree) → member T t ≡ false → same s t ≡ false → member (T ++ (s ∷ [])) t ≡ false
unfolding member
member_snoc [] s t m e = rw e
member_snoc (r ∷ T) s t m e = let h = or_parts (same r t) (member T t) m in rw (h.0, member_snoc T s t h.1 e)

pub same_sym : (s t : Tree) → same s t ≡ false → same t s ≡ false
same_sym s t e = go (same t s) refl
  where
    go : (b : Bool) → same t s ≡ b → b ≡ false
    go false p = refl
    go true p = absurd (true_not_false (same s t) ((same_exactly s t).1 (sym ((same_exactly t s).0 p))) e)

pub member_snoc_last : (T : List Tree) (t : Tree) → member (T ++ (t ∷ [])) t ≡ true
unfolding member
member_snoc_last [] t = rw (same_refl t)
member_snoc_last (s ∷ T) t = or_right (same s t) (member (T ++ (t ∷ [])) t) (member_snoc_last T t)

-- a new sort has the list's length for a number
pub number_snoc : (T : List Tree) (t : Tree) → member T t ≡ false → number (T ++ (t ∷ [])) t ≡ length T
unfolding number member
number_snoc [] t m = rw (same_refl t)
number_snoc (s ∷ T) t m = past_step (same s t) (number (T ++ (t ∷ [])) t) (length T) (member T t) m (number_snoc T t)

pub distinct_snoc : (T : List Tree) (t : Tree) → distinct T ≡ true → member T t ≡ false → distinct (T ++ (t ∷ [])) ≡ true
unfolding distinct member
distinct_snoc [] t d m = refl
distinct_snoc (s ∷ T) t d m =
    let p = (and-eq-true_iff (not (member T s)) (distinct T)).0 d in
    let h = or_parts (same s t) (member T t) m in
    rw (member_snoc T t s (not-true (member T s) p.0) (same_sym s t h.0), distinct_snoc T t p.1 h.1)

-- a number is the first place of the list that a test finds, where the test finds exactly the places of the sort
first_step : (b : Bool) (i f n : ℕ) → f ≡ n + (i + 1) → cond b i f ≡ cond b 0 (n + 1) + i
first_step true i f n e = omega arith
first_step false i f n e = omega arith

pub first_is_number : (T : List Tree) (t : Tree) (p : ℕ → Bool) (i : ℕ) → ((x : ℕ) → x < length T → p (i + x) ≡ same (look T x) t)
    → first_from p (length T) i ≡ number T t + i
unfolding first_from number look
first_is_number [] t p i h = omega arith
first_is_number (s ∷ T) t p i h =
    let e : p i ≡ same s t = ap p (omega arith) ∙ h 0 (omega arith) in
    let k : (x : ℕ) → x < length T → p (i + 1 + x) ≡ same (look T x) t = λ x l. ap p (omega arith) ∙ h (suc x) (omega arith) in
    rw e (first_step (same s t) i (first_from p (length T) (i + 1)) (number T t) (first_is_number T t p (i + 1) k))
