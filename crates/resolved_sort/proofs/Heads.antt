-- Heads in families and levels, once for flat sorts and container operators: their order, and the bound of two of them.
-- A test is read as an equation of families and an order of levels, and the rest is arithmetic. Assumes nothing.
use mathlib.Core.Path.{◌≡◌, refl, sym, ap, ap₂, ◌∙◌}
use mathlib.Core.Bool.{Bool, true, false, cond, not, ◌&&◌, and-eq-true_iff}
use mathlib.Core.Option.{Option, none, some}
use mathlib.Core.Logic.{◌↔◌}
use Prim.Native.Nat.{ℕ, ◌+◌, ◌*◌, ◌-◌, ◌/◌, ◌%◌, ◌≤◌}
use native.Mathlib.Omega.{arith}
use lib.Dec.{eqb}
use borrow.Author.Tests.{eqb-true, eqb-false, leb-true, leb-false, eq-eqb, ne_eqb, le-leb}
use Rattle.resolved_sort.specs.declared.Sort.{Sort}
use Rattle.resolved_sort.specs.declared.ComplexSort.{ComplexSort}
use Rattle.resolved_sort.specs.Tree.{Flat, unit, primitive, def, typevar, family, level, family_op, level_op, same_flat, same_op_of}
use Rattle.resolved_sort.specs.Order.{le_level, le_flat, le_op, bound_flat, bound_op}
use Rattle.resolved_sort.proofs.Least.{LeastBound}

-- A level at or beyond another in a direction.
abbrev pub Reaches : Bool → ℕ → ℕ → Type 0
Reaches true l m = l ≤ m
Reaches false l m = m ≤ l

reaches_exactly : (up : Bool) (l m : ℕ) → (le_level up l m ≡ true) ↔ Reaches up l m
reaches_exactly true l m = (leb-true l m, le-leb l m)
reaches_exactly false l m = (leb-true m l, le-leb m l)

reaches_refl : (up : Bool) (l : ℕ) → Reaches up l l
reaches_refl true l = omega arith
reaches_refl false l = omega arith

reaches_trans : (up : Bool) (l m n : ℕ) → Reaches up l m → Reaches up m n → Reaches up l n
reaches_trans true l m n h k = omega arith
reaches_trans false l m n h k = omega arith

reaches_antisym : (up : Bool) (l m : ℕ) → Reaches up l m → Reaches up m l → l ≡ m
reaches_antisym true l m h k = omega arith
reaches_antisym false l m h k = omega arith

reaches_total : (up : Bool) (l m : ℕ) → le_level up l m ≡ false → Reaches up m l
reaches_total true l m e = omega (arith, leb-false l m e)
reaches_total false l m e = omega (arith, leb-false m l e)

level_flips : (up : Bool) (l m : ℕ) → le_level up l m ≡ le_level (not up) m l
level_flips true l m = refl
level_flips false l m = refl

eqb_flips : (m n : ℕ) → eqb m n ≡ eqb n m
eqb_flips m n = go (eqb m n) refl (eqb n m) refl
  where
    go : (x : Bool) → eqb m n ≡ x → (y : Bool) → eqb n m ≡ y → x ≡ y
    go true e true f = refl
    go true e false f = absurd (eqb-false n m f (sym (eqb-true m n e)))
    go false e true f = absurd (eqb-false m n e (sym (eqb-true n m f)))
    go false e false f = refl

-- `le_flat` and `le_op`, `bound_flat` and `bound_op`, over any heads with families and levels.
abbrev pub le_head : {A : Type 0} → (A → ℕ) → (A → ℕ) → Bool → A → A → Bool
le_head family level up a b = eqb (family a) (family b) && le_level up (level a) (level b)

abbrev pub bound_head : {A : Type 0} → (A → ℕ) → (A → ℕ) → Bool → A → A → Option A
bound_head family level up a b = cond (eqb (family a) (family b)) (some (cond (le_level up (level a) (level b)) b a)) none

module _ {A : Type 0} (family level : A → ℕ) (up : Bool) where
  pub head_exactly : (a b : A) → (le_head family level up a b ≡ true) ↔ ((family a ≡ family b) × Reaches up (level a) (level b))
  head_exactly a b = (
    λ e. let h = (and-eq-true_iff _ _).0 e in (eqb-true _ _ h.0, (reaches_exactly up _ _).0 h.1),
    λ h. (and-eq-true_iff _ _).1 (eq-eqb _ _ h.0, (reaches_exactly up _ _).1 h.1),
  )

  pub head_refl : (a : A) → le_head family level up a a ≡ true
  head_refl a = (head_exactly a a).1 (refl, reaches_refl up (level a))

  pub head_trans : (a b c : A) → le_head family level up a b ≡ true → le_head family level up b c ≡ true → le_head family level up a c ≡ true
  head_trans a b c e f =
      let h = (head_exactly a b).0 e in
      let k = (head_exactly b c).0 f in
      (head_exactly a c).1 (h.0 ∙ k.0, reaches_trans up _ _ _ h.1 k.1)

  pub head_flips : (a b : A) → le_head family level up a b ≡ le_head family level (not up) b a
  head_flips a b = ap₂ ◌&&◌ (eqb_flips (family a) (family b)) (level_flips up (level a) (level b))

  pub head_antisym : ((a b : A) → family a ≡ family b → level a ≡ level b → a ≡ b) → (a b : A)
      → le_head family level up a b ≡ true → le_head family level up b a ≡ true → a ≡ b
  head_antisym injective a b e f =
      let h = (head_exactly a b).0 e in
      let k = (head_exactly b a).0 f in
      injective a b h.0 (reaches_antisym up _ _ h.1 k.1)

  pub head_bound : (a b : A) → LeastBound (λ a b. le_head family level up a b ≡ true) a b (bound_head family level up a b)
  head_bound a b = go (eqb (family a) (family b)) refl (le_level up (level a) (level b)) refl
    where
      go : (x : Bool) → eqb (family a) (family b) ≡ x → (y : Bool) → le_level up (level a) (level b) ≡ y
          → LeastBound (λ a b. le_head family level up a b ≡ true) a b (cond x (some (cond y b a)) none)
      go false e y f = λ c p. eqb-false _ _ e (((head_exactly a c).0 p.0).0 ∙ sym ((head_exactly b c).0 p.1).0)
      go true e true f = ((rw (e, f), head_refl b), λ c p. p.1)
      go true e false f = ((head_refl a, (head_exactly b a).1 (sym (eqb-true _ _ e), reaches_total up _ _ f)), λ c p. p.0)

-- Family and level determine the head: it can be computed from them.
number : ℕ → Sort
number l = cond (eqb l 0) Sort.Pos (cond (eqb l 1) Sort.Nat (cond (eqb l 2) Sort.Int Sort.Real))

flat_at : ℕ → ℕ → Flat
flat_at f l =
    cond (eqb f 0) unit
    (cond (eqb f 1) (primitive Sort.Bool)
    (cond (eqb f 2) (primitive (number l)) (cond (eqb (f % 2) 1) (def ((f - 3) / 2)) (typevar ((f - 4) / 2)))))

op_at : ℕ → ℕ → ComplexSort
op_at f l =
    cond (eqb f 0) ComplexSort.List
    (cond (eqb f 1) (cond (eqb l 0) ComplexSort.FSet ComplexSort.Set) (cond (eqb l 0) ComplexSort.FBag ComplexSort.Bag))

flat_at_inverse : (a : Flat) → flat_at (family a) (level a) ≡ a
unfolding flat_at number family level
flat_at_inverse unit = refl
flat_at_inverse (primitive Sort.Bool) = refl
flat_at_inverse (primitive Sort.Pos) = refl
flat_at_inverse (primitive Sort.Nat) = refl
flat_at_inverse (primitive Sort.Int) = refl
flat_at_inverse (primitive Sort.Real) = refl
flat_at_inverse (def n) =
    simp (ne_eqb (2 * n + 3) 0 (omega arith), ne_eqb (2 * n + 3) 1 (omega arith), ne_eqb (2 * n + 3) 2 (omega arith), eq-eqb ((2 * n + 3) % 2) 1 (omega arith))
    (ap def (omega arith))
flat_at_inverse (typevar n) =
    simp (ne_eqb (2 * n + 4) 0 (omega arith), ne_eqb (2 * n + 4) 1 (omega arith), ne_eqb (2 * n + 4) 2 (omega arith), ne_eqb ((2 * n + 4) % 2) 1 (omega arith))
    (ap typevar (omega arith))

op_at_inverse : (o : ComplexSort) → op_at (family_op o) (level_op o) ≡ o
unfolding op_at family_op level_op
op_at_inverse ComplexSort.List = refl
op_at_inverse ComplexSort.Set = refl
op_at_inverse ComplexSort.FSet = refl
op_at_inverse ComplexSort.Bag = refl
op_at_inverse ComplexSort.FBag = refl

pub flat_injective : (a b : Flat) → family a ≡ family b → level a ≡ level b → a ≡ b
flat_injective a b e f = sym (flat_at_inverse a) ∙ ap₂ flat_at e f ∙ flat_at_inverse b

pub op_injective : (o p : ComplexSort) → family_op o ≡ family_op p → level_op o ≡ level_op p → o ≡ p
op_injective o p e f = sym (op_at_inverse o) ∙ ap₂ op_at e f ∙ op_at_inverse p

pub flat_bound : (up : Bool) (a b : Flat) → LeastBound (λ a b. le_flat up a b ≡ true) a b (bound_flat up a b)
unfolding bound_flat
flat_bound up = head_bound family level up

pub op_bound : (up : Bool) (o p : ComplexSort) → LeastBound (λ o p. le_op up o p ≡ true) o p (bound_op up o p)
unfolding bound_op
op_bound up = head_bound family_op level_op up

-- The test for equal heads is exact.
module _ {A : Type 0} (family level : A → ℕ) (injective : (a b : A) → family a ≡ family b → level a ≡ level b → a ≡ b) where
  pub same_head : (a b : A) → ((eqb (family a) (family b) && eqb (level a) (level b)) ≡ true) ↔ (a ≡ b)
  same_head a b = (
    λ e. let h = (and-eq-true_iff _ _).0 e in injective a b (eqb-true _ _ h.0) (eqb-true _ _ h.1),
    λ e. rw (eq-eqb (family a) (family b) (ap family e), eq-eqb (level a) (level b) (ap level e)),
  )

pub same_flat_lem : (a b : Flat) → (same_flat a b ≡ true) ↔ (a ≡ b)
same_flat_lem = same_head family level flat_injective

pub same_op : (o p : ComplexSort) → (same_op_of o p ≡ true) ↔ (o ≡ p)
same_op = same_head family_op level_op op_injective
