-- The order of two heads and the steps between them, by what the tests of family and level say. Assumes nothing.
use mathlib.Core.Path.{◌≡◌, refl, sym, ap, ◌∙◌}
use mathlib.Core.Bool.{Bool, true, false}
use Prim.Native.Nat.{ℕ, ◌-◌, ◌<◌, ◌≤◌}
use native.Mathlib.Omega.{arith}
use lib.Dec.{eqb, leb, ltb}
use borrow.Author.Tests.{eqb-true, eqb-false, eq-eqb, ne_eqb, ltb-true, ltb-false, le-leb, lt-leb, leb-true}
use Rattle.std.specs.Prelude.{Option, Some, None}
use Rattle.std.specs.Option.{SomeIff}
use Rattle.std.specs.Ordering.{nat_cmp}
use Rattle.std.specs.declared.cmp.Ordering.{Ordering}
use Rattle.resolved_sort.specs.Order.{ordering_of}
use Rattle.sort_order.specs.Heads.{heads_ordering, heads_steps}

leb_false : (l m : ℕ) → (l ≤ m → ⊥) → leb l m ≡ false
leb_false l m h = go (leb l m) refl
  where
    go : (p : Bool) → leb l m ≡ p → leb l m ≡ false
    go true e = absurd (h (leb-true l m e))
    go false e = e

pub cmp_is : (l m : ℕ) → Some (nat_cmp l m) ≡ ordering_of (leb l m) (leb m l)
cmp_is l m = go (ltb l m) (eqb l m) refl refl
  where
    go : (p q : Bool) → ltb l m ≡ p → eqb l m ≡ q → Some (nat_cmp l m) ≡ ordering_of (leb l m) (leb m l)
    go true q e f = let h = ltb-true l m e in rw (e, le-leb l m (omega arith), lt-leb m l h)
    go false true e f = let h = eqb-true l m f in rw (e, f, le-leb l m (omega arith), le-leb m l (omega arith))
    go false false e f =
        let h = ltb-false l m e in
        let d = eqb-false l m f in
        let g : m < l = omega arith in
        rw (e, f, le-leb m l (omega arith), lt-leb l m g)

module _ {H : Type 0} (family level : H → ℕ) (a b : H) (x y : ℕ) (ex : x ≡ family a) (ey : y ≡ family b) where
  same_family : x ≡ y → eqb (family a) (family b) ≡ true
  same_family e = eq-eqb (family a) (family b) (sym ex ∙ (e ∙ ey))

  module _ (f : x ≡ y → ⊥) where
    other_family : eqb (family a) (family b) ≡ false
    other_family = ne_eqb (family a) (family b) (λ e. f (ex ∙ (e ∙ sym ey)))

    pub no_ordering : None ≡ heads_ordering family level a b
    unfolding heads_ordering
    no_ordering = rw other_family

    pub no_steps : None ≡ heads_steps family level a b
    unfolding heads_steps
    no_steps = rw other_family

  module _ (e : x ≡ y) (l m : ℕ) (el : l ≡ level a) (em : m ≡ level b) where
    pub ordering_by_levels : (o : Ordering) → o ≡ nat_cmp l m → Some o ≡ heads_ordering family level a b
    unfolding heads_ordering
    ordering_by_levels o eo = rw (same_family e, ← el, ← em) (ap Some eo ∙ cmp_is l m)

    pub steps_by_levels : (o : Option ℕ) → SomeIff o (l ≤ m) (m - l) → o ≡ heads_steps family level a b
    unfolding heads_steps
    steps_by_levels None h = rw (same_family e, ← el, ← em, leb_false l m h)
    steps_by_levels (Some k) h = rw (same_family e, ← el, ← em, le-leb l m h.0) (ap Some h.1)
