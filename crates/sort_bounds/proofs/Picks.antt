-- Of two heads, what the tests of family and level pick is what the definition picks. Assumes nothing.
use mathlib.Core.Path.{◌≡◌, sym, ◌∙◌}
use mathlib.Core.Bool.{Bool, true, false}
use Prim.Native.Nat.{ℕ}
use lib.Dec.{eqb}
use borrow.Author.Tests.{eq-eqb, ne_eqb}
use Rattle.std.specs.Prelude.{Some, None}
use Rattle.resolved_sort.specs.Order.{le_level}
use Rattle.sort_bounds.specs.Farther.{farther}

module _ {H T : Type 0} (family level : H → ℕ) (up : Bool) (a b : H) (s t : T) (x y : ℕ) (ex : x ≡ family a) (ey : y ≡ family b) where
  pub picks_none : (x ≡ y → ⊥) → None ≡ farther family level up a b s t
  unfolding farther
  picks_none n = rw (ne_eqb (family a) (family b) (λ e. n (ex ∙ (e ∙ sym ey))))

  module _ (e : x ≡ y) (l m : ℕ) (el : l ≡ level a) (em : m ≡ level b) {r : Bool} (er : r ≡ le_level up l m) where
    same_family : eqb (family a) (family b) ≡ true
    same_family = eq-eqb (family a) (family b) (sym ex ∙ (e ∙ ey))

    test_is : le_level up (level a) (level b) ≡ r
    test_is = rw (er, el, em)

    pub picks_far : r ≡ true → Some t ≡ farther family level up a b s t
    unfolding farther
    picks_far h = rw (same_family, test_is, h)

    pub picks_near : r ≡ false → Some s ≡ farther family level up a b s t
    unfolding farther
    picks_near h = rw (same_family, test_is, h)
