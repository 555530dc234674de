-- The least of what has a property, as an answer that may be none: there is at most one, and how those of two parts, and of
-- three elements, are made. For any relation; what a law asks of it is a parameter. Assumes nothing else.
use mathlib.Core.Path.{◌≡◌, refl, ap}
use mathlib.Core.Option.{Option, none, some, bind}
use mathlib.Core.Logic.{◌↔◌}
use Rattle.resolved_sort.specs.Order.{map₂}

abbrev pub Least : {A : Type 0} → (A → A → Type 0) → (A → Type 0) → Option A → Type 0
Least R P none = (c : _) → P c → ⊥
Least R P (some u) = P u × ((c : _) → P c → R u c)

-- The least bound of two.
abbrev pub LeastBound : {A : Type 0} → (A → A → Type 0) → A → A → Option A → Type 0
LeastBound R a b = Least R (λ c. R a c × R b c)

module _ {A : Type 0} (R : A → A → Type 0) where
  pub least_of_same : (P Q : A → Type 0) → ((c : A) → P c → Q c) → ((c : A) → Q c → P c) → (x : Option A) → Least R P x → Least R Q x
  least_of_same P Q to back none h = λ c q. h c (back c q)
  least_of_same P Q to back (some u) h = (to u h.0, λ c q. h.1 c (back c q))

  pub least_unique : ((a b : A) → R a b → R b a → a ≡ b) → (P : A → Type 0) (x y : Option A) → Least R P x → Least R P y → x ≡ y
  least_unique antisym P none none h k = refl
  least_unique antisym P none (some v) h k = absurd (h v k.0)
  least_unique antisym P (some u) none h k = absurd (k u h.0)
  least_unique antisym P (some u) (some v) h k = ap some (antisym u v (h.1 v k.0) (k.1 u h.0))

  -- the least bound of three, by way of a bound of two
  pub least_of_three : ((a b c : A) → R a b → R b c → R a c) → (a b c : A) (x : Option A) (f : A → Option A)
      → LeastBound R a b x → ((d : A) → LeastBound R d c (f d)) → Least R (λ d. R a d × R b d × R c d) (bind x f)
  unfolding bind
  least_of_three trans a b c none f h k = λ d p. h d (p.0, p.1)
  least_of_three trans a b c (some u) f h k = least_of_same _ _ to back (f u) (k u)
    where
      to : (d : A) → R u d × R c d → R a d × R b d × R c d
      to d p = (trans a u d h.0.0 p.0, trans b u d h.0.1 p.0, p.1)

      back : (d : A) → R a d × R b d × R c d → R u d × R c d
      back d p = (h.1 d (p.0, p.1), p.2)

-- the same under a relation that says the same
pub least_moves : {A : Type 0} (R S : A → A → Type 0) → ((a b : A) → S a b ↔ R a b) → (a b : A) (x : Option A) → LeastBound R a b x → LeastBound S a b x
least_moves R S same a b none h = λ c p. h c ((same a c).0 p.0, (same b c).0 p.1)
least_moves R S same a b (some u) h =
    (((same a u).1 h.0.0, (same b u).1 h.0.1), λ c p. (same u c).1 (h.1 c ((same a c).0 p.0, (same b c).0 p.1)))

-- Of two parts, where the whole is ordered as they are.
module _ {A B C : Type 0} (R : A → A → Type 0) (S : B → B → Type 0) (T : C → C → Type 0) (make : A → B → C)
    (together : (a c : A) (b d : B) → R a c → S b d → T (make a b) (make c d))
    (under : (a a' : A) (b b' : B) (w : C) → T (make a b) w → T (make a' b') w → (c : A) × (d : B) × (w ≡ make c d) × (R a c × R a' c) × (S b d × S b' d)) where
  pub least_of_two : (a a' : A) (b b' : B) (x : Option A) (y : Option B) → LeastBound R a a' x → LeastBound S b b' y
      → LeastBound T (make a b) (make a' b') (map₂ make x y)
  least_of_two a a' b b' none y h k = λ w p. let z = under a a' b b' w p.0 p.1 in h z.0 z.3
  least_of_two a a' b b' (some u) none h k = λ w p. let z = under a a' b b' w p.0 p.1 in k z.1 z.4
  least_of_two a a' b b' (some u) (some v) h k = (
    (together a u b v h.0.0 k.0.0, together a' u b' v h.0.1 k.0.1),
    λ w p. let z = under a a' b b' w p.0 p.1 in rw z.2 (together u z.0 v z.1 (h.1 z.0 z.3) (k.1 z.1 z.4)),
  )
