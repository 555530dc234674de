-- Where each variable has a number that falls to every variable of what it is bound to, the numbers can be taken at most as many as there are
-- variables (how many have a smaller number), and so ranks are bounded by the ceilings. Assumes nothing.
use mathlib.Core.Path.{◌≡◌, refl, ap}
use mathlib.Core.List.{List, [], ◌∷◌}
use mathlib.Core.Option.{Option, none, some}
use mathlib.Core.Bool.{Bool, true, false, cond}
use Prim.Native.Nat.{ℕ, zero, suc, ◌+◌, ◌*◌, ◌<◌, ◌≤◌, min}
use native.Mathlib.Omega.{arith}
use native.Mathlib.Nat.{mul-le-mul_right}
use native.Mathlib.Decide.{ℕ_discrete}
use lib.Dec.{ltb}
use borrow.Author.Tests.{ltb-true, lt-ltb, le-ltb}
use Rattle.unification.specs.Term.{Shape, variable, over}
use Rattle.unification.specs.Nodes.{Binds, binding}
use Rattle.unification.specs.Acyclic.{One, first, later, Stands, at, within, Numbering, Lower}
use Rattle.unification.proofs.Rank.{highest, rank_bound, rank_at, rank, Ranked}

-- how many of the first n have a number below x
below : (ℕ → ℕ) → ℕ → ℕ → ℕ
below g zero x = 0
below g (suc k) x = cond (ltb (g k) x) 1 0 + below g k x

one_or_none : (b : Bool) → cond b 1 0 ≤ 1
one_or_none true = omega arith
one_or_none false = omega arith

below_few : (g : ℕ → ℕ) (n x : ℕ) → below g n x ≤ n
unfolding below
below_few g zero x = omega arith
below_few g (suc n) x = omega (arith, below_few g n x, one_or_none (ltb (g n) x))

one_rises : (a x y : ℕ) (b : Bool) → ltb a x ≡ b → x ≤ y → cond b 1 0 ≤ cond (ltb a y) 1 0
one_rises a x y true e l = rw (lt-ltb a y (omega (arith, ltb-true a x e, l))) (omega arith)
one_rises a x y false e l = omega arith

below_rises : (g : ℕ → ℕ) (n x y : ℕ) → x ≤ y → below g n x ≤ below g n y
unfolding below
below_rises g zero x y l = omega arith
below_rises g (suc n) x y l = omega (arith, below_rises g n x y l, one_rises (g n) x y (ltb (g n) x) refl l)

below_strict : (g : ℕ → ℕ) (n u y : ℕ) → u < n → g u < y → below g n (g u) < below g n y
unfolding below
below_strict g zero u y l h = absurd (omega (arith, l))
below_strict g (suc n) u y l h = go (ℕ_discrete u n) (below_strict g n u y)
  where
    go : Dec (u ≡ n) → (u < n → g u < y → below g n (g u) < below g n y) → below g (suc n) (g u) < below g (suc n) y
    go (yes i) ih =
        let a : ltb (g n) (g u) ≡ false = le-ltb (g n) (g u) (omega (arith, ap g i)) in
        let b : ltb (g n) y ≡ true = lt-ltb (g n) y (omega (arith, ap g i, h)) in
        rw (a, b) (omega (arith, below_rises g n (g u) y (omega (arith, h))))
    go (no d) ih = omega (arith, ih (omega (arith, l, d)) h, one_rises (g n) (g u) y (ltb (g n) (g u)) refl (omega (arith, h)))

module _ (shape : ℕ → Shape) (n : ℕ) (scoped : (p v : ℕ) → shape p ≡ variable v → v < n) where
  pub stands_scoped : (u p : ℕ) → Stands shape u p → u < n
  stands_scoped u _ (at p e) = scoped p u e
  stands_scoped u _ (within p q h ps e o s) = stands_scoped u q s

  -- numbers of any size can be taken at most n
  pub numbered : (B : Binds) (number : ℕ → ℕ) → ((v q u : ℕ) → binding B v ≡ some q → Stands shape u q → number u < number v) → Numbering shape n B
  numbered B number f =
      record {
        number = λ v. below number n (number v);
        few = λ v. below_few number n (number v);
        falls = λ v q u e s. below_strict number n u (number v) (stands_scoped u q s) (f v q u e s);
      }

highest_below : (g : ℕ → ℕ) (c : ℕ) (ps : List ℕ) → ((q : ℕ) → One q ps → g q < c) → highest g ps ≤ c
highest_below g c [] h = omega arith
highest_below g c (p ∷ ps) h = omega (arith, h p (first ps), highest_below g c ps (λ q o. h q (later p ps o)))

module _ (shape : ℕ → Shape) (K : ℕ) (lower : Lower shape K) (n : ℕ) (B : Binds) (N : Numbering shape n B) where
  rank_bounded : (k p m : ℕ) → ((u : ℕ) → Stands shape u p → N.number u < m) → rank shape k B p ≤ m * suc K + min p K
  unfolding rank
  rank_bounded zero p m h = omega arith
  rank_bounded (suc k) p m h = go (shape p) refl (rank_bounded k)
    where
      bound : (v : ℕ) (o : Option ℕ) → shape p ≡ variable v → binding B v ≡ o
          → ((q m : ℕ) → ((u : ℕ) → Stands shape u q → N.number u < m) → rank shape k B q ≤ m * suc K + min q K)
          → rank_bound (rank shape k B) o ≤ m * suc K + min p K
      bound v none s e ih = omega arith
      bound v (some q) s e ih =
          let a = ih q (N.number v) (λ u t. N.falls v q u e t) in
          let b : suc (N.number v) ≤ m = h v (at p s) in
          omega (arith, a, mul-le-mul_right (suc K) b)

      go : (s : Shape) → shape p ≡ s → ((q m : ℕ) → ((u : ℕ) → Stands shape u q → N.number u < m) → rank shape k B q ≤ m * suc K + min q K)
          → rank_at (rank shape k B) B s ≤ m * suc K + min p K
      go (variable v) s ih = bound v (binding B v) s refl ih
      go (over g ps) s ih =
          highest_below (rank shape k B) (m * suc K + min p K) ps
          (λ q o. let l = lower p q g ps s o in omega (arith, ih q m (λ u t. h u (within p q g ps s o t)), l.0, l.1))

  pub numbered_ranked : (w : ℕ) → suc n * suc K + K < w → Ranked shape w B
  numbered_ranked w l = record { short = λ p. omega (arith, rank_bounded w p (suc n) (λ u s. omega (arith, N.few u)), l) }
