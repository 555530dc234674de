-- The place of the first binding that is another tells it; where there is no such place, all agree. Assumes nothing.
use mathlib.Core.Bool.{Bool, true, false, not, cond}
use mathlib.Core.Path.{◌≡◌, refl, sym, ap, ◌∙◌}
use mathlib.Core.List.{List, [], ◌∷◌}
use Prim.Native.Nat.{ℕ, zero, suc, ◌+◌, ◌≤◌}
use native.Mathlib.Omega.{arith}
use native.Mathlib.Numerals.{add-one}
use lib.Dec.{eqb, ltb}
use lib.ListN.{length, take, drop, drop_of_length-le, length-drop}
use lib.Seq.{drop-cons, take_all}
use borrow.Author.Tests.{eq-eqb, ne_eqb, lt-ltb, le-ltb, ltb-true, ltb-false}
use Rattle.std.specs.Prelude.{Option, Some, None, zip}
use Rattle.std.specs.List.{position_or_len}
use Rattle.replay.specs.declared.Verdict.{Verdict}
use Rattle.replay.specs.declared.Verdict.TheVariants.{Agrees, Differs, BindsOther}
use Rattle.recorded_unify.specs.Inner.Lines.{judged_from, judged_of}

abbrev pub other : ℕ × ℕ → Bool
other p = not (eqb p.0 p.1)

abbrev pub first : List (ℕ × ℕ) → ℕ
first ps = position_or_len other ps

-- pairs compared from the k-th on
compared : List (ℕ × ℕ) → ℕ → Verdict
compared [] k = Agrees
compared (p ∷ ps) k = cond (eqb p.0 p.1) (compared ps (k + 1)) (BindsOther k)

by_place : (ps : List (ℕ × ℕ)) (k : ℕ) → compared ps k ≡ cond (ltb (first ps) (length ps)) (BindsOther (k + first ps)) Agrees
unfolding compared
by_place [] k = refl
by_place (p ∷ ps) k = go (eqb p.0 p.1) (by_place ps (k + 1))
  where
    then : (t : Bool) → ltb (first ps) (length ps) ≡ t → cond t (BindsOther (k + 1 + first ps)) Agrees
        ≡ cond (ltb (1 + first ps) (suc (length ps))) (BindsOther (k + (1 + first ps))) Agrees
    then true e =
        let h = ltb-true _ _ e in
        let n : k + 1 + first ps ≡ k + (1 + first ps) = omega arith in
        rw (lt-ltb (1 + first ps) (suc (length ps)) (omega (arith, h)), n) refl
    then false e = let h = ltb-false _ _ e in rw (le-ltb (1 + first ps) (suc (length ps)) (omega (arith, h))) refl

    go : (t : Bool) → compared ps (k + 1) ≡ cond (ltb (first ps) (length ps)) (BindsOther (k + 1 + first ps)) Agrees
        → cond t (compared ps (k + 1)) (BindsOther k)
        ≡ cond (ltb (cond (not (not t)) (1 + first ps) 0) (suc (length ps))) (BindsOther (k + cond (not (not t)) (1 + first ps) 0)) Agrees
    go true e = e ∙ then (ltb (first ps) (length ps)) refl
    go false e =
        let n : k ≡ k + 0 = omega arith in
        rw (lt-ltb 0 (suc (length ps)) (omega arith)) (ap (λ (m : ℕ). BindsOther m) n)

-- m bindings from the i-th on are pairs of what is left of both lists
as_pairs : (m : ℕ) (ws bs : List ℕ) (i j : ℕ) → j ≡ 20992 + i → i + m ≡ length bs → j + m ≤ length ws
    → judged_from m ws bs i ≡ compared (zip (drop i bs) (drop j ws)) i
unfolding judged_from compared
as_pairs zero ws bs i j a b c = rw (drop_of_length-le bs {i = i} (omega (arith, b))) refl
as_pairs (suc m) ws bs i j a b c =
    let e = as_pairs m ws bs (i + 1) (j + 1) (omega (arith, a)) (omega (arith, b)) (omega (arith, c)) in
    rw (drop-cons bs i 0 (omega (arith, b)), drop-cons ws j 0 (omega (arith, c)), sym a, e, add-one, add-one) refl

-- what the place found tells
abbrev pub told : Option ℕ → Verdict
told None = Agrees
told (Some i) = BindsOther i

told_if : (t : Bool) (i : ℕ) → cond t (BindsOther (0 + i)) Agrees ≡ told (cond t (Some i) None)
told_if true i = ap (λ (m : ℕ). BindsOther m) (omega arith)
told_if false i = refl

-- the bindings left are the last words
pub all_left : (ws : List ℕ) → length ws ≡ 21504 → take 512 (drop 20992 ws) ≡ drop 20992 ws
all_left ws w = take_all 512 (drop 20992 ws) (omega (arith, length-drop 20992 ws, w))

module _ (ws bs : List ℕ) (got recorded : ℕ) where
  pub differs : (got ≡ recorded → ⊥) → Differs got ≡ judged_of ws bs got recorded
  unfolding judged_of
  differs d = rw (ne_eqb _ _ d)

  pub by_first : got ≡ recorded → length bs ≡ 512 → length ws ≡ 21504 → (o : Option ℕ)
      → o ≡ cond (ltb (first (zip bs (drop 20992 ws))) (length (zip bs (drop 20992 ws)))) (Some (first (zip bs (drop 20992 ws)))) None
      → told o ≡ judged_of ws bs got recorded
  unfolding judged_of
  by_first e b w o f =
      let ps = zip bs (drop 20992 ws) in
      rw (eq-eqb _ _ e)
      (ap told f
      ∙ sym (told_if (ltb (first ps) (length ps)) (first ps))
      ∙ sym (by_place ps 0)
      ∙ sym (as_pairs 512 ws bs 0 20992 refl (sym b) (omega (arith, w))))
