-- Depth enough: where ranks are below the depth, following comes to an end, the occurs check answers, and both meet their own equations; and
-- whatever the free variables stand for, there is a model. Assumes nothing.
use mathlib.Core.Path.{◌≡◌, refl, ap, sym, ◌∙◌}
use mathlib.Core.List.{List, [], ◌∷◌}
use mathlib.Core.Option.{Option, none, some}
use mathlib.Core.Bool.{Bool, true, false}
use Prim.Native.Nat.{ℕ, zero, suc, ◌<◌, ◌≤◌}
use native.Mathlib.Omega.{arith}
use lib.Dec.{eqb}
use Rattle.resolved_sort.proofs.Reached.{no_confusion}
use Rattle.unification.specs.Term.{Term, app, Shape, variable, over}
use Rattle.unification.specs.Nodes.{Binds, binding}
use Rattle.unification.specs.Unify.{Occurs, unknown, absent, present, or_else, of_test, follow_bound, follow_at}
use Rattle.unification.specs.Unify.{follow, occurs_any, occurs_bound, occurs_at, occurs}
use Rattle.unification.specs.Solutions.{value_bound, value_at, value_to}
use Rattle.unification.specs.Exact.{shape_val, Model}
use Rattle.unification.proofs.Rank.{highest, rank, Ranked, rank_var, rank_over, one_highest}
use Rattle.unification.proofs.Parts.{terms_at_agree, occurs_any_agree}
use Rattle.unification.proofs.Follow.{follow_holds}

module _ (shape : ℕ → Shape) (w : ℕ) (B : Binds) (A : Ranked shape w B) where
  -- a walk comes to an end, no higher than it began
  pub follow_some : (k p : ℕ) → rank shape w B p < k → (q : ℕ) × (follow shape k B p ≡ some q) × (rank shape w B q ≤ rank shape w B p)
  unfolding follow
  follow_some zero p lt = absurd (omega arith)
  follow_some (suc k) p lt = go (shape p) refl (follow_some k)
    where
      bound : (o : Option ℕ) (v : ℕ) → shape p ≡ variable v → binding B v ≡ o
          → ((p : ℕ) → rank shape w B p < k → (q : ℕ) × (follow shape k B p ≡ some q) × (rank shape w B q ≤ rank shape w B p))
          → (q : ℕ) × (follow_bound shape o p (follow shape k B) ≡ some q) × (rank shape w B q ≤ rank shape w B p)
      bound none v s l ih = (p, refl, omega arith)
      bound (some q) v s l ih =
          let e = rank_var shape w B A p v q s l in
          let r = ih q (omega arith) in
          (r.0, r.1, (let t = r.2 in omega arith))

      go : (s : Shape) → shape p ≡ s
          → ((p : ℕ) → rank shape w B p < k → (q : ℕ) × (follow shape k B p ≡ some q) × (rank shape w B q ≤ rank shape w B p))
          → (q : ℕ) × (follow_at shape s B p (follow shape k B) ≡ some q) × (rank shape w B q ≤ rank shape w B p)
      go (variable v) s ih = bound (binding B v) v s refl ih
      go (over h ps) s ih = (p, refl, omega arith)

  -- the end of a place has no higher rank
  pub end_no_higher : (k p q : ℕ) → follow shape k B p ≡ some q → rank shape w B q ≤ rank shape w B p
  end_no_higher = follow_holds shape B (λ p q. rank shape w B q ≤ rank shape w B p) (λ p i. omega arith)
      (λ p v r q s b h. omega (arith, h, rank_var shape w B A p v r s b))

  follow_stable : (k p : ℕ) → rank shape w B p < k → follow shape (suc k) B p ≡ follow shape k B p
  unfolding follow
  follow_stable zero p lt = absurd (omega arith)
  follow_stable (suc k) p lt = go (shape p) refl (follow_stable k)
    where
      bound : (o : Option ℕ) (v : ℕ) → shape p ≡ variable v → binding B v ≡ o → ((q : ℕ) → rank shape w B q < k → follow shape (suc k) B q ≡ follow shape k B q)
          → follow_bound shape o p (follow shape (suc k) B) ≡ follow_bound shape o p (follow shape k B)
      bound none v s l ih = refl
      bound (some q) v s l ih = let e = rank_var shape w B A p v q s l in ih q (omega arith)

      go : (s : Shape) → shape p ≡ s → ((q : ℕ) → rank shape w B q < k → follow shape (suc k) B q ≡ follow shape k B q)
          → follow_at shape s B p (follow shape (suc k) B) ≡ follow_at shape s B p (follow shape k B)
      go (variable v) s ih = bound (binding B v) v s refl ih
      go (over h ps) s ih = refl

  pub follow_eq : (p : ℕ) → follow shape w B p ≡ follow_at shape (shape p) B p (follow shape w B)
  unfolding follow
  follow_eq p = sym (follow_stable w p (A.short p))

  any_known : (f : ℕ → Occurs) (k : ℕ) → ((q : ℕ) → rank shape w B q < k → f q ≡ unknown → ⊥) → (ps : List ℕ)
      → highest (rank shape w B) ps < suc k → occurs_any shape f ps ≡ unknown → ⊥
  any_known f k ih [] lt e = no_confusion (cc)
  any_known f k ih (p ∷ ps) lt e = go (f p) refl e (any_known f k ih ps (omega arith))
    where
      go : (a : Occurs) → f p ≡ a → or_else a (occurs_any shape f ps) ≡ unknown → (occurs_any shape f ps ≡ unknown → ⊥) → ⊥
      go unknown fp e h = ih p (omega arith) fp
      go present fp e h = no_confusion (cc)
      go absent fp e h = h e

  pub occurs_known : (v k p : ℕ) → rank shape w B p < k → occurs shape k B v p ≡ unknown → ⊥
  unfolding occurs
  occurs_known v zero p lt e = omega arith
  occurs_known v (suc k) p lt e = go (shape p) refl e (occurs_known v k)
    where
      test : (b : Bool) → of_test b ≡ unknown → ⊥
      test true e = no_confusion (cc)
      test false e = no_confusion (cc)

      bound : (o : Option ℕ) (u : ℕ) → shape p ≡ variable u → binding B u ≡ o → occurs_bound shape o v u (occurs shape k B v) ≡ unknown
          → ((q : ℕ) → rank shape w B q < k → occurs shape k B v q ≡ unknown → ⊥) → ⊥
      bound none u s l e ih = test (eqb v u) e
      bound (some q) u s l e ih = let r = rank_var shape w B A p u q s l in ih q (omega arith) e

      go : (s : Shape) → shape p ≡ s → occurs_at shape s B v (occurs shape k B v) ≡ unknown
          → ((q : ℕ) → rank shape w B q < k → occurs shape k B v q ≡ unknown → ⊥) → ⊥
      go (variable u) s e ih = bound (binding B u) u s refl e ih
      go (over h ps) s e ih = let r = rank_over shape w B A p h ps s in any_known (occurs shape k B v) k ih ps (omega arith) e

  -- past the rank more fuel changes nothing, so at w the definition meets its own equation
  occurs_stable : (v k p : ℕ) → rank shape w B p < k → occurs shape (suc k) B v p ≡ occurs shape k B v p
  unfolding occurs
  occurs_stable v zero p lt = absurd (omega arith)
  occurs_stable v (suc k) p lt = go (shape p) refl (occurs_stable v k)
    where
      bound : (o : Option ℕ) (u : ℕ) → shape p ≡ variable u → binding B u ≡ o → ((q : ℕ) → rank shape w B q < k
          → occurs shape (suc k) B v q ≡ occurs shape k B v q)
          → occurs_bound shape o v u (occurs shape (suc k) B v) ≡ occurs_bound shape o v u (occurs shape k B v)
      bound none u s l ih = refl
      bound (some q) u s l ih = let e = rank_var shape w B A p u q s l in ih q (omega arith)

      go : (s : Shape) → shape p ≡ s → ((q : ℕ) → rank shape w B q < k → occurs shape (suc k) B v q ≡ occurs shape k B v q)
          → occurs_at shape s B v (occurs shape (suc k) B v) ≡ occurs_at shape s B v (occurs shape k B v)
      go (variable u) s ih = bound (binding B u) u s refl ih
      go (over h ps) s ih = let e = rank_over shape w B A p h ps s in occurs_any_agree shape shape
          (occurs shape (suc k) B v) (occurs shape k B v) ps
          (λ q o. ih q (omega (arith, e, lt, one_highest (rank shape w B) ps q o)))

  pub occurs_eq : (v p : ℕ) → occurs shape w B v p ≡ occurs_at shape (shape p) B v (occurs shape w B v)
  unfolding occurs
  occurs_eq v p = sym (occurs_stable v w p (A.short p))

  value_stable : (d : ℕ → Term) (k p : ℕ) → rank shape w B p < k → value_to shape B d (suc k) p ≡ value_to shape B d k p
  unfolding value_to
  value_stable d zero p lt = absurd (omega arith)
  value_stable d (suc k) p lt = go (shape p) refl (value_stable d k)
    where
      bound : (o : Option ℕ) (v : ℕ) → shape p ≡ variable v → binding B v ≡ o → ((q : ℕ) → rank shape w B q < k
          → value_to shape B d (suc k) q ≡ value_to shape B d k q)
          → value_bound d v (value_to shape B d (suc k)) o ≡ value_bound d v (value_to shape B d k) o
      bound none v s l ih = refl
      bound (some q) v s l ih = let e = rank_var shape w B A p v q s l in ih q (omega arith)

      go : (s : Shape) → shape p ≡ s → ((q : ℕ) → rank shape w B q < k → value_to shape B d (suc k) q ≡ value_to shape B
          d k q) → value_at B d (value_to shape B d (suc k)) s ≡ value_at B d (value_to shape B d k) s
      go (variable v) s ih = bound (binding B v) v s refl ih
      go (over h ps) s ih = let e = rank_over shape w B A p h ps s in ap (app h)
          (terms_at_agree (value_to shape B d (suc k)) (value_to shape B d k) ps
          (λ q o. ih q (omega (arith, e, lt, one_highest (rank shape w B) ps q o))))

  -- what a place stands for, by its shape
  pub value_eq : (d : ℕ → Term) (p : ℕ) → value_to shape B d w p ≡ value_at B d (value_to shape B d w) (shape p)
  unfolding value_to
  value_eq d p = sym (value_stable d w p (A.short p))

  -- terms for the free variables give terms for all, under which every binding holds
  pub model : (d : ℕ → Term) → Model shape B (λ v. value_bound d v (value_to shape B d w) (binding B v)) (value_to shape B d w)
  model d = record { isval = λ p. value_eq d p ∙ shapes (shape p); sat = λ v q e. rw e }
    where
      shapes : (s : Shape) → value_at B d (value_to shape B d w) s ≡ shape_val (λ v. value_bound d v (value_to shape B d w) (binding B v)) (value_to shape B d w) s
      shapes (variable v) = refl
      shapes (over h ps) = refl
