-- Robinson's theorem over the terms of places: a solution of the bindings is a model, and what a model gives a place is the term that stands
-- there with the variables' terms put in. Assumes nothing.
use mathlib.Core.Path.{◌≡◌, refl, ap, sym, ◌∙◌}
use mathlib.Core.Option.{none, some}
use Prim.Native.Nat.{ℕ, zero, suc, ◌+◌, ◌*◌, ◌<◌, ◌≤◌}
use native.Mathlib.Omega.{arith}
use lib.ListN.{length}
use Rattle.unification.specs.Term.{Term, app, Shape, variable, over, substitute}
use Rattle.unification.specs.Nodes.{Binds, binding}
use Rattle.unification.specs.Unify.{Unifies, too_deep, no_way, yes_with, unify_to}
use Rattle.unification.specs.Acyclic.{Reaches, here, inside, beyond, Acyclic, Numbering, Lower}
use Rattle.unification.specs.Solutions.{term_of_shape, term_to, term_at, value_bound, value_to, Respects, Robinson, says_no, says_yes}
use Rattle.unification.specs.Exact.{shape_val, Model, Exact, BindsKept}
use Rattle.unification.proofs.Exact.{unify_exact}
use Rattle.unification.proofs.Rank.{rank, Ranked, rank_var, rank_over, one_highest}
use Rattle.unification.proofs.Parts.{terms_at_agree, puts_agree}
use Rattle.unification.proofs.Numbering.{numbered_ranked}
use Rattle.unification.proofs.Enough.{model}
use Rattle.unification.proofs.Robinson.{unify_kept}
use Rattle.unification.proofs.Equations.{unify_answers}

module _ (shape : ℕ → Shape) (K : ℕ) (lower : Lower shape K) where
  -- the term of a place does not depend on the depth, once it is above the number
  same_at_depth : (k j p : ℕ) → p < k → p < j → term_to shape k p ≡ term_to shape j p
  unfolding term_to
  same_at_depth zero j p l m = absurd (omega (arith, l))
  same_at_depth (suc k) zero p l m = absurd (omega (arith, m))
  same_at_depth (suc k) (suc j) p l m = go (shape p) refl (same_at_depth k j)
    where
      go : (s : Shape) → shape p ≡ s → ((q : ℕ) → q < k → q < j → term_to shape k q ≡ term_to shape j q)
          → term_of_shape (term_to shape k) s ≡ term_of_shape (term_to shape j) s
      go (variable v) e ih = refl
      go (over h ps) e ih = ap (app h) (terms_at_agree (term_to shape k) (term_to shape j) ps (λ q o. let x = lower p q h
          ps e o in ih q (omega (arith, l, x.0)) (omega (arith, m, x.0))))

  abbrev pub value : (ℕ → Term) → ℕ → Term
  value σ p = substitute σ (term_at shape p)

  -- what a place stands for, by its shape
  pub value_by_shape : (σ : ℕ → Term) (p : ℕ) → value σ p ≡ shape_val σ (value σ) (shape p)
  unfolding term_to substitute
  value_by_shape σ p = go (shape p) refl
    where
      go : (s : Shape) → shape p ≡ s → substitute σ (term_of_shape (term_to shape p) s) ≡ shape_val σ (value σ) s
      go (variable v) e = refl
      go (over h ps) e =
          ap (app h) (puts_agree σ (term_to shape p) (value σ) ps (λ q o. ap (substitute σ) (same_at_depth p (suc q) q (lower p q h ps e o).0 (omega arith))))

  pub model_of : (B : Binds) (σ : ℕ → Term) → Respects shape B σ → Model shape B σ (value σ)
  model_of B σ r = record { isval = value_by_shape σ; sat = r }

  respects_of : (B : Binds) (σ : ℕ → Term) → Model shape B σ (value σ) → Respects shape B σ
  respects_of B σ m = m.sat

  -- a model gives each place that term
  pub value_of_model : (B : Binds) (σ val : ℕ → Term) → Model shape B σ val → (k p : ℕ) → p < k → val p ≡ value σ p
  value_of_model B σ val m zero p l = absurd (omega (arith, l))
  value_of_model B σ val m (suc k) p l = m.isval p ∙ (go (shape p) refl (value_of_model B σ val m k) ∙ sym (value_by_shape σ p))
    where
      go : (s : Shape) → shape p ≡ s → ((q : ℕ) → q < k → val q ≡ value σ q) → shape_val σ val s ≡ shape_val σ (value σ) s
      go (variable v) e ih = refl
      go (over h ps) e ih = ap (app h) (terms_at_agree val (value σ) ps (λ q o. ih q (omega (arith, l, (lower p q h ps e o).0))))

  pub respects_model : (B : Binds) (σ val : ℕ → Term) → Model shape B σ val → Respects shape B σ
  respects_model B σ val m v q e = m.sat v q e ∙ value_of_model B σ val m (suc q) q (omega arith)

  -- numbered variables do not reach themselves: ranks fall
  module _ (n : ℕ) (scoped : (p v : ℕ) → shape p ≡ variable v → v < n) (w : ℕ) (deep : suc n * suc K + K < w) where
    module _ (B : Binds) (N : Numbering shape n B) where
      abbrev A : Ranked shape w B
      A = numbered_ranked shape K lower n B N w deep

      abbrev ρ : ℕ → ℕ
      ρ = rank shape w B

      -- what v is bound to stands no lower than what v occurs in
      reaches_down : (v q p : ℕ) → binding B v ≡ some q → Reaches shape B v p → ρ q < ρ p
      reaches_down v q _ e (here p s) = omega (arith, rank_var shape w B A p v q s e)
      reaches_down v q _ e (inside p r h ps s o t) = omega (arith, reaches_down v q r e t, rank_over shape w B A p h ps s, one_highest ρ ps r o)
      reaches_down v q _ e (beyond p u r s b t) = omega (arith, reaches_down v q r e t, rank_var shape w B A p u r s b)

      pub numbered_acyclic : Acyclic shape B
      numbered_acyclic v q e t = let x = reaches_down v q q e t in omega (arith, x)

    -- whatever the free variables stand for, there is a solution
    pub solution : (C : Binds) → Numbering shape n C → (free : ℕ → Term) → (σ : ℕ → Term) × (Respects shape C σ × ((v : ℕ) → binding C v ≡ none → σ v ≡ free v))
    solution C M free =
        let R = numbered_ranked shape K lower n C M w deep in
        let σ : ℕ → Term = λ v. value_bound free v (value_to shape C free w) (binding C v) in
        (σ, (respects_model C σ (value_to shape C free w) (model shape w C R free), λ v b. rw b))

    module _ (x : ℕ) (deeper : suc n * w ≤ x) where
      pub robinson : (B : Binds) → Numbering shape n B → length B ≡ n → (l r : ℕ) → Robinson shape B l r (unify_to shape w x B l r)
      robinson B N len l r =
          go (unify_to shape w x B l r) (unify_exact shape n scoped w x B l r len) (unify_kept shape K lower n scoped w deep x B l r len N)
          (unify_answers shape K lower n scoped w deep x deeper B l r len N)
        where
          go : (a : Unifies) → Exact shape B (λ val. val l ≡ val r) a → BindsKept shape n B a → (a ≡ too_deep → ⊥) → Robinson shape B l r a
          go too_deep e k z = absurd (z refl)
          go no_way e k z = says_no (λ σ m q. e σ (value σ) (model_of B σ m) q)
          go (yes_with C) e k z =
              says_yes C (λ σ m. let y = e.1 σ (value σ) (model_of C σ m) in (respects_of B σ y.0, y.1))
              (λ σ m q. respects_of C σ (e.2 σ (value σ) (model_of B σ m) q))
              (numbered_acyclic C k.numbering)
              (λ free. solution C k.numbering free)
