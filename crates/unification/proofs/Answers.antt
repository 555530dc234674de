-- What a yes of unify gives whoever goes on from it: bindings that pass their checks again, under which the two places are equal and whatever
-- respects them respected the bindings before. By Robinson's theorem and by the places that bindings name. Assumes nothing.
use mathlib.Core.Path.{◌≡◌, subst, ◌∙◌}
use Prim.Native.Nat.{ℕ}
use Rattle.unification.specs.Term.{Term}
use Rattle.unification.specs.Nodes.{Binds}
use Rattle.unification.specs.Unify.{yes_with, unify, deep, deeper}
use Rattle.unification.specs.Solutions.{Respects, Equates, Robinson, says_yes}
use Rattle.unification.specs.Making.{Lent, graph}
use Rattle.unification.proofs.Lists.{lower, scoped}
use Rattle.unification.specs.Exact.{YesLeaves, BindsKept}
use Rattle.unification.proofs.Robinson.{unify_kept}
use Rattle.unification.proofs.Theorem.{deep_enough, unify_is_robinson}
use Rattle.unification.specs.Growing.{Names, CheckedLent, PlacedIn, CheckedBinds}
use Rattle.unification.proofs.Agree.{unify_names}
use Rattle.unification.proofs.Grows.{grows_refl, agree_grown}
use Rattle.unification.proofs.BindingWords.{named_places_fine}
use Rattle.unification.proofs.BindsGrow.{binds_name_places}

-- C is a yes for l and r from the bindings B
pub record Agreeing (W : Lent) (B : Binds) (l r : ℕ) (C : Binds) : Type 0 where
  pub binds : CheckedBinds W C
  pub before : (σ : ℕ → Term) → Respects (graph W) C σ → Respects (graph W) B σ
  pub equal : (σ : ℕ → Term) → Respects (graph W) C σ → Equates (graph W) σ l r

module _ (W : Lent) (c : CheckedLent W) (B : Binds) (b : CheckedBinds W B) (l r : ℕ) (x : PlacedIn W l) (y : PlacedIn W r) where
  robinson : Robinson (graph W) B l r (unify (graph W) B l r)
  robinson = unify_is_robinson W.sorts W.lengths.sorts W.lengths.entries W.nodes W.lengths.nodes
      W.lengths.arguments W.lengths.variables c B b l r

  kept : BindsKept (graph W) W.lengths.variables B (unify (graph W) B l r)
  unfolding unify
  kept =
      unify_kept (graph W) 3072 (lower W.sorts W.lengths.sorts W.lengths.entries W.nodes
      W.lengths.nodes W.lengths.arguments W.lengths.variables c) W.lengths.variables
      (scoped W.sorts W.lengths.sorts W.lengths.entries W.nodes W.lengths.nodes W.lengths.arguments W.lengths.variables c) deep
      (deep_enough W.sorts W.lengths.sorts W.lengths.entries W.nodes W.lengths.nodes
      W.lengths.arguments W.lengths.variables c) deeper B l r b.many b.numbered

  names : (C : Binds) → unify (graph W) B l r ≡ yes_with C → Names (PlacedIn W) C
  unfolding unify
  names C e = unify_names (PlacedIn W) (graph W) (graph W) (agree_grown W c W (grows_refl W c)) B (binds_name_places W B b) deep deeper l r C x y e

  solutions : (C : Binds) → Robinson (graph W) B l r (yes_with C) → ((σ : ℕ → Term) → Respects (graph W) C σ → Respects (graph W) B σ × Equates (graph W) σ l r)
  solutions C (says_yes _ f g a s) = f

  pub yes_agrees : (C : Binds) → unify (graph W) B l r ≡ yes_with C → Agreeing W B l r C
  yes_agrees C e =
      let f = solutions C (subst (Robinson (graph W) B l r) e robinson) in
      let k : YesLeaves (graph W) W.lengths.variables B C = subst (BindsKept (graph W) W.lengths.variables B) e kept in
      record {
        binds = record { many = k.long ∙ b.many; places = named_places_fine W.lengths.sorts W.lengths.nodes C (names C e); numbered = k.numbering };
        before = λ σ s. (f σ s).0;
        equal = λ σ s. (f σ s).1;
      }
