-- What each clause of Robinson's statement says by itself, so that none can be weakened unseen: the answer decides whether there is a solution;
-- the bindings of a yes have exactly the solutions; variables that they leave free stand for anything, so two of them can differ. By taking the
-- statement apart. Assumes nothing.
use mathlib.Core.Path.{◌≡◌, refl, sym, ◌∙◌}
use mathlib.Core.Bool.{cond}
use mathlib.Core.Option.{none}
use mathlib.Core.Logic.{◌↔◌, ◌≢◌}
use Prim.Native.Nat.{ℕ}
use native.Mathlib.Omega.{arith}
use lib.Dec.{eqb}
use borrow.Author.Tests.{eq-eqb, ne_eqb}
use Rattle.unification.specs.Term.{Term, var, Shape}
use Rattle.unification.specs.Nodes.{Binds, binding}
use Rattle.unification.specs.Unify.{Unifies, yes_with, no_way}
use Rattle.unification.specs.Acyclic.{Acyclic}
use Rattle.unification.specs.Solutions.{Respects, Solves, Robinson, says_no, says_yes, SameAnswer, both_no, both_yes}

module _ (shape : ℕ → Shape) (B : Binds) (l r : ℕ) where
  pub no_exactly_if_no_solution : (a : Unifies) → Robinson shape B l r a → (a ≡ no_way) ↔ ((σ : ℕ → Term) → Solves shape B l r σ → ⊥)
  no_exactly_if_no_solution _ (says_no n) = (λ e σ s. n σ s.0 s.1, λ x. refl)
  no_exactly_if_no_solution _ (says_yes C to from acyclic ex) = (
    λ e. absurd (let z : ◌≡◌ {A = ℕ} 0 1 = cc in omega arith),
    λ none-solves. absurd (none-solves (ex var).0 (to (ex var).0 (ex var).1.0)),
  )

  module _ (C : Binds) where
    pub yes_has_exactly_the_solutions : Robinson shape B l r (yes_with C) → (σ : ℕ → Term) → Respects shape C σ ↔ Solves shape B l r σ
    yes_has_exactly_the_solutions (says_yes C to from acyclic ex) σ = (to σ, λ s. from σ s.0 s.1)

    pub yes_is_acyclic : Robinson shape B l r (yes_with C) → Acyclic shape C
    yes_is_acyclic (says_yes C to from acyclic ex) = acyclic

    -- two variables that stay free are equal in some solutions and not in others
    pub free_variables_can_differ : Robinson shape B l r (yes_with C) → (v w : ℕ) → binding C v ≡ none → binding C w ≡ none → v ≢ w
        → (t u : Term) → (σ : ℕ → Term) × Solves shape B l r σ × (σ v ≡ t) × (σ w ≡ u)
    free_variables_can_differ (says_yes C to from acyclic ex) v w f g n t u =
        ((ex given).0, to _ (ex given).1.0, (ex given).1.1 v f ∙ at_v, (ex given).1.1 w g ∙ at_w)
      where
        given : ℕ → Term
        given x = cond (eqb x v) t u

        at_v : given v ≡ t
        at_v = rw (eq-eqb v v refl)

        at_w : given w ≡ u
        at_w = rw (ne_eqb w v (λ e. n (sym e)))

-- Two answers that say the same are both no, or both yes.
pub same_answer_no_exactly : (shape shape' : ℕ → Shape) (a a' : Unifies) → SameAnswer shape shape' a a' → (a ≡ no_way) ↔ (a' ≡ no_way)
same_answer_no_exactly shape shape' _ _ both_no = (λ e. refl, λ e. refl)
same_answer_no_exactly shape shape' _ _ (both_yes C C' s) = (
  λ e. absurd (let z : ◌≡◌ {A = ℕ} 0 1 = cc in omega arith),
  λ e. absurd (let z : ◌≡◌ {A = ℕ} 0 1 = cc in omega arith),
)
