-- What unify is measured against, after Robinson: terms for the variables, under which the bindings
-- hold and the two sides are equal.
use Rattle.std.specs.Prelude.{◌≡◌, List, [], ◌∷◌, ℕ, zero, suc, ◌↔◌}
use Rattle.std.proofs.Math.Option.{Option, none, some}
use Rattle.unification.specs.Term.{stray_head, Term, var, app, Terms, no_part, part, Shape, variable, over}
use Rattle.unification.specs.Term.{substitute}
use Rattle.unification.specs.Nodes.{Binds, binding}
use Rattle.unification.specs.Unify.{Unifies, yes_with, no_way}
use Rattle.unification.specs.Acyclic.{Acyclic}

-- a shape, with terms for the places under it
abbrev pub terms_at : (ℕ → Term) → List ℕ → Terms
terms_at f [] = no_part
terms_at f (p ∷ ps) = part (f p) (terms_at f ps)

abbrev pub term_of_shape : (ℕ → Term) → Shape → Term
term_of_shape f (variable v) = var v
term_of_shape f (over h ps) = app h (terms_at f ps)

-- the same through bindings, with d for what is free
abbrev pub value_bound : (ℕ → Term) → ℕ → (ℕ → Term) → Option ℕ → Term
value_bound d v f none = d v
value_bound d v f (some q) = f q

abbrev pub value_at : Binds → (ℕ → Term) → (ℕ → Term) → Shape → Term
value_at B d f (variable v) = value_bound d v f (binding B v)
value_at B d f (over h ps) = app h (terms_at f ps)

module _ (shape : ℕ → Shape) where
  -- The term that stands at a place, bindings not followed. Parts have lower numbers, so the number is depth enough.
  unfoldable pub term_to : ℕ → ℕ → Term
  term_to zero p = app (stray_head p) no_part
  term_to (suc k) p = term_of_shape (term_to k) (shape p)

  abbrev pub term_at : ℕ → Term
  term_at p = term_to (suc p) p

  -- The term of a place through the bindings, with d for what is free: what the place stands for then.
  unfoldable pub value_to : Binds → (ℕ → Term) → ℕ → ℕ → Term
  value_to B d zero p = d 0
  value_to B d (suc k) p = value_at B d (value_to B d k) (shape p)

  -- Under σ, which gives each variable a term, every binding holds.
  abbrev pub Respects : Binds → (ℕ → Term) → Type 0
  Respects B σ = (v q : ℕ) → binding B v ≡ some q → σ v ≡ substitute σ (term_at q)

  -- under σ the two places have the same term
  abbrev pub Equates : (ℕ → Term) → ℕ → ℕ → Type 0
  Equates σ l r = substitute σ (term_at l) ≡ substitute σ (term_at r)

  -- under σ the bindings hold, and the two places have the same term
  abbrev pub Solves : Binds → ℕ → ℕ → (ℕ → Term) → Type 0
  Solves B l r σ = Respects B σ × Equates σ l r

  -- Robinson's theorem about an answer. A no: nothing that respects the bindings equates the two sides. A yes: what
  -- respects the new bindings is exactly what respects the old ones and equates the two sides, so they are the most
  -- general solution; no variable reaches itself; and whatever the variables still free stand for, there is a solution.
  pub data Robinson (B : Binds) (l r : ℕ) : Unifies → Type 0 where
    says_no : ((σ : ℕ → Term) → Respects B σ → Equates σ l r → ⊥) → Robinson B l r no_way
    says_yes : (C : Binds) → ((σ : ℕ → Term) → Respects C σ → Respects B σ × Equates σ l r)
        → ((σ : ℕ → Term) → Respects B σ → Equates σ l r → Respects C σ)
        → Acyclic shape C
        → ((free : ℕ → Term)
        → (σ : ℕ → Term) × (Respects C σ × ((v : ℕ) → binding C v ≡ none → σ v ≡ free v)))
        → Robinson B l r (yes_with C)

module _ (shape shape' : ℕ → Shape) where
  -- Two problems of unify with the same solutions: bindings, and a left and a right place, each in its own lists.
  pub record SameProblem (B : Binds) (l r : ℕ) (B' : Binds) (l' r' : ℕ) : Type 0 where
    pub respects : (σ : ℕ → Term) → Respects shape B σ ↔ Respects shape' B' σ
    pub equates : (σ : ℕ → Term) → Respects shape B σ → Equates shape σ l r ↔ Equates shape' σ l' r'

  -- Two answers that say the same: both no, or both yes with bindings that the same terms respect.
  pub data SameAnswer : Unifies → Unifies → Type 0 where
    both_no : SameAnswer no_way no_way
    both_yes : (C C' : Binds) → ((σ : ℕ → Term) → Respects shape C σ ↔ Respects shape' C' σ)
        → SameAnswer (yes_with C) (yes_with C')

-- Whatever the first place can stand for, the second can.
abbrev pub Covers : (ℕ → Shape) → Binds → ℕ → (ℕ → Shape) → Binds → ℕ → Type 0
Covers shape B p shape' B' p' =
    (σ : ℕ → Term) → Respects shape B σ → (τ : ℕ → Term) × (Respects shape' B' τ × (substitute τ (term_at shape' p') ≡
    substitute σ (term_at shape p)))
