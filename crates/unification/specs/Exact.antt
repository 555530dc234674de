-- Answers of unify at every depth: exact, over models that give each place its shape's value.
use Rattle.std.specs.Prelude.{◌≡◌, true, ℕ, ◌<◌, length, ◌⊎◌}
use Rattle.std.proofs.Math.Option.{some}
use Rattle.unification.specs.Term.{Term, app, Shape, variable, over}
use Rattle.unification.specs.Nodes.{is_sort, Binds, binding}
use Rattle.unification.specs.Solutions.{terms_at}
use Rattle.unification.specs.Unify.{Unifies, too_deep, no_way, yes_with}
use Rattle.unification.specs.Acyclic.{Numbering}
use Rattle.unification.specs.Trail.{frees}

abbrev pub shape_val : (ℕ → Term) → (ℕ → Term) → Shape → Term
shape_val σ val (variable v) = σ v
shape_val σ val (over h ps) = app h (terms_at val ps)

-- σ gives each variable a term, val gives each place the term that it then stands for, and every binding of B holds
pub record Model (shape : ℕ → Shape) (B : Binds) (σ val : ℕ → Term) : Type 0 where
  pub isval : (p : ℕ) → val p ≡ shape_val σ val (shape p)
  pub sat : (v q : ℕ) → binding B v ≡ some q → σ v ≡ val q

-- an answer is exact for an equation E on models of B
abbrev pub Exact : (ℕ → Shape) → Binds → ((ℕ → Term) → Type 0) → Unifies → Type 0
Exact shape B E too_deep = Unit {0}
Exact shape B E no_way = (σ val : ℕ → Term) → Model shape B σ val → E val → ⊥
Exact shape B E (yes_with B') = (length B' ≡ length B)
    × ((σ val : ℕ → Term) → Model shape B' σ val → Model shape B σ val × E val)
    × ((σ val : ℕ → Term) → Model shape B σ val → E val → Model shape B' σ val)

-- two sorts with different numbers have different terms
abbrev pub Apart : (ℕ → Shape) → Type 0
Apart shape = (l r : ℕ) → is_sort l ≡ true → is_sort r ≡ true → (l ≡ r → ⊥) → (σ val : ℕ → Term)
    → ((p : ℕ) → val p ≡ shape_val σ val (shape p)) → val l ≡ val r → ⊥

-- What a yes leaves: numbered bindings, of the same length, and either the same or with fewer free.
pub record YesLeaves (shape : ℕ → Shape) (n : ℕ) (B C : Binds) : Type 0 where
  pub numbering : Numbering shape n C
  pub long : length C ≡ length B
  pub fewer : (C ≡ B) ⊎ (frees C < frees B)

abbrev pub BindsKept : (ℕ → Shape) → ℕ → Binds → Unifies → Type 0
BindsKept shape n B too_deep = Unit {0}
BindsKept shape n B no_way = Unit {0}
BindsKept shape n B (yes_with C) = YesLeaves shape n B C
