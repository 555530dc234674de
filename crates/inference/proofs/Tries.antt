-- Tries keep what holds all through a search. A try that goes on has made its two places equal, so that under every assignment that respects the
-- bindings the claim of what comes next holds with its component. One try after another, on lists that have grown. Assumes nothing.
use mathlib.Core.Path.{ap, sym, ◌∙◌}
use mathlib.Core.List.{List, [], ◌∷◌, ◌++◌}
use Rattle.unification.specs.Term.{substitute}
use Rattle.unification.specs.Nodes.{Binds}
use Rattle.unification.specs.Solutions.{Respects, Equates}
use Rattle.unification.specs.Making.{Lent, graph}
use Rattle.unification.specs.Growing.{CheckedLent, PlacedIn, Grows}
use Rattle.unification.proofs.Grows.{placed_grown, term_grown, respects_grown}
use Rattle.unification.proofs.BindsGrow.{binds_name_places}
use Rattle.inference.specs.Constraints.{Problem}
use Rattle.inference.specs.Search.{Path, Try, World, with_components, unifying, Going, first_found}
use Rattle.inference.specs.Typing.{Assignment, All, none_left, and_all}
use Rattle.inference.proofs.Invariant.{Claim, terms, Sound, FineBest, Leaves, Goes, or_else_leaves, missed_leaves, unifying_leaves}

-- A try of places of the lists, under which Q becomes R with its component.
pub record Leads (W : Lent) (e : Path) (Q R : Claim) (t : Try) : Type 0 where
  pub left : PlacedIn W t.left
  pub right : PlacedIn W t.right
  pub so : (ρ : Assignment) → Respects (graph W) e.binds (terms ρ) → Equates (graph W) (terms ρ) t.left t.right → Q e.choices ρ e.measure
      → R e.choices ρ (e.measure ++ (t.component ∷ []))

module _ (W₀ : Lent) (B₀ : Binds) (P : Problem) (c₀ : CheckedLent W₀) (Met : Type 0) (meet : Path → Lent → Met → Met) where
  module _ (e : Path) (Q R : Claim) where
    -- and so on lists that have grown
    pub lead_grown : (W W' : Lent) → Sound W₀ B₀ P W e Q → Grows W W' → (ts : List Try) → All (Leads W e Q R) ts → All (Leads W' e Q R) ts
    lead_grown W W' s g _ none_left = none_left
    lead_grown W W' s g _ (and_all t ts x xs) =
        let c = s.grown.checked in
        and_all t ts
        (record {
          left = placed_grown W c W' g t.left x.left;
          right = placed_grown W c W' g t.right x.right;
          so =
              λ ρ r q. x.so ρ ((respects_grown W c W' g e.binds (binds_name_places W e.binds s.binds) (terms ρ)).1 r)
              (ap (substitute (terms ρ)) (sym (term_grown W c W' g t.left x.left)) ∙
              (q ∙ ap (substitute (terms ρ)) (term_grown W c W' g t.right x.right)));
        })
        (lead_grown W W' s g ts xs)

    module _ (k : Going Met meet P) (g : Goes W₀ B₀ P Met R k) where
      pub try_leaves : (w : World Met) → Sound W₀ B₀ P w.lent e Q → FineBest W₀ B₀ P w.lent w.best → (t : Try) → Leads w.lent e Q R t
          → Leaves W₀ B₀ P Met w.lent (unifying e.binds t.left t.right (λ C. k (with_components e (t.component ∷ []) C)) w)
      try_leaves w s f t x =
          unifying_leaves W₀ B₀ P Met e w Q s f t.left t.right x.left x.right (e.measure ++ (t.component ∷ [])) e.choices R x.so _
          (λ C s'. g (with_components e (t.component ∷ []) C) w s' f)

      -- "It stops at the first try that found."
      pub first_found_leaves : (ts : List Try) (w : World Met) → Sound W₀ B₀ P w.lent e Q
          → FineBest W₀ B₀ P w.lent w.best → All (Leads w.lent e Q R) ts
          → Leaves W₀ B₀ P Met w.lent (first_found Met meet P ts k e w)
      unfolding first_found
      first_found_leaves [] w s f none_left = missed_leaves W₀ B₀ P Met w s.grown.checked f
      first_found_leaves (t ∷ ts) w s f (and_all _ _ x xs) =
          or_else_leaves W₀ B₀ P Met e w Q s c₀ _ (first_found Met meet P ts k e) (try_leaves w s f t x)
          (λ v g s' f'. first_found_leaves ts v s' f' (lead_grown w.lent v.lent s g ts xs))
