-- "A place's sort under it is the place with these put in for its variables", by what stands at the place: a variable has its own sort, a sort of the
-- list is itself, a container is one over its part's sort, a function one over those of its parts. By the terms of places in checked lists. Assumes
-- nothing.
use mathlib.Core.Path.{◌≡◌, sym, ap, ap₂, ◌∙◌}
use mathlib.Core.List.{List, [], ◌∷◌, ◌++◌}
use mathlib.Core.Logic.{◌↔◌}
use Prim.Native.Nat.{ℕ, ◌<◌}
use lib.ListN.{length}
use Rattle.resolved_sort.specs.declared.ComplexSort.{ComplexSort}
use Rattle.resolved_sort.specs.Tree.{Flat, Tree, flat, container, function}
use Rattle.resolved_sort.specs.Interning.{look}
use Rattle.resolved_sort.specs.Storage.{look_all}
use Rattle.resolved_sort.proofs.Pairs.{arity_look_all}
use Rattle.unification.specs.Term.{Head, flat_head, container_head, function_head, Term, Terms, app, no_part, part, Shape, variable, over, term_of, terms_of, substitute}
use Rattle.unification.specs.Solutions.{terms_at, term_of_shape, term_to, term_at}
use Rattle.unification.specs.Exact.{shape_val}
use Rattle.unification.specs.Making.{Lent, graph}
use Rattle.unification.specs.Growing.{CheckedLent, term_in}
use Rattle.unification.proofs.Lists.{term_injective}
use Rattle.unification.proofs.PlaceTerms.{term_by_shape, sort_term}
use Rattle.inference.specs.Search.{sort_in}
use Rattle.inference.specs.Typing.{Assignment, Has, In, here, there}
use Rattle.inference.proofs.Invariant.{terms}

pub variable_has_its_sort : (shape : ℕ → Shape) (σ : Assignment) (p v : ℕ) (t : Tree) → shape p ≡ variable v → Has shape σ p t ↔ (σ v ≡ t)
unfolding term_to substitute
variable_has_its_sort shape σ p v t e =
    let q : substitute (λ u. term_of (σ u)) (term_at shape p) ≡ term_of (σ v) = ap (λ s. substitute (λ u. term_of (σ u)) (term_of_shape (term_to shape p) s)) e in
    (λ h. term_injective (σ v) t (sym q ∙ h), λ r. q ∙ ap term_of r)

module _ (W : Lent) (c : CheckedLent W) (σ : Assignment) where
  pub sort_has_itself : (s : ℕ) → s < W.lengths.sorts → Has (graph W) σ s (sort_in W s)
  sort_has_itself s l = sort_term W c (terms σ) s l

  by_shape : (p : ℕ) (h : Head) (ps : List ℕ) → graph W p ≡ over h ps → term_in W (terms σ) p ≡ app h (terms_at (term_in W (terms σ)) ps)
  by_shape p h ps e = term_by_shape W c (terms σ) p ∙ ap (shape_val (terms σ) (term_in W (terms σ))) e

  pub flat_has_itself : (p : ℕ) (a : Flat) → graph W p ≡ over (flat_head a) [] → Has (graph W) σ p (flat a)
  unfolding term_of
  flat_has_itself p a e = by_shape p (flat_head a) [] e

  pub container_has_its_parts : (p q : ℕ) (o : ComplexSort) (s : Tree) → graph W p ≡ over (container_head o) (q ∷ []) → Has (graph W) σ q s
      → Has (graph W) σ p (container o s)
  unfolding term_of
  container_has_its_parts p q o s e h = by_shape p (container_head o) (q ∷ []) e ∙ ap (λ t. app (container_head o) (part t no_part)) h

  -- places whose sorts are those that a list T has for them
  args_have : (T : List Tree) (qs : List ℕ) (r : ℕ) → ((q : ℕ) → In q (qs ++ (r ∷ [])) → Has (graph W) σ q (look T q))
      → terms_at (term_in W (terms σ)) (qs ++ (r ∷ [])) ≡ terms_of (look_all T qs) (part (term_of (look T r)) no_part)
  unfolding terms_of look_all
  args_have T [] r h = ap (λ t. part t no_part) (h r (here []))
  args_have T (q ∷ qs) r h =
      ap₂ (λ (t : Term) (ts : Terms). part t ts) (h q (here (qs ++ (r ∷ [])))) (args_have T qs r (λ x i. h x (there q (qs ++ (r ∷ [])) i)))

  pub function_has_its_parts : (p : ℕ) (qs : List ℕ) (r : ℕ) (T : List Tree) → graph W p ≡ over (function_head (length qs)) (qs ++ (r ∷ []))
      → ((q : ℕ) → In q (qs ++ (r ∷ [])) → Has (graph W) σ q (look T q)) → Has (graph W) σ p (function (look_all T qs) (look T r))
  unfolding term_of
  function_has_its_parts p qs r T e h =
      by_shape p (function_head (length qs)) (qs ++ (r ∷ [])) e
      ∙ ap₂ (λ (k : ℕ) (ts : Terms). app (function_head k) ts) (sym (arity_look_all T qs)) (args_have T qs r h)
