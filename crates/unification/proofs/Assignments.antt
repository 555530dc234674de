-- "An assignment gives each variable a sort without inference variables." Sorts for the free variables extend to sorts for all variables under which
-- the bindings hold, and under an assignment every place stands for a sort: a term whose heads stand over as many parts as they should is the term of a
-- sort, once its variables have sorts. By induction on the term. Assumes nothing.
use mathlib.Core.Path.{◌≡◌, refl, ap, ap₂, sym, ◌∙◌, subst}
use mathlib.Core.List.{List, [], ◌∷◌}
use mathlib.Core.Option.{Option, none, some}
use mathlib.Core.Logic.{inl, inr}
use Prim.Native.Nat.{ℕ, zero, suc, ◌<◌}
use native.Mathlib.Omega.{arith}
use Rattle.resolved_sort.specs.Tree.{Tree}
use Rattle.unification.specs.Term.{Term, var, app, Terms, no_part, part, Shape, variable, over, term_of, substitute, substitutes}
use Rattle.unification.specs.Nodes.{Binds, binding}
use Rattle.unification.specs.Unify.{deep}
use Rattle.unification.specs.Solutions.{term_of_shape, term_to, term_at, Respects}
use Rattle.unification.specs.Resolve.{value, tree_over}
use Rattle.unification.specs.Making.{Lent, graph}
use Rattle.unification.proofs.Lists.{lower, scoped, term_injective}
use Rattle.unification.proofs.Places.{bound_is_place}
use Rattle.unification.proofs.Solved.{solution}
use Rattle.unification.proofs.Theorem.{deep_enough, checked_ranked}
use Rattle.unification.proofs.ResolvedSorts.{count, HeadOver, Formed, AllFormed}
use Rattle.unification.proofs.ResolvedPlaces.{ShapeOver, count_terms, terms_formed, place_over, value_formed}
use Rattle.unification.proofs.Resolved.{Has, OneHas, terms_for, count_for, head_term, count_puts, stands_free, put_place}
use Rattle.unification.specs.Growing.{CheckedLent, PlacedIn, CheckedBinds}
use Rattle.unification.proofs.Grows.{parts_placed}

-- a term that is a sort's
abbrev pub SortTerm : Term → Type 0
SortTerm t = (u : Tree) × (t ≡ term_of u)

module _ (σ : ℕ → Term) where
  mutual
    unfolding Formed AllFormed Has OneHas substitute substitutes terms_for

    pub put_is_sort : (t : Term) → Formed t → ((v : ℕ) → Has v t → SortTerm (σ v)) → SortTerm (substitute σ t)
    put_is_sort (var v) f s = s v refl
    put_is_sort (app h ts) f s =
        let r = puts_are_sorts ts f.1 s in
        (tree_over h r.0, ap (app h) r.1 ∙ head_term h r.0 (subst (HeadOver h) (sym (count_puts σ ts) ∙ (ap count r.1 ∙ count_for r.0)) f.0))

    puts_are_sorts : (ts : Terms) → AllFormed ts → ((v : ℕ) → OneHas v ts → SortTerm (σ v)) → (us : List Tree) × (substitutes σ ts ≡ terms_for us)
    puts_are_sorts no_part f s = ([], refl)
    puts_are_sorts (part t ts) f s =
        let x = put_is_sort t f.0 (λ v h. s v (inl h)) in
        let y = puts_are_sorts ts f.1 (λ v h. s v (inr h)) in
        (x.0 ∷ y.0, ap₂ part x.1 y.1)

module _ (W : Lent) (c : CheckedLent W) where
  abbrev ws : List ℕ
  ws = W.sorts

  abbrev ns : List ℕ
  ns = W.nodes

  abbrev n : ℕ
  n = W.lengths.sorts

  abbrev e : ℕ
  e = W.lengths.entries

  abbrev m : ℕ
  m = W.lengths.nodes

  abbrev d : ℕ
  d = W.lengths.arguments

  abbrev v : ℕ
  v = W.lengths.variables

  -- the term that stands at a place is formed as it should be
  formed_to : (k p : ℕ) → p < k → PlacedIn W p → Formed (term_to (graph W) k p)
  unfolding term_to Formed
  formed_to zero p l x = absurd (omega (arith, l))
  formed_to (suc k) p l x = go (graph W p) refl (place_over ws n e ns m d v c p x) (formed_to k)
    where
      go : (s : Shape) → graph W p ≡ s → ShapeOver s → ((q : ℕ) → q < k → PlacedIn W q
          → Formed (term_to (graph W) k q)) → Formed (term_of_shape (term_to (graph W) k) s)
      go (variable u) s o ih = tt
      go (over h ps) s o ih = (
        subst (HeadOver h) (sym (count_terms (term_to (graph W) k) ps)) o,
        terms_formed (term_to (graph W) k) ps (λ q i. ih q (omega (arith, l, (lower ws n e ns m d v c p q h ps s i).0)) (parts_placed W c p q h ps x s i)),
      )

  pub term_formed : (p : ℕ) → PlacedIn W p → Formed (term_at (graph W) p)
  term_formed p x = formed_to (suc p) p (omega arith) x

  -- Under an assignment of sorts every place stands for a sort.
  pub place_has_a_sort : (ρ : ℕ → Tree) (p : ℕ) → PlacedIn W p → (u : Tree) × (substitute (λ u. term_of (ρ u)) (term_at (graph W) p) ≡ term_of u)
  place_has_a_sort ρ p x = put_is_sort (λ u. term_of (ρ u)) (term_at (graph W) p) (term_formed p x) (λ u h. (ρ u, refl))

  -- Sorts for the free variables extend to sorts for all, under which the bindings hold.
  module _ (B : Binds) (b : CheckedBinds W B) where
    variable_is_sort : (t : ℕ → Tree) (σ : ℕ → Term) → Respects (graph W) B σ → ((u : ℕ) → binding B u ≡ none → σ u ≡ term_of (t u)) → (u : ℕ) → SortTerm (σ u)
    variable_is_sort t σ r f u = go (binding B u) refl
      where
        go : (o : Option ℕ) → binding B u ≡ o → SortTerm (σ u)
        go none i = (t u, f u i)
        go (some q) i =
            let z = put_is_sort σ (value (graph W) B q) (value_formed ws n e ns m d v c B b q (bound_is_place n m B u q b.places i))
            (λ w h. (t w, f w (stands_free (graph W) deep B (checked_ranked ws n e ns m d v c B b) w q h).1)) in
            (z.0, r u q i ∙ (sym (put_place ws n e ns m d v c B b σ r q) ∙ z.1))

    pub sorts_extend : (t : ℕ → Tree) → (ρ : ℕ → Tree) × (Respects (graph W) B (λ u. term_of (ρ u)) × ((u : ℕ) → binding B u ≡ none → ρ u ≡ t u))
    sorts_extend t =
        let s = solution (graph W) 3072 (lower ws n e ns m d v c) v (scoped ws n e ns m d v c) deep
        (deep_enough ws n e ns m d v c) B b.numbered (λ u. term_of (t u)) in
        let r = variable_is_sort t s.0 s.1.0 s.1.1 in
        (λ u. (r u).0, (subst (Respects (graph W) B) (λ i u. (r u).1 i) s.1.0, λ u i. term_injective (r u).0 (t u) (sym (r u).1 ∙ s.1.1 u i)))
