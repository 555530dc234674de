-- The most general solution of bindings, as terms for the variables: a free one stands for itself, a bound one for what it is bound to, through the
-- bindings. It respects the bindings, a place stands for its value under it, and whatever respects the bindings is an instance of it. So what a yes of
-- unify leaves is the most general solution. By the value of a place, which is a model of the bindings. Assumes nothing.
use mathlib.Core.Path.{◌≡◌, refl, sym, ◌∙◌, subst}
use mathlib.Core.List.{List}
use mathlib.Core.Option.{Option, none, some}
use Prim.Native.Nat.{ℕ, suc}
use native.Mathlib.Omega.{arith}
use Rattle.unification.specs.Term.{Term, var, substitute}
use Rattle.unification.specs.Nodes.{Binds, binding}
use Rattle.unification.specs.Unify.{yes_with, deep, deeper, unify}
use Rattle.unification.specs.Acyclic.{Numbering}
use Rattle.unification.specs.Solutions.{value_bound, term_at, Respects, Equates, Robinson, says_yes}
use Rattle.unification.specs.Resolve.{value, general}
use Rattle.unification.specs.Making.{Lent, graph}
use Rattle.unification.specs.Exact.{Model, BindsKept}
use Rattle.unification.proofs.Rank.{Ranked}
use Rattle.unification.proofs.Numbering.{numbered_ranked}
use Rattle.unification.proofs.Enough.{model}
use Rattle.unification.proofs.Lists.{lower, scoped}
use Rattle.unification.proofs.Robinson.{unify_kept}
use Rattle.unification.proofs.Solved.{value_of_model, respects_model}
use Rattle.unification.proofs.Theorem.{deep_enough, unify_is_robinson}
use Rattle.unification.proofs.Resolved.{put_value}
use Rattle.unification.specs.Growing.{CheckedLent, CheckedBinds}

module _ (W : Lent) (c : CheckedLent W) where
  abbrev ws : List ℕ
  ws = W.sorts

  abbrev ns : List ℕ
  ns = W.nodes

  abbrev n : ℕ
  n = W.lengths.sorts

  abbrev e : ℕ
  e = W.lengths.entries

  abbrev m : ℕ
  m = W.lengths.nodes

  abbrev d : ℕ
  d = W.lengths.arguments

  abbrev v : ℕ
  v = W.lengths.variables

  module _ (B : Binds) (N : Numbering (graph W) W.lengths.variables B) where
    abbrev A : Ranked (graph W) deep B
    A = numbered_ranked (graph W) 3072 (lower ws n e ns m d v c) v B N deep (deep_enough ws n e ns m d v c)

    values_are_a_model : Model (graph W) B (general (graph W) B) (value (graph W) B)
    values_are_a_model = model (graph W) deep B A var

    pub general_respects : Respects (graph W) B (general (graph W) B)
    general_respects = respects_model (graph W) 3072 (lower ws n e ns m d v c) B (general (graph W) B) (value (graph W) B) values_are_a_model

    -- what a place stands for under it
    pub value_is_general : (p : ℕ) → value (graph W) B p ≡ substitute (general (graph W) B) (term_at (graph W) p)
    value_is_general p = value_of_model (graph W) 3072 (lower ws n e ns m d v c) B (general (graph W) B)
        (value (graph W) B) values_are_a_model (suc p) p (omega arith)

    -- Every solution is an instance of it.
    pub instance_of_general : (σ : ℕ → Term) → Respects (graph W) B σ → (u : ℕ) → σ u ≡ substitute σ (general (graph W) B u)
    unfolding substitute
    instance_of_general σ r u = go (binding B u) refl
      where
        go : (o : Option ℕ) → binding B u ≡ o → σ u ≡ substitute σ (value_bound var u (value (graph W) B) o)
        go none i = refl
        go (some q) i = r u q i ∙ sym (put_value (graph W) deep B A 3072 (lower ws n e ns m d v c) σ r q)

  -- A yes of unify: the most general solution of its bindings respects the bindings of before and equates the two sides, and whatever does so is an
  -- instance of it.
  module _ (B : Binds) (b : CheckedBinds W B) (l r : ℕ) (C : Binds) (y : unify (graph W) B l r ≡ yes_with C) where
    pub numbered_after : Numbering (graph W) W.lengths.variables C
    unfolding unify
    numbered_after =
        (subst (BindsKept (graph W) v B) y (unify_kept (graph W) 3072 (lower ws n e ns m d v c) v (scoped ws n e ns m d
        v c) deep (deep_enough ws n e ns m d v c) deeper B l r b.many b.numbered)).numbering

    pub unify_most_general : (Respects (graph W) B (general (graph W) C) × Equates (graph W) (general (graph W) C) l r)
        × ((σ : ℕ → Term) → Respects (graph W) B σ → Equates (graph W) σ l r → (u : ℕ) → σ u ≡ substitute σ (general (graph W) C u))
    unify_most_general = go C numbered_after (subst (Robinson (graph W) B l r) y (unify_is_robinson ws n e ns m d v c B b l r))
      where
        go : (C : Binds) → Numbering (graph W) W.lengths.variables C → Robinson (graph W) B l r (yes_with C)
            → (Respects (graph W) B (general (graph W) C) × Equates (graph W) (general (graph W) C) l r)
            × ((σ : ℕ → Term) → Respects (graph W) B σ → Equates (graph W) σ l r → (u : ℕ) → σ u ≡ substitute σ (general (graph W) C u))
        go C N (says_yes _ sound complete acyclic solution) = (
          sound (general (graph W) C) (general_respects C N),
          λ σ s i. instance_of_general C N σ (complete σ s i),
        )
