-- What is asked of the bindings of a unifier is asked of the unifier. Assumes nothing.
use mathlib.Core.Path.{◌≡◌, ap, ap₂, sym, ◌∙◌, subst}
use mathlib.Core.List.{List}
use mathlib.Core.Option.{Option}
use mathlib.Core.Bool.{Bool, true, false}
use Prim.Native.Nat.{ℕ}
use lib.Dec.{eqb}
use borrow.Author.Tests.{eqb-true, eqb-false}
use Rattle.unification.specs.Nodes.{binds_of}
use Rattle.unification.specs.Unify.{Occurs, follow, occurs, unify, deep}
use Rattle.unification.specs.Checked.{Placed}
use Rattle.unification.specs.Trail.{UnifyLeaves}
use Rattle.infer_nodes.specs.declared.Places.{Places}
use Rattle.infer_nodes.specs.declared.Bindings.{Bindings}
use Rattle.infer_nodes.specs.Places.{graph, bindings}
use Rattle.unifier.specs.Inner.Trying.{Trying}
use Rattle.unifier.proofs.Steps.{work_of}
use Rattle.unifier.specs.declared.Unifier.{Unifier}
use Rattle.unifier.specs.Unifier.{graph as graph_in, bindings as bindings_in}

module _ (B : Bindings) (U : Unifier) (e : (B.places ≡ U.places) × (B.binds.now ≡ U.binds.now)) where
  pub occurs_there : (v p : ℕ) (x : Occurs) → occurs (graph B.places) deep (bindings B) v p ≡ x
      → occurs (graph_in U) deep (bindings_in U) v p ≡ x
  occurs_there v p x o = ap₂ (λ (P : Places) (bs : List ℕ). occurs (graph P) deep (binds_of bs P.lengths.variables) v p) (sym e.0) (sym e.1) ∙ o

  pub end_there : (p : ℕ) (x : Option ℕ) → follow (graph B.places) deep (bindings B) p ≡ x
      → follow (graph_in U) deep (bindings_in U) p ≡ x
  end_there p x o = ap₂ (λ (P : Places) (bs : List ℕ). follow (graph P) deep (binds_of bs P.lengths.variables) p) (sym e.0) (sym e.1) ∙ o

-- The places of a unifier stay the same while parts are unified: what is shown of those is shown of these.
module _ (P Q : Places) (e : Q ≡ P) (bs ts : List ℕ) (c : ℕ) where
  pub can_try : Trying P.sorts.now P.nodes.now bs ts P.lengths c → Trying Q.sorts.now Q.nodes.now bs ts Q.lengths c
  can_try = subst (λ (X : Places). Trying X.sorts.now X.nodes.now bs ts X.lengths c) (sym e)

  pub placed_too : (p : ℕ) → Placed P.lengths p → Placed Q.lengths p
  placed_too p = subst (λ (X : Places). Placed X.lengths p) (sym e)

  pub work_too : (p : ℕ) → work_of Q.sorts.now Q.nodes.now bs Q.lengths p ≡ work_of P.sorts.now P.nodes.now bs P.lengths p
  work_too p = ap (λ (X : Places). work_of X.sorts.now X.nodes.now bs X.lengths p) e

  pub leaves_too : (p q : ℕ) (bs₁ ts₁ : List ℕ) (d : ℕ) (r : Bool)
      → UnifyLeaves Q.sorts.now Q.nodes.now Q.lengths (unify (graph Q) (binds_of bs Q.lengths.variables) p q) bs ts c bs₁ ts₁ d r
      → UnifyLeaves P.sorts.now P.nodes.now P.lengths (unify (graph P) (binds_of bs P.lengths.variables) p q) bs ts c bs₁ ts₁ d r
  leaves_too p q bs₁ ts₁ d r =
      subst (λ (X : Places). UnifyLeaves X.sorts.now X.nodes.now X.lengths (unify (graph X) (binds_of bs X.lengths.variables) p q) bs ts c bs₁ ts₁ d r) e

-- what a comparison found
module _ (a b : ℕ) (x : Bool) (e : x ≡ eqb a b) where
  pub equal : x ≡ true → a ≡ b
  equal y = eqb-true a b (sym e ∙ y)

  pub apart : x ≡ false → a ≡ b → ⊥
  apart y = eqb-false a b (sym e ∙ y)
