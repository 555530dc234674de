-- What is shown of the places and bindings of an arena is shown of the arena. Assumes nothing.
use mathlib.Core.Path.{◌≡◌, sym, subst}
use mathlib.Core.List.{List}
use mathlib.Core.Option.{Option}
use mathlib.Core.Bool.{Bool}
use Prim.Native.Nat.{ℕ}
use lib.Dec.{eqb}
use Rattle.resolved_sort.specs.Storage.{function_kind}
use Rattle.unification.specs.declared.Lengths.{Lengths}
use Rattle.unification.specs.Term.{kind_head}
use Rattle.unification.specs.Inner.Term.{head_of}
use Rattle.unification.specs.Nodes.{binds_of}
use Rattle.unification.specs.Unify.{follow, deep}
use Rattle.unification.specs.Checked.{graph_of, Ready, Placed}
use Rattle.infer_nodes.specs.declared.Places.{Places}
use Rattle.infer_nodes.specs.declared.Bindings.{Bindings}
use Rattle.infer_nodes.specs.Inner.Bound.{BindsPass}
use Rattle.infer_nodes.specs.Places.{graph, bindings}
use Rattle.infer_nodes.proofs.Passing.{pass_of}
use Rattle.related_sorts.specs.declared.Arena.{Arena}
use Rattle.related_sorts.specs.declared.Last.{Last}
use Rattle.related_sorts.specs.Arena.{BindingsOf}
use Rattle.related_sorts.specs.Inner.Ranges.{FinalRange}

module _ (A : Arena) (P : Places) (e : (P.sorts.now ≡ A.sorts.now) × (P.nodes.now ≡ A.nodes.now) × (P.lengths ≡ A.lengths)) where
  there : (Q : List ℕ → List ℕ → Lengths → Type 0) → Q P.sorts.now P.nodes.now P.lengths → Q A.sorts.now A.nodes.now A.lengths
  there Q x =
      subst (λ (k : Lengths). Q A.sorts.now A.nodes.now k) e.2
      (subst (λ (ns : List ℕ). Q A.sorts.now ns P.lengths) e.1 (subst (λ (ws : List ℕ). Q ws P.nodes.now P.lengths) e.0 x))

  pub kind_there : (p : ℕ) (r : Bool) → r ≡ eqb (kind_head (head_of (graph P p))) function_kind
      → r ≡ eqb (kind_head (head_of (graph_of A.sorts.now A.nodes.now A.lengths p))) function_kind
  kind_there p r = there (λ ws ns k. r ≡ eqb (kind_head (head_of (graph_of ws ns k p))) function_kind)

  pub placed_there : (p : ℕ) → Placed A.lengths p → Placed P.lengths p
  placed_there p = subst (λ (k : Lengths). Placed k p) (sym e.2)

  pub pass_there : (bs : List ℕ) → Ready A.sorts.now A.nodes.now bs A.lengths → BindsPass P.sorts.now P.nodes.now bs P.lengths
  pass_there bs q =
      subst (λ (k : Lengths). BindsPass P.sorts.now P.nodes.now bs k) (sym e.2)
      (subst (λ (ns : List ℕ). BindsPass P.sorts.now ns bs A.lengths) (sym e.1)
      (subst (λ (ws : List ℕ). BindsPass ws A.nodes.now bs A.lengths) (sym e.0) (pass_of A.sorts.now A.nodes.now bs A.lengths q)))

module _ (A : Arena) (bs : List ℕ) (B : Bindings) (e : BindingsOf A bs B) where
  bound : (Q : List ℕ → List ℕ → Lengths → List ℕ → Type 0) → Q B.places.sorts.now B.places.nodes.now B.places.lengths B.binds.now
      → Q A.sorts.now A.nodes.now A.lengths bs
  bound Q x = subst (Q A.sorts.now A.nodes.now A.lengths) e.3 (there A B.places (e.0, e.1, e.2) (λ ws ns k. Q ws ns k B.binds.now) x)

  pub end_there : (p : ℕ) (x : Option ℕ) → follow (graph B.places) deep (bindings B) p ≡ x
      → follow (graph_of A.sorts.now A.nodes.now A.lengths) deep (binds_of bs A.lengths.variables) p ≡ x
  end_there p x = bound (λ ws ns k cs. follow (graph_of ws ns k) deep (binds_of cs k.variables) p ≡ x)

  pub final_there : (p : ℕ) (fs : List ℕ) (r : Last) → FinalRange B.places.sorts.now B.places.nodes.now B.binds.now B.places.lengths p fs r
      → FinalRange A.sorts.now A.nodes.now bs A.lengths p fs r
  final_there p fs r = bound (λ ws ns k cs. FinalRange ws ns cs k p fs r)
