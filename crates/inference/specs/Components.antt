-- What each constraint adds to the measure, under an assignment: "256 measure components (one per
-- Sub, per Lit, per Join source)".
use Rattle.std.specs.Prelude.{◌≡◌, true, List, [], ◌∷◌, ◌++◌, ℕ, suc, take, drop}
use Rattle.std.proofs.Math.Option.{Option, none, some}
use Rattle.resolved_sort.specs.declared.Run.{Run}
use Rattle.resolved_sort.specs.declared.SortId.{SortId}
use Rattle.resolved_sort.specs.declared.Sort.{Sort}
use Rattle.resolved_sort.specs.Tree.{Tree, primitive, flat}
use Rattle.resolved_sort.specs.Order.{join, Steps, distance, materializable}
use Rattle.unification.specs.declared.InferSortId.{InferSortId}
use Rattle.unification.specs.Term.{Shape}
use Rattle.unification.specs.Related.{related, Member}
use Rattle.inference.specs.declared.ExprId.{ExprId}
use Rattle.inference.specs.declared.LitKind.{LitKind}
use Rattle.inference.specs.declared.Constraint.{Constraint}
use Rattle.inference.specs.declared.Constraint.TheVariants.{Sub, Lit, Disjunction, Comprehension, Join}
use Rattle.inference.specs.Constraints.{Problem}
use Rattle.inference.specs.Measure.{Components}
use Rattle.inference.specs.Search.{Choice, lit_component}
use Rattle.inference.specs.Typing.{Assignment, Has, Meets}

-- "unify (component 0) .. the wider sorts of the left side (1, 2, 3)", nearest first; the narrower
-- ones of the right side are as far
pub data Widened (s : Tree) : Tree → ℕ → Type 0 where
  equal_to : Widened s s 0
  wider_by : (t : Tree) (i : ℕ) → Member t i (related true s) → Widened s t (suc i)

-- the join of a sort with sorts, one after another
abbrev pub where_there : {A B : Type 0} → Option A → (A → Option B) → Option B
where_there none f = none
where_there (some a) f = f a

unfoldable pub joins : Tree → List Tree → Option Tree
joins t [] = some t
joins t (s ∷ ss) = where_there (join t s) (λ u. joins u ss)

-- sources of the sorts ss, each materializable into t, "with the head distances as components"
pub data Heads (shape : ℕ → Shape) (σ : Assignment) (t : Tree)
    : List ℕ → List Tree → Components → Type 0 where
  no_heads : Heads shape σ t [] [] []
  and_head : (p : ℕ) (s : Tree) (d : Steps) (ps : List ℕ) (ss : List Tree) (ns : Components) → Has shape σ p s
      → materializable s t ≡ true → distance true s t ≡ some d
      → Heads shape σ t ps ss ns → Heads shape σ t (p ∷ ps) (s ∷ ss) (d.head ∷ ns)

-- sources widened one after another
pub data Sequence (shape : ℕ → Shape) (σ : Assignment) (t : Tree) : List ℕ → Components → Type 0 where
  no_source : Sequence shape σ t [] []
  and_source : (p : ℕ) (s : Tree) (n : ℕ) (ps : List ℕ) (ns : Components) → Has shape σ p s → Widened s t n
      → Sequence shape σ t ps ns → Sequence shape σ t (p ∷ ps) (n ∷ ns)

module _ (shape : ℕ → Shape) (look : ℕ → Tree) (P : Problem) (choices : List Choice) (σ : Assignment) where
  pub data Costs : Constraint → Components → Type 0 where
    sub_costs : (l r : InferSortId) (s t : Tree) (n : ℕ) → Has shape σ l.0 s → Has shape σ r.0 t
        → Widened s t n → Costs (Sub l r) (n ∷ [])
    lit_costs : (p : InferSortId) (kind : LitKind) (s : Sort) (g : ℕ)
        → Has shape σ p.0 (flat (primitive s)) → lit_component kind s ≡ some g → Costs (Lit p kind) (g ∷ [])
    disjunction_costs : (x : ExprId) (p : InferSortId) (run : Run)
        → Meets shape look P choices σ (Disjunction x p run) → Costs (Disjunction x p run) []
    comprehension_costs : (body node : InferSortId) (element : SortId)
        → Meets shape look P choices σ (Comprehension body node element)
        → Costs (Comprehension body node element) []
    agreed_costs : (run : Run) (t : InferSortId) (s u : Tree) (ss : List Tree) (ns : Components)
        → Has shape σ t.0 u
        → Heads shape σ u (take run.count (drop run.start P.sources)) (s ∷ ss) ns
        → joins s ss ≡ some u
        → Costs (Join run t) ns
    sequence_costs : (run : Run) (t : InferSortId) (u : Tree) (ns : Components) → Has shape σ t.0 u
        → Sequence shape σ u (take run.count (drop run.start P.sources)) ns
        → Costs (Join run t) ns

  -- the components of constraints, in their order
  pub data Costing : List Constraint → Components → Type 0 where
    nothing_costs : Costing [] []
    and_costs : (c : Constraint) (cs : List Constraint) (ns ms : Components) → Costs c ns → Costing cs ms
        → Costing (c ∷ cs) (ns ++ ms)
