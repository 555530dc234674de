-- Demand 3: "at least one assignment of sorts .. under which all of this holds together". "An assignment gives each
-- variable a sort without inference variables (Def and TypeVar are sorts like any other). A place's sort under it is
-- the place with these put in for its variables; sorts are compared by structure."
use Rattle.std.specs.Prelude.{◌≡◌, Bool, true, false, List, [], ◌∷◌, ℕ, ◌<◌, take, drop}
use Rattle.std.proofs.Math.Option.{some}
use Rattle.resolved_sort.specs.declared.Run.{Run}
use Rattle.resolved_sort.specs.declared.SortId.{SortId}
use Rattle.resolved_sort.specs.declared.Sort.{Sort}
use Rattle.resolved_sort.specs.declared.ComplexSort.{ComplexSort}
use Rattle.resolved_sort.specs.Tree.{Tree, primitive, flat, container}
use Rattle.resolved_sort.specs.Order.{materializable}
use Rattle.resolved_sort.specs.Rows.{AllBelow}
use Rattle.unification.specs.declared.InferSortId.{InferSortId}
use Rattle.unification.specs.Term.{Shape, substitute, term_of}
use Rattle.unification.specs.Nodes.{Binds, binding}
use Rattle.unification.specs.Solutions.{term_at}
use Rattle.inference.specs.declared.ExprId.{ExprId}
use Rattle.inference.specs.declared.LitKind.{LitKind}
use Rattle.inference.specs.declared.LitKind.TheVariants.{Positive, Natural}
use Rattle.inference.specs.declared.Constraint.{Constraint}
use Rattle.inference.specs.declared.Constraint.TheVariants.{Sub, Lit, Disjunction, Comprehension, Join}
use Rattle.inference.specs.Constraints.{Problem}
use Rattle.inference.specs.Search.{Choice}
use Rattle.inference.specs.Names.{overload_in}

abbrev pub Assignment : Type 0
Assignment = ℕ → Tree

-- under the assignment σ the place p has the sort t
abbrev pub Has : (ℕ → Shape) → Assignment → ℕ → Tree → Type 0
Has shape σ p t = substitute (λ v. term_of (σ v)) (term_at shape p) ≡ term_of t

-- each literal has a number sort, the natural one ("0") never Pos
abbrev pub admits : LitKind → Sort → Bool
admits kind Sort.Bool = false
admits Positive Sort.Pos = true
admits Natural Sort.Pos = false
admits kind Sort.Nat = true
admits kind Sort.Int = true
admits kind Sort.Real = true

-- P holds of every one of the list
pub data All {A : Type 0} (P : A → Type 0) : List A → Type 0 where
  none_left : All P []
  and_all : (x : A) (xs : List A) → P x → All P xs → All P (x ∷ xs)

-- one of the list
pub data In {A : Type 0} (x : A) : List A → Type 0 where
  here : (xs : List A) → In x (x ∷ xs)
  there : (y : A) (xs : List A) → In x xs → In x (y ∷ xs)

-- what body and node of a comprehension over the sort u are: "a Set over its element sort with a
-- body of Bool, or a Bag over it with a body of Nat or Pos"
pub data ReadAs (u : Tree) : Tree → Tree → Type 0 where
  as_set : ReadAs u (flat (primitive Sort.Bool)) (container ComplexSort.Set u)
  as_bag : ReadAs u (flat (primitive Sort.Nat)) (container ComplexSort.Bag u)
  as_bag_of_pos : ReadAs u (flat (primitive Sort.Pos)) (container ComplexSort.Bag u)

-- a source "equals its target or is materializable into it"
pub record Into (shape : ℕ → Shape) (σ : Assignment) (t : Tree) (p : ℕ) : Type 0 where
  pub sort : Tree
  pub has : Has shape σ p sort
  pub into : materializable sort t ≡ true

-- A constraint is met under the assignment σ; look gives the sort of a number of the sort list.
module _ (shape : ℕ → Shape) (look : ℕ → Tree) (P : Problem) (choices : List Choice) (σ : Assignment) where
  pub data Meets : Constraint → Type 0 where
    meets_sub : (l r : InferSortId) (t : Tree) → Has shape σ r.0 t → Into shape σ t l.0
        → Meets (Sub l r)
    meets_lit : (p : InferSortId) (kind : LitKind) (s : Sort) → Has shape σ p.0 (flat (primitive s))
        → admits kind s ≡ true → Meets (Lit p kind)
    meets_disjunction : (x : ExprId) (p : InferSortId) (run : Run) (i : ℕ) (t : Tree)
        → In (record { expr = x.0; position = i }) choices → i < run.count
        → Has shape σ p.0 t
        → Has shape σ (overload_in P.overloads run i).sort.0 t
        → Meets (Disjunction x p run)
    meets_comprehension : (body node : InferSortId) (element : SortId) (s t : Tree) → Has shape σ body.0 s
        → Has shape σ node.0 t → ReadAs (look element.0) s t
        → Meets (Comprehension body node element)
    meets_join : (run : Run) (t : InferSortId) (u : Tree) → Has shape σ t.0 u
        → All (Into shape σ u) (take run.count (drop run.start P.sources)) → Meets (Join run t)

-- Every sort handed out is that of its expression's place.
pub data Typed (shape : ℕ → Shape) (look : ℕ → Tree) (σ : Assignment) : List ℕ → List ℕ → Type 0 where
  all_typed : Typed shape look σ [] []
  and_typed : (p s : ℕ) (ps ss : List ℕ) → Has shape σ p (look s) → Typed shape look σ ps ss
      → Typed shape look σ (p ∷ ps) (s ∷ ss)

-- The claim over the whole list: one assignment, under which each given binding holds, each sort
-- handed out is that of its expression's place, and each constraint is met; the sorts handed out
-- are of the list of `count` sorts that is left, and the choice list names one overload for an
-- expression. Sorts of the list given are looked up by `given`, those handed out by `left`.
pub record HoldsTogether (shape : ℕ → Shape) (given left : ℕ → Tree) (count : ℕ) (B : Binds) (P : Problem)
    (sorts : List ℕ) (choices : List Choice) : Type 0 where
  pub assignment : Assignment
  pub bound : (v q : ℕ) → binding B v ≡ some q → Has shape assignment q (assignment v)
  pub typed : Typed shape left assignment P.exprs sorts
  pub listed : AllBelow count sorts
  pub meets : All (Meets shape given P choices assignment) P.constraints
  pub once : (x i j : ℕ) → In (record { expr = x; position = i }) choices
      → In (record { expr = x; position = j }) choices → i ≡ j

-- the sorts of numbers
pub data NumberSort : Tree → Type 0 where
  is_pos : NumberSort (flat (primitive Sort.Pos))
  is_nat : NumberSort (flat (primitive Sort.Nat))
  is_int : NumberSort (flat (primitive Sort.Int))
  is_real : NumberSort (flat (primitive Sort.Real))
