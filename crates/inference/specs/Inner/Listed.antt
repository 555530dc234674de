-- What only contracts of inner functions cite: constraints whose places are listed, and lists in which only sorts grew.
use Rattle.std.specs.Prelude.{◌≡◌, ℕ, ◌+◌, ◌<◌, ◌≤◌, length, take, drop}
use Rattle.resolved_sort.specs.declared.Run.{Run}
use Rattle.resolved_sort.specs.declared.SortId.{SortId}
use Rattle.unification.specs.declared.InferSortId.{InferSortId}
use Rattle.unification.specs.Making.{Lent}
use Rattle.unification.specs.Growing.{PlacedIn, Grows}
use Rattle.inference.specs.declared.ExprId.{ExprId}
use Rattle.inference.specs.declared.LitKind.{LitKind}
use Rattle.inference.specs.declared.Constraint.{Constraint}
use Rattle.inference.specs.declared.Constraint.TheVariants.{Sub, Lit, Disjunction, Comprehension, Join}
use Rattle.inference.specs.Constraints.{Problem}
use Rattle.inference.specs.Names.{overload_in}
use Rattle.inference.specs.Typing.{All}

-- A constraint whose places and sorts are those of the lists W.
pub data ListedConstraint (W : Lent) (P : Problem) : Constraint → Type 0 where
  sub_listed : (l r : InferSortId) → PlacedIn W l.0 → PlacedIn W r.0 → ListedConstraint W P (Sub l r)
  lit_listed : (p : InferSortId) (kind : LitKind) → PlacedIn W p.0 → ListedConstraint W P (Lit p kind)
  disjunction_listed : (x : ExprId) (p : InferSortId) (run : Run) → PlacedIn W p.0
      → run.start + run.count ≤ length P.overloads
      → ((i : ℕ) → i < run.count → PlacedIn W (overload_in P.overloads run i).sort.0)
      → ListedConstraint W P (Disjunction x p run)
  comprehension_listed : (body node : InferSortId) (element : SortId) → PlacedIn W body.0 → PlacedIn W node.0
      → element.0 < W.lengths.sorts
      → ListedConstraint W P (Comprehension body node element)
  join_listed : (run : Run) (t : InferSortId) → PlacedIn W t.0 → run.start + run.count ≤ length P.sources
      → All (PlacedIn W) (take run.count (drop run.start P.sources)) → ListedConstraint W P (Join run t)

-- the lists have grown by sorts only
pub record SortsOnly (W W' : Lent) : Type 0 where
  pub grows : Grows W W'
  pub nodes : W'.lengths.nodes ≡ W.lengths.nodes
  pub arguments : W'.lengths.arguments ≡ W.lengths.arguments
