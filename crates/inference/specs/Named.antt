-- Names and choices of a typing: each disjunction's choice once, by rising expression number, and the name of each
-- expression.
use Rattle.std.specs.Prelude.{◌≡◌, false, List, map, ℕ, ◌<◌, length}
use Rattle.std.proofs.Math.Option.{some}
use Rattle.resolved_sort.specs.declared.Run.{Run}
use Rattle.unification.specs.declared.InferSortId.{InferSortId}
use Rattle.inference.specs.declared.ExprId.{ExprId}
use Rattle.inference.specs.declared.Outputs.{Outputs}
use Rattle.inference.specs.declared.Constraint.TheVariants.{Disjunction}
use Rattle.inference.specs.Constraints.{BaseName, Problem}
use Rattle.inference.specs.Measure.{Components}
use Rattle.inference.specs.Search.{Choice}
use Rattle.inference.specs.Names.{overload_in, base_name, name_of}
use Rattle.inference.specs.Typing.{In}
use Rattle.inference.specs.SolveChecks.{Call, given, disjunctions, among, components}
use Rattle.inference.specs.Rising.{RisingNumbers}
use Rattle.inference.specs.SolveEntry.{problem_of, base_names_of, SolveLeft, written_over}

abbrev pub expr_of : Choice → ℕ
expr_of k = k.expr

-- the overload at position i, for the expression x
abbrev pub choice : ℕ → ℕ → Choice
choice x i = record { expr = x; position = i }

-- The choice of a disjunction, and the name it gives.
pub record ChosenFor (P : Problem) (bs : List BaseName) (ks : List Choice) (x : ExprId) (run : Run) : Type 0 where
  pub position : ℕ
  pub below : position < run.count
  pub among_choices : In (choice x.0 position) ks
  pub only : (j : ℕ) → In (choice x.0 j) ks → j ≡ position
  pub name : name_of P bs ks x.0 ≡ some (overload_in P.overloads run position).target

-- Measure and choices as handed out, ks being the choices: how many components and choices there are; the choices by
-- rising expression number, for the expressions of the disjunctions, one for each; and the names that they give.
pub record Named (I : Call) (left : SolveLeft) (o : Outputs) (ks : List Choice) : Type 0 where
  pub measure : Components
  pub measure_handed_out : left.measure ≡ written_over measure I.measure
  pub handed_out : o.components ≡ length measure
  pub component_count : length measure ≡ components (given I)
  pub choice_count : o.choices ≡ length ks
  pub as_many : length ks ≡ length (disjunctions (given I))
  pub rises : RisingNumbers (map expr_of ks)
  pub for_disjunctions : (x : ℕ) → among x (map expr_of ks) ≡ among x (disjunctions (given I))
  pub once : (x i j : ℕ) → In (choice x i) ks → In (choice x j) ks → i ≡ j
  pub chosen : (x : ExprId) (p : InferSortId) (run : Run) → In (Disjunction x p run) (given I)
      → ChosenFor (problem_of I) (base_names_of I) ks x run
  pub others : (x : ℕ) → among x (disjunctions (given I)) ≡ false → name_of (problem_of I) (base_names_of I) ks x ≡
      base_name (base_names_of I) x
