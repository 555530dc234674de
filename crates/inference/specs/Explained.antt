-- What a typing comes with: one assignment, the components of its measure, and the names in its rows.
use Rattle.std.specs.Prelude.{◌≡◌, ℕ, ◌+◌, ◌*◌, ◌<◌, get_or}
use Rattle.std.proofs.Math.Option.{some}
use Rattle.resolved_sort.specs.Rows.{AllBelow}
use Rattle.resolved_sort.specs.Entries.{tree_at}
use Rattle.unification.specs.Nodes.{binding, binds_of}
use Rattle.unification.specs.Making.{graph}
use Rattle.inference.specs.declared.Outputs.{Outputs}
use Rattle.inference.specs.Search.{sort_in}
use Rattle.inference.specs.Typing.{Assignment, Has, Typed}
use Rattle.inference.specs.Components.{Costing}
use Rattle.inference.specs.SolveChecks.{Call}
use Rattle.inference.specs.Names.{name_of, name_kind, name_sort}
use Rattle.inference.specs.SolveEntry.{problem_of, base_names_of, lent_of, SolveLeft, sorts_out, measure_out}
use Rattle.inference.specs.SolveEntry.{choices_out}

-- One assignment under which a typing holds together, and under which its components are those of its constraints;
-- and the names in its rows.
pub record Explained (I : Call) (L : SolveLeft) (o : Outputs) : Type 0 where
  pub assignment : Assignment
  pub bound : (v q : ℕ) → binding (binds_of I.binds I.lengths.variables) v ≡ some q
      → Has (graph (lent_of I)) assignment q (assignment v)
  pub typed : Typed (graph (lent_of I)) (tree_at L.sorts o.counts.sorts) assignment (problem_of I).exprs
      (sorts_out I L)
  pub listed : AllBelow o.counts.sorts (sorts_out I L)
  pub components : Costing (graph (lent_of I)) (sort_in (lent_of I)) (problem_of I) (choices_out L o) assignment
      (problem_of I).constraints (measure_out L o)
  pub names : (x : ℕ) → x < I.rows.exprs
      → (get_or L.typing (3 * x + 1) 0 ≡ name_kind (name_of (problem_of I) (base_names_of I) (choices_out L o) x)) ×
      (get_or L.typing (3 * x + 2) 0 ≡ name_sort (name_of (problem_of I) (base_names_of I) (choices_out L o) x))
