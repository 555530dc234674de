-- Check 1 of the lists beside sorts, nodes and bindings, as bounds: counts within their ceilings, and the words lent.
use Rattle.std.specs.Prelude.{◌*◌, ◌≤◌, length}
use Rattle.inference.specs.Constraints.{max_exprs, max_constraints, max_overloads, max_sources, constraint_words}
use Rattle.inference.specs.Constraints.{overload_words, name_words}
use Rattle.inference.specs.SolveChecks.{Call}

pub record RowsLent (I : Call) : Type 0 where
  pub exprs : I.rows.exprs ≤ max_exprs
  pub expr_words : I.rows.exprs ≤ length I.exprs
  pub name_words : name_words * I.rows.names ≤ length I.names
  pub constraints : I.rows.constraints ≤ max_constraints
  pub constraint_words : constraint_words * I.rows.constraints ≤ length I.constraints
  pub overloads : I.rows.overloads ≤ max_overloads
  pub overload_words : overload_words * I.rows.overloads ≤ length I.overloads
  pub sources : I.rows.sources ≤ max_sources
  pub source_words : I.rows.sources ≤ length I.sources
