-- The problem that a caller's lists say, each a list of its own, and what it takes to pack them into one.
use Rattle.std.specs.Prelude.{List, ℕ, ◌*◌, ◌≤◌, length}
use Rattle.inference.specs.Constraints.{max_exprs, max_constraints, max_overloads, max_sources, constraint_words}
use Rattle.inference.specs.Constraints.{overload_words, constraint_at, overload_at, rows_from, Problem}
use Rattle.inference.specs.SolveEntry.{words_in_use}
use Rattle.search_state.specs.declared.Sizes.{Sizes}
use Rattle.search_state.specs.Inner.Memory.{problem_words}

abbrev pub problem_from : (exprs constraints overloads sources : List ℕ) → Sizes → Problem
problem_from xs cs os ss z =
    record {
      constraints = rows_from (constraint_at cs) 0 z.constraints;
      overloads = rows_from (overload_at os) 0 z.overloads;
      sources = words_in_use ss z.sources;
      exprs = words_in_use xs z.exprs;
      default = z.default.0;
    }

-- lists within their ceilings, and room for them
pub record Packable (ls xs cs os ss : List ℕ) (z : Sizes) : Type 0 where
  pub exprs : z.exprs ≤ max_exprs
  pub constraints : z.constraints ≤ max_constraints
  pub overloads : z.overloads ≤ max_overloads
  pub sources : z.sources ≤ max_sources
  pub expr_words : z.exprs ≤ length xs
  pub constraint_words : constraint_words * z.constraints ≤ length cs
  pub overload_words : overload_words * z.overloads ≤ length os
  pub source_words : z.sources ≤ length ss
  pub room : problem_words ≤ length ls
