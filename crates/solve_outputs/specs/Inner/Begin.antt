-- What the search of a call begins with: how many rows its lists have, no incumbent, and a branch
-- that has taken on nothing.
use Rattle.std.specs.Prelude.{refl, false, List, ℕ, ◌≤◌, length}
use Rattle.resolved_sort.specs.Storage.{max_sorts, max_entries}
use Rattle.unification.specs.declared.Lengths.{Lengths}
use Rattle.unification.specs.Nodes.{max_nodes, max_node_entries, max_vars}
use Rattle.inference.specs.Constraints.{max_exprs, max_constraints, max_overloads, max_sources, max_components}
use Rattle.inference.specs.SolveChecks.{Call, given, disjunctions, components}
use Rattle.search_state.specs.declared.Sizes.{Sizes}
use Rattle.search_state.specs.Inner.States.{State}
use Rattle.search_state.specs.declared.Branch.{Branch}
use Rattle.solve_checks.specs.declared.Room.{Room}
use Rattle.solve_checks.specs.Inner.Calls.{Outs}

-- scratch, index and outputs as they are lent
abbrev pub room_of : (scratch index typing measure choices : List ℕ) → Room
room_of sc ix ts ms hs =
    record { scratch = length sc; index = length ix; typing = length ts; measure = length ms; choices = length hs }

abbrev pub outs_of : (scratch index typing measure choices : List ℕ) → Outs (room_of scratch index typing measure choices)
outs_of sc ix ts ms hs =
    record {
      scratch = sc;
      index = ix;
      typing = ts;
      measure = ms;
      choices = hs;
      scratch_length = refl;
      index_length = refl;
      typing_length = refl;
      measure_length = refl;
      choices_length = refl;
    }

-- counts within their ceilings
pub record CountsFit (k : Lengths) : Type 0 where
  pub sorts : k.sorts ≤ max_sorts
  pub entries : k.entries ≤ max_entries
  pub nodes : k.nodes ≤ max_nodes
  pub arguments : k.arguments ≤ max_node_entries
  pub variables : k.variables ≤ max_vars

pub record RowsFit (I : Call) : Type 0 where
  pub exprs : I.rows.exprs ≤ max_exprs
  pub constraints : I.rows.constraints ≤ max_constraints
  pub overloads : I.rows.overloads ≤ max_overloads
  pub sources : I.rows.sources ≤ max_sources
  pub components : components (given I) ≤ max_components
  pub disjunctions : length (disjunctions (given I)) ≤ max_constraints

unfoldable pub sizes_of : Call → Sizes
sizes_of I =
    record {
      exprs = I.rows.exprs;
      constraints = I.rows.constraints;
      overloads = I.rows.overloads;
      sources = I.rows.sources;
      components = components (given I);
      disjunctions = length (disjunctions (given I));
      default = record { 0 = I.default };
    }

abbrev pub no_incumbent : Lengths → State
no_incumbent k = record { lengths = k; best = false; tied = false }

abbrev pub nothing_taken : Branch
nothing_taken = record { trail = 0; measure = 0; choices = 0 }
