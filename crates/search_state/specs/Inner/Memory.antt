-- The problem and the state of the search in words. The scratch: trail 512, incumbent sorts 512, measure, best measure,
-- choices, best choices 256 each. Of a choice only the position is kept: the choices go in the order of the
-- disjunctions, whose expressions are in the problem.
use Rattle.std.specs.Prelude.{Bool, cond, List, [], ◌∷◌, ℕ, ◌+◌, ◌-◌, get_or, drop}
use Rattle.std.proofs.Math.Option.{Option, none, some}
use Rattle.unification.specs.Nodes.{Binds}
use Rattle.inference.specs.declared.Constraint.{Constraint}
use Rattle.inference.specs.Constraints.{constraint_at, overload_at, rows_from, Problem}
use Rattle.inference.specs.Search.{Choice, Path, Candidate, World, Out, found, missed, ended, Going, sequence, solve}
use Rattle.inference.specs.SolveChecks.{disjunctions}
use Rattle.inference.specs.SolveEntry.{nothing_met}
use Rattle.search_state.specs.declared.Sizes.{Sizes}
use Rattle.search_state.specs.Inner.States.{State}
use Rattle.search_state.specs.declared.Branch.{Branch}
use Rattle.search_state.specs.Inner.States.{Answer}
use Rattle.search_state.specs.Inner.States.{Found, Missed, Full}
use Rattle.search_state.specs.declared.Next.{Next}
use Rattle.search_state.specs.declared.Next.TheVariants.{Solve, Source}
use Rattle.words.specs.Words.{part}
use Rattle.unification.specs.Inner.Making.{lent}

-- The lists of the problem as one list of words: constraints, overloads, sources and places of
-- expressions, each at its ceiling.
abbrev pub overloads_at : ℕ
overloads_at = 1280

abbrev pub sources_at : ℕ
sources_at = 4352

abbrev pub exprs_at : ℕ
exprs_at = 4608

abbrev pub problem_words : ℕ
problem_words = 5120

abbrev pub source_at : List ℕ → ℕ → ℕ
source_at ls j = get_or ls (sources_at + j) 0

abbrev pub expr_at : List ℕ → ℕ → ℕ
expr_at ls x = get_or ls (exprs_at + x) 0

unfoldable pub problem_in : List ℕ → Sizes → Problem
problem_in ls z =
    record {
      constraints = rows_from (constraint_at ls) 0 z.constraints;
      overloads = rows_from (overload_at (drop overloads_at ls)) 0 z.overloads;
      sources = rows_from (source_at ls) 0 z.sources;
      exprs = rows_from (expr_at ls) 0 z.exprs;
      default = z.default.0;
    }

-- the constraints from the i-th on
abbrev pub rest_from : List ℕ → Sizes → ℕ → List Constraint
rest_from ls z i = rows_from (constraint_at ls) i (z.constraints - i)

-- the expressions of the disjunctions, in order
unfoldable pub chosen_exprs : List ℕ → Sizes → List ℕ
chosen_exprs ls z = disjunctions (rest_from ls z 0)

-- where the blocks of the scratch begin; the trail is at 0
abbrev pub trail_words : ℕ
trail_words = 512

abbrev pub best_sorts_at : ℕ
best_sorts_at = 512

abbrev pub measure_at : ℕ
measure_at = 1024

abbrev pub best_measure_at : ℕ
best_measure_at = 1280

abbrev pub choices_at : ℕ
choices_at = 1536

abbrev pub best_choices_at : ℕ
best_choices_at = 1792

abbrev pub scratch_used : ℕ
scratch_used = 2048

-- positions as the choices of expressions
unfoldable pub choices_of : List ℕ → List ℕ → List Choice
choices_of [] is = []
choices_of (x ∷ xs) [] = []
choices_of (x ∷ xs) (i ∷ is) = record { expr = x; position = i } ∷ choices_of xs is

module _ (ls : List ℕ) (z : Sizes) where
  -- the branch, as a path
  abbrev pub path_of : Binds → List ℕ → Branch → Path
  path_of B sc e =
      record {
        binds = B;
        measure = part measure_at e.measure sc;
        choices = choices_of (chosen_exprs ls z) (part choices_at e.choices sc);
      }

  -- the choices of the incumbent, in the order of the disjunctions
  abbrev pub choices_kept : List ℕ → List Choice
  choices_kept sc = choices_of (chosen_exprs ls z) (part best_choices_at z.disjunctions sc)

  -- the incumbent
  unfoldable pub candidate_of : List ℕ → Bool → Candidate
  candidate_of sc tied =
      record {
        measure = part best_measure_at z.components sc;
        sorts = part best_sorts_at z.exprs sc;
        choices = choices_kept sc;
        duplicate = tied;
      }

  unfoldable pub best_of : List ℕ → Bool → Bool → Option Candidate
  best_of sc best tied = cond best (some (candidate_of sc tied)) none

  abbrev pub world_of : List ℕ → List ℕ → List ℕ → State → World (Unit {0})
  world_of ws ns sc k =
      record { lent = lent ws ns k.lengths; best = best_of sc k.best k.tied; met = tt }

  abbrev pub out_of : List ℕ → List ℕ → List ℕ → Answer → Out (Unit {0})
  out_of ws ns sc (Found k) = found (world_of ws ns sc k)
  out_of ws ns sc (Missed k) = missed (world_of ws ns sc k)
  out_of ws ns sc (Full c k) = ended c (lent ws ns k)

  -- what a value names as coming next
  abbrev pub solve_from : ℕ → Going (Unit {0}) nothing_met (problem_in ls z)
  solve_from i = solve (Unit {0}) nothing_met (problem_in ls z) (rest_from ls z i)

  unfoldable pub next_of : Next → Going (Unit {0}) nothing_met (problem_in ls z)
  next_of (Solve i) = solve_from i
  next_of (Source t j n i) =
      sequence (Unit {0}) nothing_met (problem_in ls z) (rows_from (source_at ls) j (n - j)) t.0 (solve_from i)
