-- A leaf against the incumbent, and the words that it leaves as the next incumbent.
use Rattle.std.specs.Prelude.{◌≡◌, Bool, cond, List, ℕ, ◌<◌, ◌≤◌, length, drop}
use Rattle.std.proofs.Math.Seq.{paste}
use Rattle.resolved_sort.specs.declared.SortId.{SortId}
use Rattle.unification.specs.declared.Lengths.{Lengths}
use Rattle.std.specs.Prelude.{Some as Is}
use Rattle.unification.specs.Nodes.{binds_of}
use Rattle.unification.specs.Checked.{Ready}
use Rattle.unification.specs.Making.{Lent, Makes}
use Rattle.unification.specs.Inner.Making.{lent}
use Rattle.unification.specs.Growing.{PlacedIn}
use Rattle.inference.specs.Constraints.{max_exprs, max_constraints, max_components, rows_from}
use Rattle.inference.specs.Measure.{Ranking, smaller, compare}
use Rattle.inference.specs.Search.{resolve_all, dominated_by}
use Rattle.inference.specs.SolveEntry.{nothing_met}
use Rattle.inference.specs.Typing.{All}
use Rattle.search_state.specs.declared.Sizes.{Sizes}
use Rattle.search_state.specs.Inner.States.{State}
use Rattle.search_state.specs.declared.Branch.{Branch}
use Rattle.search_state.specs.Inner.Memory.{expr_at, problem_in, measure_at, best_measure_at, choices_at, best_choices_at}
use Rattle.search_state.specs.Inner.Memory.{scratch_used, best_of}
use Rattle.words.specs.Words.{part}

-- n components against as many of the incumbent's
abbrev pub ranked : List ℕ → ℕ → Ranking
ranked sc n = compare (part measure_at n sc) (part best_measure_at n sc)

-- where there is no incumbent, every measure is smaller
unfoldable pub ranked_by : Bool → List ℕ → ℕ → Ranking
ranked_by best sc n = cond best (ranked sc n) smaller

-- Whether the branch is dominated: the lists of the problem do not matter.
unfoldable pub IsDominated : List ℕ → Sizes → State → Branch → Bool → Type 0
IsDominated sc z k e r =
    (ls : List ℕ)
    → r
    ≡ dominated_by (Unit {0}) nothing_met (problem_in ls z) (part measure_at e.measure sc)
    (best_of ls z sc k.best k.tied)

-- places of n expressions that can be read out, each variable still free as d
pub record Readable (ws ns bs sc ls : List ℕ) (d : SortId) (n : ℕ) (k : Lengths) : Type 0 where
  pub ready : Ready ws ns bs k
  pub default : d.0 < k.sorts
  pub placed : All (PlacedIn (lent ws ns k)) (rows_from (expr_at ls) 0 n)
  pub few : n ≤ max_exprs
  pub long : scratch_used ≤ length sc

-- the sorts of n expressions from the i-th on
abbrev pub sorts_from : List ℕ → List ℕ → SortId → ℕ → ℕ → Lent → Makes (List ℕ)
sorts_from bs ls d i n W = resolve_all (Is d) (binds_of bs W.lengths.variables) (rows_from (expr_at ls) i n) W

-- n words from a copied to those from b on
abbrev pub copied : ℕ → ℕ → ℕ → List ℕ → List ℕ
copied a b n sc = paste sc b (drop a sc) n

-- the measure and the choices of the branch as those of the incumbent
unfoldable pub kept_as_best : Sizes → List ℕ → List ℕ
kept_as_best z sc =
    copied choices_at best_choices_at z.disjunctions (copied measure_at best_measure_at z.components sc)

pub record Keepable (z : Sizes) (sc : List ℕ) : Type 0 where
  pub components : z.components ≤ max_components
  pub disjunctions : z.disjunctions ≤ max_constraints
  pub long : scratch_used ≤ length sc
