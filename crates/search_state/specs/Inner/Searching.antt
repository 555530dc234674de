-- What a function of the search asks for, and what it leaves.
use Rattle.std.specs.Prelude.{◌≡◌, List, [], ◌∷◌, ◌++◌, ℕ, ◌+◌, ◌-◌, ◌<◌, ◌≤◌, length, get_or, take, drop}
use Rattle.resolved_sort.specs.declared.Run.{Run}
use Rattle.unification.specs.declared.Lengths.{Lengths}
use Rattle.unification.specs.Nodes.{binds_of}
use Rattle.unification.specs.Checked.{Ready}
use Rattle.unification.specs.Trail.{frees}
use Rattle.unification.specs.Making.{Lent, graph}
use Rattle.unification.specs.Inner.Making.{lent}
use Rattle.unification.specs.Growing.{PlacedIn, Grows}
use Rattle.inference.specs.declared.Constraint.{Constraint}
use Rattle.inference.specs.Constraints.{max_exprs, max_constraints, max_overloads, max_sources, max_components, rows_from}
use Rattle.inference.specs.Constraints.{Problem}
use Rattle.inference.specs.Search.{Out, Going, on_yes}
use Rattle.inference.specs.SolveChecks.{disjunctions, components}
use Rattle.inference.specs.SolveEntry.{nothing_met}
use Rattle.inference.specs.Typing.{All}
use Rattle.inference.specs.Inner.Listed.{ListedConstraint, SortsOnly}
use Rattle.search_state.specs.declared.Sizes.{Sizes}
use Rattle.search_state.specs.Inner.States.{State}
use Rattle.search_state.specs.declared.Branch.{Branch}
use Rattle.search_state.specs.Inner.States.{Answer}
use Rattle.search_state.specs.Inner.States.{Found, Missed, Full}
use Rattle.search_state.specs.declared.Next.{Next}
use Rattle.search_state.specs.declared.Next.TheVariants.{Solve, Source}
use Rattle.search_state.specs.declared.Step.{Step}
use Rattle.search_state.specs.declared.Step.TheVariants.{Nothing, Component, Written, Choice}
use Rattle.search_state.specs.declared.Pairs.{Pairs}
use Rattle.search_state.specs.Inner.Memory.{source_at, problem_in, rest_from, chosen_exprs, trail_words, measure_at}
use Rattle.search_state.specs.Inner.Memory.{choices_at, scratch_used, path_of, world_of, out_of, next_of}
use Rattle.words.specs.Words.{part}
use Rattle.search_state.specs.Inner.Leaves.{unify_pairs, path_after}

-- what the checks have shown of the problem: its places and sorts are those of the lists
pub record Suits (W : Lent) (P : Problem) : Type 0 where
  pub six : 6 ≤ W.lengths.sorts
  pub default : P.default < W.lengths.sorts
  pub exprs : All (PlacedIn W) P.exprs
  pub constraints : All (ListedConstraint W P) P.constraints

-- and its sizes are within the ceilings
pub record Sized (P : Problem) (z : Sizes) : Type 0 where
  pub exprs : z.exprs ≤ max_exprs
  pub constraints : z.constraints ≤ max_constraints
  pub overloads : z.overloads ≤ max_overloads
  pub sources : z.sources ≤ max_sources
  pub components : components P.constraints ≡ z.components
  pub few_components : z.components ≤ max_components
  pub disjunctions : length (disjunctions P.constraints) ≡ z.disjunctions
  pub few_disjunctions : z.disjunctions ≤ max_constraints

-- the constraints that come next, and how many components
abbrev pub next_constraints : List ℕ → Sizes → Next → List Constraint
next_constraints ls z (Solve i) = rest_from ls z i
next_constraints ls z (Source t j n i) = rest_from ls z i

abbrev pub next_components : List ℕ → Sizes → Next → ℕ
next_components ls z (Solve i) = components (rest_from ls z i)
next_components ls z (Source t j n i) = (n - j) + components (rest_from ls z i)

-- what is named as coming next is there
pub record SourcesFine (W : Lent) (ls : List ℕ) (z : Sizes) (t j n : ℕ) : Type 0 where
  pub ordered : j ≤ n
  pub inside : n ≤ z.sources
  pub target : PlacedIn W t
  pub placed : All (PlacedIn W) (rows_from (source_at ls) j (n - j))

abbrev pub NextFine : Lent → List ℕ → Sizes → Next → Type 0
NextFine W ls z (Solve i) = i ≤ z.constraints
NextFine W ls z (Source t j n i) = (i ≤ z.constraints) × SourcesFine W ls z t.0 j n

-- A branch on which, after `more` components and choices for the expressions xs, comes `next`.
pub record Searching (ws ns bs sc ls : List ℕ) (z : Sizes) (k : State) (e : Branch) (more : ℕ) (xs : List ℕ)
    (next : Next) : Type 0 where
  pub ready : Ready ws ns bs k.lengths
  pub suits : Suits (lent ws ns k.lengths) (problem_in ls z)
  pub sized : Sized (problem_in ls z) z
  pub long : scratch_used ≤ length sc
  pub trail : e.trail + frees (binds_of bs k.lengths.variables) ≤ trail_words
  pub fine : NextFine (lent ws ns k.lengths) ls z next
  pub measure : e.measure + (more + next_components ls z next) ≡ z.components
  pub choices : drop e.choices (chosen_exprs ls z) ≡ xs ++ disjunctions (next_constraints ls z next)
  pub few : e.choices ≤ z.disjunctions

-- a branch that has passed all constraints
pub record AtLeaf (ws ns bs sc ls : List ℕ) (z : Sizes) (k : State) (e : Branch) : Type 0 where
  pub ready : Ready ws ns bs k.lengths
  pub suits : Suits (lent ws ns k.lengths) (problem_in ls z)
  pub sized : Sized (problem_in ls z) z
  pub long : scratch_used ≤ length sc
  pub trail : e.trail ≤ trail_words
  pub measure : e.measure ≡ z.components
  pub choices : e.choices ≡ z.disjunctions

-- a measure that can be compared with the incumbent's
pub record Comparable (sc : List ℕ) (z : Sizes) (e : Branch) : Type 0 where
  pub long : scratch_used ≤ length sc
  pub few : e.measure ≤ z.components
  pub fits : z.components ≤ max_components

-- sources of a Join that are places, with room for a component each
pub record Agreeing (ws ns bs sc ls : List ℕ) (k : Lengths) (e : Branch) (run : Run) : Type 0 where
  pub ready : Ready ws ns bs k
  pub placed : All (PlacedIn (lent ws ns k)) (rows_from (source_at ls) run.start run.count)
  pub inside : run.start + run.count ≤ max_sources
  pub long : scratch_used ≤ length sc
  pub room : e.measure + run.count ≤ max_components

-- the expressions that a step chooses for
abbrev pub exprs_of : List ℕ → Sizes → Branch → Step → List ℕ
exprs_of ls z e Nothing = []
exprs_of ls z e (Component c) = []
exprs_of ls z e (Written n) = []
exprs_of ls z e (Choice i) = get_or (chosen_exprs ls z) e.choices 0 ∷ []

-- lists that have grown: by sorts only, unless room ended
abbrev pub SearchGrown : Lent → List ℕ → List ℕ → Answer → Type 0
SearchGrown W ws ns (Found k) = SortsOnly W (lent ws ns k.lengths)
SearchGrown W ws ns (Missed k) = SortsOnly W (lent ws ns k.lengths)
SearchGrown W ws ns (Full c k) = Grows W (lent ws ns k)

-- what the branch has taken on stands in the scratch as before
pub record SamePath (e : Branch) (sc sc' : List ℕ) : Type 0 where
  pub trail : take e.trail sc' ≡ take e.trail sc
  pub measure : part measure_at e.measure sc' ≡ part measure_at e.measure sc
  pub choices : part choices_at e.choices sc' ≡ part choices_at e.choices sc
  pub long : length sc' ≡ length sc

-- A search that comes to O: the answer and the lists left say so; the lists have grown, and the
-- bindings and the branch are as before.
pub record Done (ls : List ℕ) (z : Sizes) (ws ns bs sc : List ℕ) (k : State) (e : Branch) (O : Out (Unit {0}))
    (ws' ns' bs' sc' : List ℕ) (r : Answer) : Type 0 where
  pub says : out_of ls z ws' ns' sc' r ≡ O
  pub grown : SearchGrown (lent ws ns k.lengths) ws' ns' r
  pub binds : bs' ≡ bs
  pub path : SamePath e sc sc'

-- the same of a way of going on, from the branch and the lists as they are
abbrev pub Comes : (ls : List ℕ) (z : Sizes) (ws ns bs sc : List ℕ) (k : State) (e : Branch)
    → Going (Unit {0}) nothing_met (problem_in ls z) → (ws' ns' bs' sc' : List ℕ) → Answer → Type 0
Comes ls z ws ns bs sc k e g ws' ns' bs' sc' r =
    Done ls z ws ns bs sc k e
    (g (path_of ls z (binds_of bs k.lengths.variables) sc e) (world_of ls z ws ns sc k)) ws' ns' bs' sc' r

-- one try: places made equal, a step taken, and on with what comes next
unfoldable pub trying : (ls : List ℕ) (z : Sizes) → List ℕ → Branch → Pairs → Step → Next
    → Going (Unit {0}) nothing_met (problem_in ls z)
trying ls z sc e pairs s next p w =
    on_yes (unify_pairs (graph w.lent) pairs p.binds) (λ C. next_of ls z next (path_after ls z sc e s C)) w
