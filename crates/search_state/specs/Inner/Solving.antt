-- What a function of the search asks for of its struct, and what it leaves.
use Rattle.std.specs.Prelude.{◌≡◌, Bool, true, false, List, ℕ, Option, Some, None, Result, Ok, Err, OnOk}
use Rattle.resolved_sort.specs.declared.Run.{Run}
use Rattle.resolved_sort.specs.Index.{Indexed}
use Rattle.unification.specs.declared.Lengths.{Lengths}
use Rattle.unification.specs.declared.Full.{Full}
use Rattle.unification.specs.Making.{Lent}
use Rattle.unification.specs.Inner.Making.{lent}
use Rattle.inference.specs.Search.{Going}
use Rattle.inference.specs.SolveEntry.{nothing_met}
use Rattle.search_state.specs.declared.Sizes.{Sizes}
use Rattle.search_state.specs.Inner.States.{State}
use Rattle.search_state.specs.declared.Branch.{Branch}
use Rattle.search_state.specs.Inner.States.{Answer}
use Rattle.search_state.specs.Inner.States.{Full as Ended}
use Rattle.search_state.specs.declared.Incumbent.{Incumbent}
use Rattle.search_state.specs.declared.Search.{Search}
use Rattle.search_state.specs.declared.Next.{Next}
use Rattle.search_state.specs.Inner.Memory.{problem_in}
use Rattle.search_state.specs.Inner.Leaves.{code_of, says_of}
use Rattle.search_state.specs.Inner.Searching.{Searching as SearchingIn, AtLeaf as AtLeafIn, Comparable as ComparableIn}
use Rattle.search_state.specs.Inner.Searching.{Agreeing as AgreeingIn, Comes as ComesIn}

-- what goes on from branch to branch
abbrev pub has_best : Option Incumbent → Bool
has_best None = false
has_best (Some i) = true

abbrev pub is_tied : Option Incumbent → Bool
is_tied None = false
is_tied (Some i) = i.tied

abbrev pub state_of : Search → State
state_of s = record { lengths = s.lengths; best = has_best s.best; tied = is_tied s.best }

-- an answer with the state then
abbrev pub answer_of : State → Result Bool Full → Answer
answer_of k (Ok found) = says_of found k
answer_of k (Err full) = Ended (code_of full) k.lengths

abbrev pub lent_of : Search → Lent
lent_of s = lent s.sorts.now s.nodes.now s.lengths

-- the index is that of the sorts
abbrev pub Indexes : Search → Type 0
Indexes s = Indexed s.sorts.now s.lengths.sorts s.index.now

-- and after a call, where no room ended
abbrev pub IndexesOn : {A E : Type 0} → Result A E → Search → Type 0
IndexesOn r s = OnOk r (Indexes s)

-- a branch on which, after `more` components and choices for the expressions xs, comes `next`
abbrev pub Searching : Search → Branch → ℕ → List ℕ → Next → Type 0
Searching s e more xs next =
    SearchingIn s.sorts.now s.nodes.now s.binds.now s.scratch.now s.lists.now s.sizes (state_of s) e more xs next

-- a branch that has passed all constraints
abbrev pub AtLeaf : Search → Branch → Type 0
AtLeaf s e = AtLeafIn s.sorts.now s.nodes.now s.binds.now s.scratch.now s.lists.now s.sizes (state_of s) e

-- a measure that can be compared with the incumbent's
abbrev pub Comparable : Search → Branch → Type 0
Comparable s e = ComparableIn s.scratch.now s.sizes e

-- sources of a Join that are places, with room for a component each
abbrev pub Agreeing : Search → Branch → Run → Type 0
Agreeing s e run = AgreeingIn s.sorts.now s.nodes.now s.binds.now s.scratch.now s.lists.now s.lengths e run

-- The problem, and the memory that is lent, each part by its ghost name: no call changes them.
pub record Given : Type 0 where
  pub lists : List ℕ
  pub sizes : Sizes
  pub sorts : ℕ
  pub index : ℕ
  pub nodes : ℕ
  pub binds : ℕ
  pub scratch : ℕ

abbrev pub given_of : Search → Given
given_of s =
    record {
      lists = s.lists.now;
      sizes = s.sizes;
      sorts = s.sorts.ghost_name;
      index = s.index.ghost_name;
      nodes = s.nodes.ghost_name;
      binds = s.binds.ghost_name;
      scratch = s.scratch.ghost_name;
    }

abbrev pub SameProblem : Search → Search → Type 0
SameProblem s s' = given_of s' ≡ given_of s

-- with the bindings and the incumbent
pub record Kept : Type 0 where
  pub given : Given
  pub binds : List ℕ
  pub best : Option Incumbent

abbrev pub kept_of : Search → Kept
kept_of s = record { given = given_of s; binds = s.binds.now; best = s.best }

abbrev pub KeepsRest : Search → Search → Type 0
KeepsRest s s' = kept_of s' ≡ kept_of s

-- with the nodes and the scratch: all but the sorts and their index
pub record Stays : Type 0 where
  pub kept : Kept
  pub nodes : List ℕ
  pub scratch : List ℕ

abbrev pub stays_of : Search → Stays
stays_of s = record { kept = kept_of s; nodes = s.nodes.now; scratch = s.scratch.now }

abbrev pub OnlySorts : Search → Search → Type 0
OnlySorts s s' = stays_of s' ≡ stays_of s

-- all but the bindings and the scratch
pub record Lists : Type 0 where
  pub given : Given
  pub sorts : List ℕ
  pub index : List ℕ
  pub nodes : List ℕ
  pub lengths : Lengths
  pub best : Option Incumbent

abbrev pub lists_of : Search → Lists
lists_of s =
    record {
      given = given_of s;
      sorts = s.sorts.now;
      index = s.index.now;
      nodes = s.nodes.now;
      lengths = s.lengths;
      best = s.best;
    }

abbrev pub OnlyBinds : Search → Search → Type 0
OnlyBinds s s' = lists_of s' ≡ lists_of s

-- all but the scratch
abbrev pub OnlyScratch : Search → Search → Type 0
OnlyScratch s s' = (lists_of s' ≡ lists_of s) × (s'.binds.now ≡ s.binds.now)

-- A way of going on, on any problem.
abbrev pub Goes : Type 0
Goes = (ls : List ℕ) (z : Sizes) → Going (Unit {0}) nothing_met (problem_in ls z)

-- A search that comes to what a way of going on comes to, from the branch and the lists as they were: the answer and
-- what is left say so. The lists have grown; the bindings, the branch and the problem are as before.
pub record Comes (s : Search) (e : Branch) (g : Goes) (s' : Search) (r : Result Bool Full) : Type 0 where
  pub problem : SameProblem s s'
  pub comes : ComesIn s.lists.now s.sizes s.sorts.now s.nodes.now s.binds.now s.scratch.now (state_of s) e
      (g s.lists.now s.sizes) s'.sorts.now s'.nodes.now s'.binds.now s'.scratch.now (answer_of (state_of s') r)
