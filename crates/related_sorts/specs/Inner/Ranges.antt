-- A function is varied by its range, that one by its own if it is a function, and so on: the functions that follow one
-- another down to the final range, what is found there, and the functions over it, outwards.
use Rattle.std.specs.Prelude.{◌≡◌, Bool, List, [], ℕ, zero, suc, ◌≤◌, get_or, take}
use Rattle.std.proofs.Math.Option.{some}
use Rattle.resolved_sort.specs.Storage.{function_kind}
use Rattle.unification.specs.declared.Lengths.{Lengths}
use Rattle.unification.specs.Term.{flat_head, container_head, function_head, stray_head, Shape, variable, over, kind_head}
use Rattle.unification.specs.Inner.Term.{head_of, parts_of}
use Rattle.unification.specs.Nodes.{max_places, is_sort, binds_of}
use Rattle.unification.specs.Unify.{follow, deep}
use Rattle.unification.specs.Checked.{graph_of, Placed}
use Rattle.unification.specs.Making.{Lent, graph, Makes, made, no_list, no_room, ◌and-then◌, push_functions}
use Rattle.unification.specs.Making.{related_shape}
use Rattle.related_sorts.specs.declared.Last.{Last}
use Rattle.related_sorts.specs.Inner.Outcome.{IsFunction, FunctionAt}

-- the fixed sorts are in the list
abbrev pub SixThere : Lengths → Type 0
SixThere k = 6 ≤ k.sorts

-- by the head at the place q; the range of a function is not asked about
abbrev pub related_head : Bool → ℕ → Lent → Makes (List ℕ)
related_head up q W = related_shape up (λ p U. no_list U) (is_sort q) (graph W q) W

-- The functions down from p, each at the end of the range of the one before: after i of them comes q.
pub data Down (ws ns bs : List ℕ) (k : Lengths) (p : ℕ) (fs : List ℕ) : ℕ → ℕ → Type 0 where
  here : Down ws ns bs k p fs zero p
  deeper : (i n q : ℕ) → Down ws ns bs k p fs i (get_or fs i 0) → IsFunction ws ns k (get_or fs i 0) n
      → follow (graph_of ws ns k) deep (binds_of bs k.variables) (get_or (parts_of (graph_of ws ns k (get_or fs i 0))) n 0)
      ≡ some q
      → Down ws ns bs k p fs (suc i) q

-- after the last of them stands no function
pub record FinalRange (ws ns bs : List ℕ) (k : Lengths) (p : ℕ) (fs : List ℕ) (r : Last) : Type 0 where
  pub down : Down ws ns bs k p fs r.count r.range.0
  pub placed : Placed k r.range.0
  pub few : r.count ≤ max_places
  pub ends : kind_head (head_of (graph_of ws ns k r.range.0)) ≡ function_kind → ⊥

abbrev pub arguments_of : Shape → List ℕ
arguments_of (variable v) = []
arguments_of (over (flat_head a) ps) = []
arguments_of (over (container_head o) ps) = []
arguments_of (over (function_head n) ps) = take n ps
arguments_of (over (stray_head n) ps) = []

-- functions of the arguments of that at f, over each of the ranges
abbrev pub over_function : ℕ → List ℕ → Lent → Makes (List ℕ)
over_function f ps W = push_functions (arguments_of (graph W f)) ps W

-- over the first i of the functions fs, the last of them first
unfoldable pub outwards : List ℕ → ℕ → Makes (List ℕ) → Makes (List ℕ)
outwards fs zero O = O
outwards fs (suc i) O = outwards fs i (O and-then over_function (get_or fs i 0))

-- a function stands at f in the lists as they then are
abbrev pub Stands : ℕ → Makes (List ℕ) → Type 0
Stands f (made ps W) = FunctionAt W.sorts W.nodes W.lengths f
Stands f (no_list W) = Unit {0}
Stands f (no_room c W) = Unit {0}

-- so it does for each of them on the way
unfoldable pub AllStand : List ℕ → ℕ → Makes (List ℕ) → Type 0
AllStand fs zero O = Unit {0}
AllStand fs (suc i) O = Stands (get_or fs i 0) O × AllStand fs i (O and-then over_function (get_or fs i 0))
