-- What a try of unify asks for: checked lists, and room on the trail for every variable that is still free.
use Rattle.std.specs.Prelude.{◌≡◌, List, ℕ, ◌+◌, ◌<◌, ◌≤◌, length}
use Rattle.std.proofs.Math.Option.{none}
use Rattle.words.specs.Inner.Bits.{most_word}
use Rattle.unification.specs.declared.Lengths.{Lengths}
use Rattle.unification.specs.Term.{variable, over}
use Rattle.unification.specs.Inner.Term.{head_of, parts_of}
use Rattle.unification.specs.Nodes.{binding, binds_of}
use Rattle.unification.specs.Trail.{frees}
use Rattle.unification.specs.Checked.{graph_of, Ready, Placed}

pub record Trying (ws ns bs ts : List ℕ) (k : Lengths) (c : ℕ) : Type 0 where
  pub ready : Ready ws ns bs k
  pub room : c + frees (binds_of bs k.variables) ≤ length ts
  pub short : length ts ≤ most_word

-- a free variable of the list
pub record Free (bs : List ℕ) (k : Lengths) (v : ℕ) : Type 0 where
  pub listed : v < k.variables
  pub free : binding (binds_of bs k.variables) v ≡ none

-- a place at which no variable stands
pub record Solid (ws ns : List ℕ) (k : Lengths) (p : ℕ) : Type 0 where
  pub placed : Placed k p
  pub solid : graph_of ws ns k p ≡ over (head_of (graph_of ws ns k p)) (parts_of (graph_of ws ns k p))

-- the variable u stands at the place p
pub record VariableAt (ws ns : List ℕ) (k : Lengths) (p u : ℕ) : Type 0 where
  pub stands : graph_of ws ns k p ≡ variable u
