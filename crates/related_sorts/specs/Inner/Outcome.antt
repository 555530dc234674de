-- What the code of this crate answers and leaves, as the definition has it.
use Rattle.std.specs.Prelude.{Option as Found, Some, None, Result, Ok, Err, ◌≡◌, List, ℕ, suc, ◌≤◌, length}
use Rattle.std.proofs.Math.Option.{Option, none, some}
use Rattle.resolved_sort.specs.declared.ComplexSort.{ComplexSort}
use Rattle.resolved_sort.specs.Storage.{max_arguments, Row}
use Rattle.unification.specs.declared.Lengths.{Lengths}
use Rattle.unification.specs.declared.Full.{Full}
use Rattle.unification.specs.declared.Full.TheVariants.{Sorts, Nodes}
use Rattle.unification.specs.Term.{function_head, over}
use Rattle.unification.specs.Inner.Term.{parts_of}
use Rattle.unification.specs.Checked.{NodesChecked, graph_of, Placed}
use Rattle.unification.specs.Making.{Lent, Makes, made, no_list, no_room}
use Rattle.related_sorts.specs.declared.listing.Listed.{Listed}
use Rattle.related_sorts.specs.Listed.{places}

-- a container constructor, where there is one
abbrev pub found_op : Option ComplexSort → Found ComplexSort
found_op none = None
found_op (some o) = Some o

abbrev pub row : ℕ → ℕ → List ℕ → Row
row kind part args = record { kind = kind; part = part; args = args }

-- which list has no room, by its code
abbrev pub no_room_in : Full → ℕ
no_room_in Sorts = 15
no_room_in Nodes = 16

-- what was listed, with the lists as they then are
abbrev pub listed : Result (Found Listed) Full → Lent → Makes (List ℕ)
listed (Ok (Some l)) W = made (places l) W
listed (Ok None) W = no_list W
listed (Err e) W = no_room (no_room_in e) W

abbrev pub some_listed : Result Listed Full → Lent → Makes (List ℕ)
some_listed (Ok l) W = made (places l) W
some_listed (Err e) W = no_room (no_room_in e) W

-- a function of n arguments stands at p
pub record IsFunction (ws ns : List ℕ) (k : Lengths) (p n : ℕ) : Type 0 where
  pub nodes : NodesChecked ws k.sorts k.entries ns k.nodes k.arguments k.variables
  pub placed : Placed k p
  pub stands : graph_of ws ns k p ≡ over (function_head n) (parts_of (graph_of ws ns k p))
  pub many : length (parts_of (graph_of ws ns k p)) ≡ suc n
  pub few : n ≤ max_arguments

pub record FunctionAt (ws ns : List ℕ) (k : Lengths) (p : ℕ) : Type 0 where
  pub arguments : ℕ
  pub function : IsFunction ws ns k p arguments
