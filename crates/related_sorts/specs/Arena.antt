-- An arena, and what a call leaves of it.
use Rattle.std.specs.Prelude.{◌≡◌, Option, Result, Ok, Err, OnOk, List, ℕ}
use Rattle.resolved_sort.specs.Index.{Indexed}
use Rattle.unification.specs.declared.InferSortId.{InferSortId}
use Rattle.unification.specs.declared.Full.{Full}
use Rattle.unification.specs.Checked.{Ready, Placed}
use Rattle.infer_nodes.specs.declared.Bindings.{Bindings}
use Rattle.unification.specs.Making.{Lent, Makes, made, no_room}
use Rattle.unification.specs.Inner.Making.{lent}
use Rattle.infer_nodes.specs.Inner.Parts.{NodesReady}
use Rattle.related_sorts.specs.declared.Arena.{Arena}
use Rattle.related_sorts.specs.declared.listing.Listed.{Listed}
use Rattle.related_sorts.specs.Inner.Outcome.{no_room_in, listed, some_listed}

abbrev pub world : Arena → Lent
world A = lent A.sorts.now A.nodes.now A.lengths

abbrev pub NodesIn : Arena → Type 0
NodesIn A = NodesReady A.sorts.now A.nodes.now A.lengths

abbrev pub ReadyIn : Arena → List ℕ → Type 0
ReadyIn A bs = Ready A.sorts.now A.nodes.now bs A.lengths

-- the places of the arena, and these bindings
abbrev pub BindingsOf : Arena → List ℕ → Bindings → Type 0
BindingsOf A bs B =
    (B.places.sorts.now ≡ A.sorts.now)
    × (B.places.nodes.now ≡ A.nodes.now)
    × (B.places.lengths ≡ A.lengths)
    × (B.binds.now ≡ bs)

abbrev pub PlacedIn : Arena → ℕ → Type 0
PlacedIn A p = Placed A.lengths p

-- B has the same lent memory for the sorts, the nodes and the index
abbrev pub Keeps : Arena → Arena → Type 0
Keeps A B =
    (B.sorts.ghost_name ≡ A.sorts.ghost_name)
    × (B.nodes.ghost_name ≡ A.nodes.ghost_name)
    × (B.index.ghost_name ≡ A.index.ghost_name)

-- the index is that of the sorts
abbrev pub Indexes : Arena → Type 0
Indexes A = Indexed A.sorts.now A.lengths.sorts A.index.now

-- and after a call, where no room ended
abbrev pub IndexesOn : {A E : Type 0} → Result A E → Arena → Type 0
IndexesOn r A = OnOk r (Indexes A)

-- a node that was made, or no room, with the lists as they then are
abbrev pub node_of : Result InferSortId Full → Lent → Makes ℕ
node_of (Ok p) W = made p.0 W
node_of (Err e) W = no_room (no_room_in e) W

-- The answer and what was left are those of the definition.
abbrev pub Lists : Arena → Result Listed Full → Makes (List ℕ) → Type 0
Lists A r O = some_listed r (world A) ≡ O

abbrev pub ListsSome : Arena → Result (Option Listed) Full → Makes (List ℕ) → Type 0
ListsSome A r O = listed r (world A) ≡ O
