-- What the steps of the search answer.
use Rattle.std.specs.Prelude.{◌≡◌, Bool, true, false, List, ℕ, ◌<◌, ◌≤◌, Result, Ok, Err}
use Rattle.resolved_sort.specs.declared.SortId.{SortId}
use Rattle.resolved_sort.specs.declared.NoRoom.{NoRoom}
use Rattle.resolved_sort.specs.declared.ComplexSort.{ComplexSort}
use Rattle.resolved_sort.specs.declared.ResolvedSort.{ResolvedSort}
use Rattle.resolved_sort.specs.declared.ResolvedSort.TheVariants.{Unit as UnitRow, Primitive, Container, Function}
use Rattle.resolved_sort.specs.declared.ResolvedSort.TheVariants.{Def, TypeVar}
use Rattle.unification.specs.declared.InferSortId.{InferSortId}
use Rattle.unification.specs.declared.Lengths.{Lengths}
use Rattle.unification.specs.Making.{Makes, made, no_room, intern_container}
use Rattle.unification.specs.Inner.Making.{lent}
use Rattle.inference.specs.declared.LitKind.{LitKind}
use Rattle.inference.specs.Search.{Try, wider_tries, narrower_tries, lit_component, lit_tries}
use Rattle.search_state.specs.declared.Pairs.{Pairs}
use Rattle.search_state.specs.declared.Pairs.TheVariants.{One}
use Rattle.search_state.specs.declared.Tries.{Tries}
use Rattle.search_state.specs.declared.LitAt.{LitAt}
use Rattle.search_state.specs.declared.LitAt.TheVariants.{Other}
use Rattle.search_state.specs.Inner.Leaves.{place_at, tries_from, lit_number}

-- the places of a try
abbrev pub pairs_of : Try → Pairs
pairs_of t = One (record { 0 = t.left }) (record { 0 = t.right })

-- what a literal finds at a sort
abbrev pub lit_row : LitKind → ResolvedSort → LitAt
lit_row kind UnitRow = Other
lit_row kind (Primitive s) = lit_number (lit_component kind s)
lit_row kind (Container o s) = Other
lit_row kind (Function d g) = Other
lit_row kind (Def n) = Other
lit_row kind (TypeVar n) = Other

-- the tries of a literal: at most four, of the fixed sorts, each against the place
pub record LitTries (kind : LitKind) (id : InferSortId) (r : Tries) : Type 0 where
  pub says : tries_from r 0 ≡ lit_tries kind id.0
  pub few : r.count ≤ 4
  pub first : r.first ≤ 1
  pub places : (j : ℕ) → j < r.count → place_at r j < 6
  pub other : r.other ≡ id

-- A container that is interned, whatever the nodes are.
abbrev pub interned_of : List ℕ → List ℕ → Lengths → Result SortId NoRoom → Makes ℕ
interned_of ws ns k (Ok s) = made s.0 (lent ws ns k)
interned_of ws ns k (Err x) = no_room 15 (lent ws ns k)

unfoldable pub InternsContainer : ComplexSort → ℕ → List ℕ → Lengths → List ℕ → Lengths → Result SortId NoRoom → Type 0
InternsContainer o s ws k ws' k' r = (ns : List ℕ) → interned_of ws' ns k' r ≡ intern_container o s (lent ws ns k)

-- Tries of the places ps in turn, against another place on their right (up) or on their left, with
-- components from i on.
abbrev pub tries_against : Bool → ℕ → ℕ → List ℕ → List Try
tries_against true r i ps = wider_tries r i ps
tries_against false l i ps = narrower_tries l i ps

pub record ListedTries (up : Bool) (other : ℕ) (ps : List ℕ) (r : Tries) : Type 0 where
  pub says : tries_from r 0 ≡ tries_against up other 1 ps
  pub few : r.count ≤ 4
  pub first : r.first ≡ 1
