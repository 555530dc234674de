-- The sources of a Join on their way to an agreement: places that are resolved, and numbers of sorts that are joined.
use Rattle.std.specs.Prelude.{◌≡◌, List, ℕ, ◌+◌, ◌≤◌, length}
use Rattle.resolved_sort.specs.declared.Run.{Run}
use Rattle.resolved_sort.specs.Rows.{Checked, AllBelow}
use Rattle.unification.specs.declared.Lengths.{Lengths}
use Rattle.unification.specs.Checked.{Ready}
use Rattle.unification.specs.Making.{Lent}
use Rattle.sort_interner.specs.declared.Sorts.{Sorts}
use Rattle.unification.specs.Growing.{PlacedIn}
use Rattle.inference.specs.Constraints.{max_sources, rows_from}
use Rattle.inference.specs.Typing.{All}
use Rattle.search_state.specs.Inner.Memory.{source_at}
use Rattle.unification.specs.Inner.Making.{lent}

-- sources that are places, with room for a number each
pub record Sources (ws ns bs ls ids : List ℕ) (k : Lengths) (run : Run) : Type 0 where
  pub ready : Ready ws ns bs k
  pub placed : All (PlacedIn (lent ws ns k)) (rows_from (source_at ls) run.start run.count)
  pub inside : run.start + run.count ≤ max_sources
  pub room : run.count ≤ length ids

-- the numbers are sorts of the list
pub record Resolved (ws : List ℕ) (k : Lengths) (ids : List ℕ) : Type 0 where
  pub checked : Checked ws k.sorts k.entries
  pub below : AllBelow k.sorts ids

-- W has these sorts
abbrev pub HasSorts : Lent → Sorts → Type 0
HasSorts W S = (W.sorts ≡ S.words.now) × (W.lengths.sorts ≡ S.counts.sorts)
