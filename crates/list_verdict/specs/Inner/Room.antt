-- What putting the text of a sort asks for: checked sorts, and the sizes of their texts.
use Rattle.std.specs.Prelude.{◌≡◌, List, ℕ, replicate}
use Rattle.resolved_sort.specs.declared.Counts.{Counts}
use Rattle.resolved_sort.specs.Storage.{max_sorts}
use Rattle.resolved_sort.specs.Rows.{Checked}
use Rattle.sort_writer.specs.Inner.Sizes.{sizes_to}

pub record SizesOf (ws : List ℕ) (k : Counts) (zs : List ℕ) : Type 0 where
  pub checked : Checked ws k.sorts k.entries
  pub sizes : zs ≡ sizes_to ws (replicate max_sorts 0) k.sorts
