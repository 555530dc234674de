-- What only contracts of inner functions cite, beside `specs/Storage.antt`.
use Rattle.std.specs.Prelude.{List, [], ◌∷◌, ℕ}
use Rattle.resolved_sort.specs.declared.SortId.{SortId}
use Rattle.resolved_sort.specs.Tree.{Trees}
use Rattle.resolved_sort.specs.Storage.{entries_of, look_all, trees}

-- the sorts of the c entries from s on
abbrev pub args_at : List ℕ → ℕ → ℕ → ℕ → Trees
args_at ws n s c = look_all (trees ws n) (entries_of ws s c)

-- the numbers that the sort numbers of an array hold: a number of a sort is a type of its own in code
unfoldable pub sort_numbers : List SortId → List ℕ
sort_numbers [] = []
sort_numbers (s ∷ ss) = s.0 ∷ sort_numbers ss
