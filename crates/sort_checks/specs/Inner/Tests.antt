-- The tests that checks 2 and 3 make of one row or entry after another, by name.
use Rattle.std.specs.Prelude.{Bool, List, ℕ, ◌+◌, eqb, ltb}
use Rattle.resolved_sort.specs.Storage.{kind_at, entry_at}

-- Row i is of kind i.
unfoldable pub own_kind : List ℕ → ℕ → Bool
own_kind ws i = eqb (kind_at ws i) i

-- Entry j of the run that begins at start names a sort below i.
unfoldable pub arg_below : List ℕ → ℕ → ℕ → ℕ → Bool
arg_below ws start i j = ltb (entry_at ws (start + j)) i
