-- Join and meet of two numbers of a list, and of the arguments of two functions, as the code's contracts cite them.
use Rattle.std.specs.Prelude.{Bool, List, ℕ, ◌<◌}
use Rattle.resolved_sort.specs.Tree.{Tree}
use Rattle.resolved_sort.specs.Interning.{look, intern, make}
use Rattle.resolved_sort.specs.Storage.{trees, sorts_of}
use Rattle.resolved_sort.specs.Entries.{Stored, stored}
use Rattle.resolved_sort.specs.Rows.{Checked}

-- a and b are numbers of a checked list
pub record Asked (ws : List ℕ) (n e a b : ℕ) : Type 0 where
  pub checked : Checked ws n e
  pub lhs : a < n
  pub rhs : b < n

-- the join or meet of a and b, and what it leaves
unfoldable pub bound_at : Bool → List ℕ → ℕ → ℕ → ℕ → ℕ → Stored
bound_at up ws n e a b = stored ws n e (make up (look (trees ws n) a) (look (trees ws n) b) (sorts_of ws n e))

-- a sort of a list interned, and what that leaves
unfoldable pub intern_at : List ℕ → ℕ → ℕ → Tree → Stored
intern_at ws n e t = stored ws n e (intern t (sorts_of ws n e))
