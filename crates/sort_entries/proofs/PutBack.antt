-- "also in a call after a search put its sorts back": words put back have the index of those given, since each given row
-- reads as before. Assumes nothing.
use mathlib.Core.Path.{◌≡◌}
use mathlib.Core.List.{List}
use Prim.Native.Nat.{ℕ, ◌+◌, ◌*◌}
use native.Mathlib.Omega.{arith}
use Rattle.resolved_sort.specs.Growing.{Agrees}
use Rattle.resolved_sort.specs.Index.{index_of}
use Rattle.resolved_sort.specs.Rows.{Checked}
use Rattle.resolved_sort.proofs.Append.{rows_agree}
use Rattle.resolved_sort.proofs.IndexAppend.{index_by_rows}
use Rattle.entry_answers.specs.SortsLeft.{GivenStands, SortsPutBack}

stands_agrees : (ws : List ℕ) (n e : ℕ) (vs : List ℕ) → GivenStands ws n e vs → Agrees ws vs n e
stands_agrees ws n e vs g =
    record {
      words = g.rows;
      kinds = λ i h. g.rows (4 * i) (omega arith);
      parts = λ i h. g.rows (4 * i + 1) (omega arith);
      starts = λ i h. g.rows (4 * i + 2) (omega arith);
      counts = λ i h. g.rows (4 * i + 3) (omega arith);
      entries = g.entries;
    }

pub put_back_has_its_index : (ws : List ℕ) (n e : ℕ) → Checked ws n e → (vs : List ℕ) → SortsPutBack ws n e vs → index_of vs n ≡ index_of ws n
put_back_has_its_index ws n e k vs p = index_by_rows ws vs n (rows_agree ws vs n e (stands_agrees ws n e vs p.given) k.fine)
