-- What the list tells of a call: a count is the one told, or else the rows given; a length is the one told, or else its own, and never above
-- its ceiling, so that no slice reaches into the next. Assumes nothing.
use mathlib.Core.Path.{◌≡◌, refl}
use mathlib.Core.Bool.{Bool, true, false, cond}
use mathlib.Core.List.{List}
use Prim.Native.Nat.{ℕ, ◌+◌, ◌≤◌}
use native.Mathlib.Omega.{arith}
use lib.Dec.{ltb}
use lib.ListN.{length, get_or, drop}
use Rattle.std.proofs.lemmas.List.{length-take}
use borrow.Author.Tests.{eq-eqb, ne_eqb, ltb-false}
use Rattle.list_memory.specs.Memory.{counts_told_at, counts_at, rows_given}
use Rattle.list_call.specs.Lists.{call_count, told_or, length_lent, slice_lent}

module _ (ws : List ℕ) (k : ℕ) where
  pub count_is_the_one_told : get_or ws (counts_told_at + k) 0 ≡ 1 → call_count ws k ≡ get_or ws (counts_at + k) 0
  unfolding call_count
  count_is_the_one_told e = rw (eq-eqb _ 1 e) refl

  pub count_not_told_is_the_rows_given : (get_or ws (counts_told_at + k) 0 ≡ 1 → ⊥) → call_count ws k ≡ rows_given ws k
  unfolding call_count
  count_not_told_is_the_rows_given n = rw (ne_eqb _ 1 n) refl

pub no_length_is_above_its_ceiling : (ws : List ℕ) (j n top : ℕ) → length_lent ws j n top ≤ top
unfolding length_lent
no_length_is_above_its_ceiling ws j n top = go (ltb top (told_or ws j n)) refl
  where
    go : (t : Bool) → ltb top (told_or ws j n) ≡ t → cond t top (told_or ws j n) ≤ top
    go true e = omega arith
    go false e = ltb-false top (told_or ws j n) e

pub no_slice_is_longer_than_its_ceiling : (ws : List ℕ) (start j n top : ℕ) → length (slice_lent ws start j n top) ≤ top
unfolding slice_lent
no_slice_is_longer_than_its_ceiling ws start j n top =
    omega (arith, length-take (length_lent ws j n top) (drop start ws), no_length_is_above_its_ceiling ws j n top)
