-- The packed answer of a join or meet that is none: each count times the place of its field. By computing the fields. Assumes nothing.
use mathlib.Core.Path.{◌≡◌}
use Prim.Native.Nat.{◌+◌, ◌*◌}
use native.Mathlib.Omega.{arith}
use Rattle.std.specs.Prelude.{Ok, None}
use Rattle.resolved_sort.specs.declared.Counts.{Counts}
use Rattle.entry_answers.specs.Packing.{packed, in_fields}
use Rattle.words.specs.Bits.{bit32, bit48}
use Rattle.sort_entries.specs.Packed.{pack_bounded}

pub bounded_nothing : (k : Counts) → k.sorts * bit32 + k.entries * bit48 ≡ pack_bounded (Ok (None, k))
unfolding packed in_fields
bounded_nothing k = omega arith
