-- Sorts and entries as part of the packed answer: in bits 8 to 23 and 24 to 39.
use Rattle.std.specs.Prelude.{ℕ, ◌+◌, ◌*◌}
use Rattle.resolved_sort.specs.declared.Counts.{Counts}
use Rattle.words.specs.Bits.{bit8, bit24}

abbrev pub pack_counts : Counts → ℕ
pack_counts k = k.sorts * bit8 + k.entries * bit24
