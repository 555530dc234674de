-- The bits at which the fields of packed answers begin.
use Rattle.std.specs.Prelude.{ℕ}

abbrev pub bit8 : ℕ
bit8 = 256

abbrev pub bit16 : ℕ
bit16 = 65536

abbrev pub bit24 : ℕ
bit24 = 16777216

abbrev pub bit32 : ℕ
bit32 = 4294967296

abbrev pub bit40 : ℕ
bit40 = 1099511627776

abbrev pub bit48 : ℕ
bit48 = 281474976710656

abbrev pub bit52 : ℕ
bit52 = 4503599627370496

abbrev pub bit63 : ℕ
bit63 = 9223372036854775808
