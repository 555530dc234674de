-- The largest word.
use Rattle.std.specs.Prelude.{ℕ}

abbrev pub most_word : ℕ
most_word = 65535
