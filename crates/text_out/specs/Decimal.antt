-- A number in decimal.
use Rattle.std.specs.Prelude.{cond, List, [], ◌∷◌, ◌++◌, ℕ, ◌+◌, ◌/◌, ◌%◌, ltb}
use Rattle.text_out.specs.Quoted.{byte_of}

-- a number below 100,000 in decimal: a digit for each unit that it reaches
unfoldable pub digit : ℕ → ℕ → List ℕ
digit unit n = cond (ltb n unit) [] ((byte_of "0" + n / unit % 10) ∷ [])

unfoldable pub decimal : ℕ → List ℕ
decimal n = digit 10000 n ++ (digit 1000 n ++ (digit 100 n ++ (digit 10 n ++ ((byte_of "0" + n % 10) ∷ []))))
