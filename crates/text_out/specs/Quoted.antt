-- Texts quoted: their bytes.
use Rattle.std.specs.Prelude.{List, [], ◌∷◌, ℕ}
use Prim.Native.Char.{Char, code}
use Prim.Native.String.{String, [] as []ˢ, ◌∷◌ as ◌∷ˢ◌}

-- the byte of a character
abbrev pub byte_of : Char → ℕ
byte_of c = code c

-- the bytes of a text
abbrev pub bytes_of : String → List ℕ
bytes_of []ˢ = []
bytes_of (c ∷ˢ cs) = byte_of c ∷ bytes_of cs
