-- Bytes of texts, and numbers in decimal, computed. Assumes nothing.
use mathlib.Core.Path.{◌≡◌, refl}
use mathlib.Core.List.{[], ◌∷◌, map}
use Rattle.text_out.specs.Quoted.{bytes_of}
use Rattle.text_out.specs.Decimal.{digit, decimal}

bytes_are : bytes_of "a0 \n" ≡ 97 ∷ 48 ∷ 32 ∷ 10 ∷ []
bytes_are = refl

decimals_are : map decimal (0 ∷ 9 ∷ 10 ∷ 305 ∷ 1000 ∷ 65535 ∷ [])
    ≡ bytes_of "0" ∷ bytes_of "9" ∷ bytes_of "10" ∷ bytes_of "305" ∷ bytes_of "1000" ∷ bytes_of "65535" ∷ []
unfolding digit decimal
decimals_are = refl
