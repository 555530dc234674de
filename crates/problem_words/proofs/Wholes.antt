-- A part of words has its length; words copied from the first to the last come to all of them. Assumes nothing.
use mathlib.Core.Path.{◌≡◌, ap, ◌∙◌}
use mathlib.Core.List.{List}
use Prim.Native.Nat.{ℕ, ◌+◌, ◌≤◌}
use native.Mathlib.Omega.{arith}
use lib.ListN.{length}
use lib.Seq.{sets, take_all}
use Rattle.words.specs.Words.{part}
use Rattle.words.proofs.Parts.{length_part}

pub part_length : (a n : ℕ) (ws : List ℕ) → a + n ≤ length ws → length (part a n ws) ≡ n
part_length = length_part

whole_part : (n : ℕ) (xs : List ℕ) → length xs ≡ n → part 0 n xs ≡ xs
whole_part n xs l = take_all n xs (omega (arith, l))

pub copied_in : (at n : ℕ) (us xs vs : List ℕ) → length xs ≡ n → vs ≡ sets us at (part 0 n xs) → vs ≡ sets us at xs
copied_in at n us xs vs l e = e ∙ ap (sets us at) (whole_part n xs l)
