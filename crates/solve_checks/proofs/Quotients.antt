-- So many rows of two or of three words fit exactly if their number is at most the quotient. Assumes nothing.
use mathlib.Core.Path.{◌≡◌, refl, sym}
use mathlib.Core.Bool.{Bool, true, false}
use Prim.Native.Nat.{ℕ, ◌*◌, ◌/◌}
use native.Mathlib.Omega.{arith}
use lib.Dec.{leb}
use borrow.Author.Tests.{le-leb, lt-leb, leb-true, leb-false}

pub half : (d n : ℕ) → leb d (n / 2) ≡ leb (2 * d) n
half d n = go (leb d (n / 2)) refl
  where
    go : (b : Bool) → leb d (n / 2) ≡ b → b ≡ leb (2 * d) n
    go true x = sym (le-leb (2 * d) n (omega (arith, leb-true d (n / 2) x)))
    go false x = sym (lt-leb (2 * d) n (omega (arith, leb-false d (n / 2) x)))

pub third : (d n : ℕ) → leb d (n / 3) ≡ leb (3 * d) n
third d n = go (leb d (n / 3)) refl
  where
    go : (b : Bool) → leb d (n / 3) ≡ b → b ≡ leb (3 * d) n
    go true x = sym (le-leb (3 * d) n (omega (arith, leb-true d (n / 3) x)))
    go false x = sym (lt-leb (3 * d) n (omega (arith, leb-false d (n / 3) x)))
