-- A run of bytes ends at the first byte that does not pass, or at the end of the line. Assumes nothing.
use mathlib.Core.Path.{◌≡◌, ap, ◌∙◌}
use mathlib.Core.Bool.{Bool, true, false}
use mathlib.Core.List.{List}
use Prim.Native.Nat.{ℕ, ◌+◌, ◌<◌, ◌≤◌}
use native.Mathlib.Omega.{arith}
use native.Mathlib.Numerals.{add-one}
use lib.ListN.{length, get_or, drop, length-drop, drop_of_length-le}
use lib.Seq.{drop-cons}
use Rattle.sort_text.specs.Tokens.{past}
use Rattle.sort_lexer.specs.Inner.Lexeme.{offset}

-- bs: the bytes of the line l from `at` on, of which i have passed
module _ (p : ℕ → Bool) (l bs : List ℕ) (at i : ℕ) (e : bs ≡ drop at l) (inv : past p (drop at l) ≡ past p (drop i bs)) where
  pub run_to_the_end : length bs ≤ i → length l ≡ offset l (past p (drop at l))
  unfolding past
  run_to_the_end h = rw (inv, drop_of_length-le bs h) (omega arith)

  module _ (h : i < length bs) where
    pub run_to_here : p (get_or bs i 0) ≡ false → at + i ≡ offset l (past p (drop at l))
    unfolding past
    run_to_here f =
        let here : past p (drop i bs) ≡ drop i bs = rw (drop-cons bs i 0 h, f) in
        rw (inv, here) (omega (arith, length-drop i bs, length-drop at l, ap length e))

    pub run_from_next : p (get_or bs i 0) ≡ true → past p (drop at l) ≡ past p (drop (i + 1) bs)
    unfolding past
    run_from_next f = inv ∙ rw (add-one, drop-cons bs i 0 h, f)
