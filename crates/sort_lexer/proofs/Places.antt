-- What is left of a line after a run of bytes: it is an end of the line, so its place leads back to it. Assumes nothing.
use mathlib.Core.Path.{◌≡◌, refl, sym, ap, ◌∙◌}
use mathlib.Core.Bool.{Bool, true, false, cond}
use mathlib.Core.List.{List, [], ◌∷◌, ◌++◌, append_assoc}
use Prim.Native.Nat.{ℕ, ◌+◌, ◌-◌, ◌≤◌}
use native.Mathlib.Omega.{arith}
use lib.ListN.{length, take, drop, length-append, length-drop, take-append-drop}
use lib.Seq.{drop_at, take_at}
use lib.Dec.{eqb}
use Rattle.sort_text.specs.Tokens.{run, past, skip}
use Rattle.sort_lexer.specs.Inner.Lexeme.{offset}

chosen_then_left : (q : Bool) (b : ℕ) (r s bs : List ℕ) → r ++ s ≡ bs → cond q (b ∷ r) [] ++ cond q s (b ∷ bs) ≡ b ∷ bs
chosen_then_left true b r s bs e = ap (λ (xs : List ℕ). b ∷ xs) e
chosen_then_left false b r s bs e = refl

pub run_then_past : (p : ℕ → Bool) (bs : List ℕ) → run p bs ++ past p bs ≡ bs
unfolding run past
run_then_past p [] = refl
run_then_past p (b ∷ bs) = chosen_then_left (p b) b (run p bs) (past p bs) bs (run_then_past p bs)

pub length_past : (p : ℕ → Bool) (bs : List ℕ) → length (run p bs) + length (past p bs) ≡ length bs
length_past p bs = sym (length-append (run p bs) (past p bs)) ∙ ap length (run_then_past p bs)

pub place_drop : (l : List ℕ) (i : ℕ) → i ≤ length l → offset l (drop i l) ≡ i
place_drop l i h = omega (arith, length-drop i l)

pub drop_place : (l xs bs : List ℕ) → xs ++ bs ≡ l → drop (offset l bs) l ≡ bs
drop_place l xs bs e = rw (← e) (drop_at xs bs (length (xs ++ bs) - length bs) (omega (arith, length-append xs bs)))

pub drop_place_past : (p : ℕ → Bool) (l : List ℕ) (i : ℕ) → drop (offset l (past p (drop i l))) l ≡ past p (drop i l)
drop_place_past p l i =
    drop_place l (take i l ++ run p (drop i l)) (past p (drop i l))
    (append_assoc (take i l) (run p (drop i l)) (past p (drop i l)) ∙ ap (λ (xs : List ℕ). take i l ++ xs) (run_then_past p (drop i l)) ∙ take-append-drop i l)

pub place_past_after : (p : ℕ → Bool) (l : List ℕ) (i : ℕ) → i ≤ length l → i ≤ offset l (past p (drop i l))
place_past_after p l i h = omega (arith, length_past p (drop i l), length-drop i l)

-- r: the position after the run of bytes from i on
module _ (p : ℕ → Bool) (l : List ℕ) (i r : ℕ) (e : r ≡ offset l (past p (drop i l))) where
  pub left_after_run : drop r l ≡ past p (drop i l)
  left_after_run = ap (λ (j : ℕ). drop j l) e ∙ drop_place_past p l i

  pub bytes_of_run : take (r - i) (drop i l) ≡ run p (drop i l)
  bytes_of_run =
      sym (ap (take (r - i)) (run_then_past p (drop i l)))
      ∙ take_at (run p (drop i l)) (past p (drop i l)) (r - i) (omega (arith, length_past p (drop i l), length-drop i l))

  pub run_goes_on : i ≤ length l → i ≤ r
  run_goes_on h = omega (arith, place_past_after p l i h)

-- r: the first position from i on that has no space
module _ (l : List ℕ) (i r : ℕ) (e : r ≡ offset l (skip (drop i l))) where
  pub left_without_spaces : drop r l ≡ skip (drop i l)
  unfolding skip
  left_without_spaces = left_after_run (eqb 32) l i r e

  pub skip_goes_on : i ≤ length l → i ≤ r
  unfolding skip
  skip_goes_on = run_goes_on (eqb 32) l i r e
