-- What the steps say holds of the cleared buffer too, since they stand before what is cleared. Assumes nothing.
use mathlib.Core.Path.{◌≡◌, refl, ◌∙◌, ap}
use mathlib.Core.List.{List, [], ◌++◌, append-nil}
use Prim.Native.Nat.{ℕ, ◌-◌, ◌≤◌}
use native.Mathlib.Omega.{arith}
use lib.ListN.{length, take, drop, replicate, length-drop, drop_of_length-le}
use lib.Seq.{take_at, drop_at, length-take-le, take_all}
use borrow.Rule.Slice.PartMut.{put_mid, mid_of}
use Rattle.std.specs.Prelude.{Result, Ok, Err}
use Rattle.std.specs.Result.{result_unwrap_or}
use Rattle.sort_text.specs.Parse.{Parsed, parsed, stuck}
use Rattle.sort_recogniser.specs.declared.Stuck.{Stuck}
use Rattle.sort_recogniser.specs.Inner.Says.{Recognised, done_at, stuck_at, Says}
use Rattle.sort_recogniser.specs.Inner.Cleared.{steps_written, line_ended, RecognisedAs, LineRecognised}

abbrev steps_at : Recognised → ℕ
steps_at (done_at p n) = n
steps_at (stuck_at p) = 0

-- the steps stay
steps_stay : (line : List ℕ) (lowest room : ℕ) (front : List ℕ) (P : Parsed) (out left : List ℕ) (r : Recognised)
    → take (steps_at r) left ≡ take (steps_at r) out → Says line lowest room front P out r → Says line lowest room front P left r
unfolding Says
steps_stay line lowest room front (parsed t cs) out left (done_at p m) e s =
    record { further = s.further; within = s.within; goes_on = s.goes_on; fits = s.fits; written = e ∙ s.written }
steps_stay line lowest room front (parsed t cs) out left (stuck_at p) e s = s
steps_stay line lowest room front (stuck cs) out left (done_at p m) e s = s
steps_stay line lowest room front (stuck cs) out left (stuck_at p) e s = s

few_steps : (line : List ℕ) (lowest room : ℕ) (front : List ℕ) (P : Parsed) (out : List ℕ) (r : Recognised) → Says line lowest room front P out r
    → steps_at r ≤ room
unfolding Says
few_steps line lowest room front (parsed t cs) out (done_at p m) s = omega (arith, s.fits)
few_steps line lowest room front (parsed t cs) out (stuck_at p) s = absurd s
few_steps line lowest room front (stuck cs) out (done_at p m) s = absurd s
few_steps line lowest room front (stuck cs) out (stuck_at p) s = omega arith

counted : (line : List ℕ) (r : Result ℕ Stuck) → (result_unwrap_or r 0 ≡ steps_at (line_ended line r)) × (result_unwrap_or r 0 ≡ steps_written r)
unfolding steps_written
counted line (Ok n) = (refl, refl)
counted line (Err s) = (refl, refl)

module _ (line out : List ℕ) (r : Result ℕ Stuck) (says : RecognisedAs line out r) (n : ℕ) (is : n ≡ result_unwrap_or r 0) (fits : length line ≤ length out) where
  pub within : n ≤ length out
  within = omega (arith, few_steps _ _ _ _ _ _ _ says, is ∙ (counted line r).0)

  front_long : length (take n out) ≡ n
  front_long = length-take-le n out within

  pub recognised : (left : List ℕ) → left ≡ replicate (length (mid_of n (length out - n) out)) 0
      → LineRecognised line (length out) (put_mid n (length out - n) out left) r
  recognised left e =
      let none : drop (length out - n) (drop n out) ≡ [] = drop_of_length-le (drop n out) {i = length out - n} (omega (arith, length-drop n out)) in
      let all : put_mid n (length out - n) out left ≡ take n out ++ left = ap (λ xs. take n out ++ (left ++ xs)) none ∙ ap (λ xs. take n out ++ xs) (append-nil left) in
      let k : length (mid_of n (length out - n) out) ≡ length out - n = ap length (take_all (length out - n) (drop n out) (omega (arith, length-drop n out))) ∙ length-drop n out in
      let a = is ∙ (counted line r).0 in
      let b = is ∙ (counted line r).1 in
      record {
        says = steps_stay _ _ _ _ _ out _ (line_ended line r) (rw (← a, all) (take_at (take n out) left n front_long)) says;
        zeros_behind = rw (← b, all) (drop_at (take n out) left n front_long ∙ (e ∙ ap (λ x. replicate x 0) k));
      }
