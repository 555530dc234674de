-- A text put at the front of a buffer: what is left of the buffer stands behind it. Assumes nothing.
use mathlib.Core.Path.{◌≡◌, ◌∙◌, ap, ap₂}
use mathlib.Core.List.{List, ◌++◌}
use Prim.Native.Nat.{ℕ, ◌≤◌}
use native.Mathlib.Omega.{arith}
use native.Mathlib.Nat.{zero-add}
use lib.ListN.{length, drop}
use lib.Seq.{sets-eq}
use Rattle.std.specs.Prelude.{Ok}
use Rattle.sort_text.specs.Writing.{write_left}
use Rattle.text_out.specs.Put.{Put}

-- bytes put at the front: what is left of the buffer stands behind them
pub put_front : {out bs left : List ℕ} {r : ℕ} → length bs ≤ length out → Put out 0 bs left r
    → write_left left (Ok r) ≡ write_left (bs ++ drop (length bs) out) (Ok (length bs))
put_front {out} {bs} l h =
    ap₂ (λ (x : List ℕ) (i : ℕ). write_left x (Ok i))
    (h.bytes ∙ (sets-eq bs out 0 (omega (arith, l)) ∙ ap (λ (i : ℕ). bs ++ drop i out) (zero-add (length bs)))) (h.behind ∙ zero-add (length bs))
