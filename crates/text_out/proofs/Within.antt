-- Bytes put as far as there is room: what is put behind the first bytes comes to putting all of them. Assumes nothing.
use mathlib.Core.Path.{◌≡◌, refl, sym, ◌∙◌, ap, ap₂}
use mathlib.Core.Bool.{cond}
use mathlib.Core.List.{List, [], ◌∷◌, ◌++◌}
use Prim.Native.Nat.{ℕ, ◌+◌, ◌<◌, ◌≤◌}
use native.Mathlib.Omega.{arith}
use native.Mathlib.Nat.{add-zero}
use native.Mathlib.Numerals.{add-one}
use lib.Dec.{ltb}
use lib.ListN.{length, set, length-set}
use lib.Seq.{sets, set_out}
use borrow.Author.Tests.{lt-ltb, le-ltb}
use Rattle.text_out.specs.Within.{Buffer, buffer, puts}
use Rattle.text_out.specs.Within.{PutWithin}

pub puts_append : (out : List ℕ) (at : ℕ) (xs ys : List ℕ) → puts out at (xs ++ ys) ≡ puts (puts out at xs).bytes (puts out at xs).at ys
unfolding puts
puts_append out at [] ys = refl
puts_append out at (x ∷ xs) ys = puts_append (set out at x) (cond (ltb at (length out)) (at + 1) at) xs ys

pub put_none : (out : List ℕ) (at : ℕ) → PutWithin out at [] out at
unfolding puts
put_none out at = record { is = refl }

pub put_then : {out : List ℕ} {at : ℕ} {xs mid : List ℕ} {p : ℕ} {ys left : List ℕ} {r : ℕ}
    → PutWithin out at xs mid p → PutWithin mid p ys left r → PutWithin out at (xs ++ ys) left r
put_then {out} {at} {xs} {mid} {p} {ys} h k =
    record { is = k.is ∙ (ap (λ (b : Buffer). puts b.bytes b.at ys) h.is ∙ sym (puts_append out at xs ys)) }

pub put_as : {out : List ℕ} {at : ℕ} {xs ys left : List ℕ} {r : ℕ} → xs ≡ ys → PutWithin out at xs left r → PutWithin out at ys left r
put_as {out} {at} e h = record { is = h.is ∙ ap (puts out at) e }

-- one byte
pub byte_kept : (out : List ℕ) (at b : ℕ) → at < length out → PutWithin out at (b ∷ []) (set out at b) (at + 1)
unfolding puts
byte_kept out at b h = record { is = rw (lt-ltb at (length out) h) }

pub byte_lost : (out : List ℕ) (at b : ℕ) → length out ≤ at → PutWithin out at (b ∷ []) out at
unfolding puts
byte_lost out at b h = record { is = rw (le-ltb at (length out) h, set_out out at b h) }

-- Bytes that have room stand whole in the buffer, and the place is behind them.
pub whole_where_room : (out : List ℕ) (at : ℕ) (bs : List ℕ) → at + length bs ≤ length out → puts out at bs ≡ buffer (sets out at bs) (at + length bs)
unfolding puts
whole_where_room out at [] h = ap (buffer out) (sym (add-zero at))
whole_where_room out at (b ∷ bs) h =
    rw (lt-ltb at (length out) (omega arith))
    (whole_where_room (set out at b) (at + 1) bs (omega (arith, h, length-set out at b))
    ∙ ap₂ buffer (ap (λ (k : ℕ). sets (set out at b) k bs) (add-one at)) (omega arith))
