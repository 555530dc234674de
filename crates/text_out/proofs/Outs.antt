-- Bytes put into an `Out` one after another are put as one text. Assumes nothing.
use mathlib.Core.Path.{◌≡◌, refl, sym, ◌∙◌, ap}
use mathlib.Core.List.{List, [], ◌∷◌, ◌++◌}
use Prim.Native.Nat.{ℕ, ◌+◌, ◌-◌, ◌/◌, ◌%◌, ◌<◌, ◌≤◌}
use native.Mathlib.Omega.{arith}
use lib.ListN.{length, set, length-set}
use lib.Dec.{ltb}
use lib.Seq.{sets}
use mathlib.Core.Bool.{cond}
use borrow.Author.Tests.{lt-ltb, le-ltb}
use Rattle.text_out.specs.declared.Out.{Out}
use Rattle.text_out.specs.Within.{Buffer, PutWithin, buffer, puts}
use Rattle.text_out.specs.Decimal.{digit}
use Rattle.text_out.specs.Outs.{at_buffer, then_put}
use Rattle.text_out.specs.Put.{Put}
use Rattle.text_out.proofs.Within.{puts_append, byte_kept, byte_lost, whole_where_room}
use Rattle.words.proofs.Stored.{stored}
use borrow.Rule.Slice.PartMut.{put_mid}

pub then_put_nothing : (o : Out) → then_put o [] ≡ o
unfolding then_put puts
then_put_nothing o = refl

pub then_put_both : (o : Out) (xs ys : List ℕ) → then_put o (xs ++ ys) ≡ then_put (then_put o xs) ys
unfolding then_put
then_put_both o xs ys = ap (at_buffer o) (puts_append o.bytes.now o.at xs ys)

-- the buffer stays as long as it was
puts_length : (out : List ℕ) (at : ℕ) (bs : List ℕ) → length (puts out at bs).bytes ≡ length out
unfolding puts
puts_length out at [] = refl
puts_length out at (b ∷ bs) = puts_length (set out at b) (cond (ltb at (length out)) (at + 1) at) bs ∙ length-set out at b

pub then_put_length : (o : Out) (bs : List ℕ) → length (then_put o bs).bytes.now ≡ length o.bytes.now
unfolding then_put
then_put_length o bs = puts_length o.bytes.now o.at bs

-- bytes that have room stand whole in the buffer, and the place is behind them
pub then_put_room : (o : Out) (bs : List ℕ) → o.at + length bs ≤ length o.bytes.now
    → then_put o bs ≡ at_buffer o (buffer (sets o.bytes.now o.at bs) (o.at + length bs))
unfolding then_put
then_put_room o bs h = ap (at_buffer o) (whole_where_room o.bytes.now o.at bs h)

-- one byte
pub byte_put : (o : Out) (b : ℕ) → o.at < length o.bytes.now → at_buffer o (buffer (set o.bytes.now o.at b) (o.at + 1)) ≡ then_put o (b ∷ [])
unfolding then_put
byte_put o b h = ap (at_buffer o) (byte_kept o.bytes.now o.at b h).is

pub no_room : (o : Out) (b : ℕ) → length o.bytes.now ≤ o.at → o ≡ then_put o (b ∷ [])
unfolding then_put
no_room o b h = ap (at_buffer o) (byte_lost o.bytes.now o.at b h).is

-- a digit of a number
pub no_digit : (o : Out) (n unit : ℕ) → n < unit → o ≡ then_put o (digit unit n)
unfolding then_put digit puts
no_digit o n unit h = rw (lt-ltb n unit h)

pub a_digit : (n unit : ℕ) → unit ≤ n → digit unit n ≡ (48 + n / unit % 10) ∷ []
unfolding digit
a_digit n unit h = rw (le-ltb n unit h)

-- what an `Out` over a lent buffer leaves of it
pub left_within : (o n : Out) {bs left : List ℕ} → n ≡ then_put o bs → (o.bytes.ghost_name ≡ n.bytes.ghost_name → left ≡ n.bytes.now)
    → PutWithin o.bytes.now o.at bs left n.at
unfolding then_put
left_within o n {bs} {left} e h =
    record { is = ap (λ us. buffer us n.at) (h (sym (ap (λ m. m.bytes.ghost_name) e))) ∙ ap (λ m. buffer m.bytes.now m.at) e }

pub room_put : (o : Out) (bs left : List ℕ) → o.at + length bs ≤ length o.bytes.now → left ≡ bs
    → at_buffer o (buffer (put_mid o.at (o.at + length bs - o.at) o.bytes.now left) (o.at + length bs)) ≡ then_put o bs
room_put o bs left h e =
    let k : o.at + length bs - o.at ≡ length bs = omega arith in
    ap (at_buffer o)
    (ap (λ us. buffer (put_mid o.at (o.at + length bs - o.at) o.bytes.now us) (o.at + length bs)) e
    ∙ ap (λ us. buffer us (o.at + length bs)) (stored o.at (o.at + length bs - o.at) o.bytes.now bs k h))
    ∙ sym (then_put_room o bs h)

pub left_whole : (o n : Out) {bs left : List ℕ} → o.at + length bs ≤ length o.bytes.now → n ≡ then_put o bs
    → (o.bytes.ghost_name ≡ n.bytes.ghost_name → left ≡ n.bytes.now) → Put o.bytes.now o.at bs left n.at
left_whole o n {bs} {left} room e h =
    let is = (left_within o n e h).is ∙ whole_where_room o.bytes.now o.at bs room in
    record { bytes = ap (λ (b : Buffer). b.bytes) is; behind = ap (λ (b : Buffer). b.at) is }

-- a text put by its parts
pub then_put_first : (o : Out) (x : ℕ) (xs : List ℕ) → then_put o (x ∷ xs) ≡ then_put (then_put o (x ∷ [])) xs
then_put_first o x xs = then_put_both o (x ∷ []) xs

pub ruleset put_parts = (then_put_both, then_put_nothing, then_put_first)

pub put_then : (o n : Out) (xs ys : List ℕ) → n ≡ then_put o xs → {m : Out} → m ≡ then_put n ys → m ≡ then_put o (xs ++ ys)
put_then o n xs ys e f = f ∙ (ap (λ (p : Out). then_put p ys) e ∙ sym (then_put_both o xs ys))
