-- Words stored over a part of a list, as `fill` and `copy_from_slice` store them. Assumes nothing.
use mathlib.Core.Path.{◌≡◌, sym, ap, ◌∙◌}
use mathlib.Core.List.{List, ◌++◌, append_assoc}
use Prim.Native.Nat.{ℕ, ◌+◌, ◌-◌, ◌≤◌}
use native.Mathlib.Omega.{arith}
use lib.ListN.{length, take, drop, replicate, length-drop}
use lib.Seq.{sets, length-take-le, drop-drop}
use borrow.Rule.Slice.PartMut.{put_mid, mid_of}
use Rattle.std.proofs.lemmas.List.Edits.{sets-eq}
use Rattle.words.specs.Words.{zeros, part}

-- a list stored from `at` on, over a part of so many words
pub stored : (at k : ℕ) (xs vs : List ℕ) → k ≡ length vs → at + length vs ≤ length xs → put_mid at k xs vs ≡ sets xs at vs
stored at k xs vs e h =
    ap (λ zs. take at xs ++ (vs ++ zs)) (ap (λ j. drop j (drop at xs)) e ∙ drop-drop (length vs) at xs)
    ∙ (sym (append_assoc (take at xs) vs (drop (at + length vs) xs)) ∙ sym (sets-eq vs xs at h))

pub cleared : (from to : ℕ) (ws left : List ℕ) → from ≤ to → to ≤ length ws → left ≡ replicate (length (mid_of from (to - from) ws)) 0
    → put_mid from (to - from) ws left ≡ zeros from to ws
unfolding zeros
cleared from to ws left h l e =
    let n : length (mid_of from (to - from) ws) ≡ to - from = length-take-le (to - from) (drop from ws) (omega (arith, length-drop from ws, h, l)) in
    let z : from + (to - from) ≡ to = omega (arith, h) in
    ap (λ us. put_mid from (to - from) ws us) (e ∙ ap (λ k. replicate k 0) n)
    ∙ ap (λ us. take from ws ++ (replicate (to - from) 0 ++ us)) (drop-drop (to - from) from ws ∙ ap (λ k. drop k ws) z)

pub copied : (at from n : ℕ) (to words left : List ℕ) → at + n ≤ length to → from + n ≤ length words
    → left ≡ mid_of from (from + n - from) words → put_mid at (at + n - at) to left ≡ sets to at (part from n words)
copied at from n to words left h l e =
    let k : from + n - from ≡ n = omega arith in
    let is : left ≡ part from n words = e ∙ ap (λ j. part from j words) k in
    let long : length left ≡ n = ap length is ∙ length-take-le n (drop from words) (omega (arith, length-drop from words, l)) in
    stored at (at + n - at) to left (omega (arith, long)) (omega (arith, long, h)) ∙ ap (sets to at) is
