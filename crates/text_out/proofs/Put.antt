-- Bytes put one after another: what is put behind the first bytes comes to putting all of them; and what bytes that were put
-- leave of the buffer, place by place. Assumes nothing.
use mathlib.Core.Path.{◌≡◌, refl, sym, ◌∙◌, ap, ap₂}
use mathlib.Core.List.{List, [], ◌∷◌, ◌++◌, append_assoc}
use Prim.Native.Nat.{ℕ, suc, ◌+◌, ◌≤◌}
use native.Mathlib.Omega.{arith}
use native.Mathlib.Nat.{add-zero}
use lib.ListN.{length, take, drop, set, length-append}
use lib.Seq.{sets, length-sets, sets-eq, take_at, drop_at, take-append_seam, drop-append_seam, drop-drop, length-take-le}
use Rattle.text_out.specs.Put.{Put}

sets_append : (l : List ℕ) (i : ℕ) (xs ys : List ℕ) → sets (sets l i xs) (i + length xs) ys ≡ sets l i (xs ++ ys)
sets_append l i [] ys = ap (λ (k : ℕ). sets l k ys) (add-zero i)
sets_append l i (x ∷ xs) ys = ap (λ (k : ℕ). sets (sets (set l i x) (suc i) xs) k ys) (omega arith) ∙ sets_append (set l i x) (suc i) xs ys

pub put_none : (out : List ℕ) (at : ℕ) → Put out at [] out at
put_none out at = record { bytes = refl; behind = omega arith }

pub put_then : {out : List ℕ} {at : ℕ} {xs mid : List ℕ} {p : ℕ} {ys left : List ℕ} {r : ℕ} → Put out at xs mid p
    → Put mid p ys left r → Put out at (xs ++ ys) left r
put_then {out} {at} {xs} {mid} {p} {ys} h k =
    record {
      bytes = k.bytes ∙ (ap₂ (λ (l : List ℕ) (i : ℕ). sets l i ys) h.bytes h.behind ∙ sets_append out at xs ys);
      behind = omega (arith, h.behind, k.behind, length-append xs ys);
    }

pub put_as : {out : List ℕ} {at : ℕ} {xs ys left : List ℕ} {r : ℕ} → xs ≡ ys → Put out at xs left r → Put out at ys left r
put_as {out} {at} {xs} {ys} e h = record { bytes = h.bytes ∙ ap (sets out at) e; behind = h.behind ∙ ap (λ (l : List ℕ). at + length l) e }

pub put_length : {out : List ℕ} {at : ℕ} {xs left : List ℕ} {r : ℕ} → Put out at xs left r → length left ≡ length out
put_length {out} {at} {xs} h = ap length h.bytes ∙ length-sets out at xs

-- What is put stands whole in its place, where there is room; what stands before it and behind it stays.
module _ {out : List ℕ} {at : ℕ} {bs left : List ℕ} {next : ℕ} (p : Put out at bs left next) (room : at + length bs ≤ length out) where
  parts : left ≡ take at out ++ (bs ++ drop (at + length bs) out)
  parts = p.bytes ∙ (sets-eq bs out at room ∙ append_assoc (take at out) bs (drop (at + length bs) out))

  before_long : length (take at out) ≡ at
  before_long = length-take-le at out (omega (arith, room))

  from_place : drop at left ≡ bs ++ drop (at + length bs) out
  from_place = ap (drop at) parts ∙ drop_at (take at out) (bs ++ drop (at + length bs) out) at before_long

  pub what_is_put_stands : take (length bs) (drop at left) ≡ bs
  what_is_put_stands = ap (take (length bs)) from_place ∙ take-append_seam bs (drop (at + length bs) out)

  pub what_is_before_stays : take at left ≡ take at out
  what_is_before_stays = ap (take at) parts ∙ take_at (take at out) (bs ++ drop (at + length bs) out) at before_long

  pub what_is_behind_stays : drop next left ≡ drop next out
  what_is_behind_stays =
      ap (λ (k : ℕ). drop k left) p.behind
      ∙ (sym (drop-drop (length bs) at left) ∙ (ap (drop (length bs)) from_place ∙ drop-append_seam bs (drop (at + length bs) out)))
      ∙ ap (λ (k : ℕ). drop k out) (sym p.behind)

-- Only one buffer and one place are left.
pub put_leaves_one : {out : List ℕ} {at : ℕ} {bs left₁ left₂ : List ℕ} {next₁ next₂ : ℕ} → Put out at bs left₁ next₁ → Put out at bs left₂ next₂
    → (left₁ ≡ left₂) × (next₁ ≡ next₂)
put_leaves_one p q = (p.bytes ∙ sym q.bytes, p.behind ∙ sym q.behind)
