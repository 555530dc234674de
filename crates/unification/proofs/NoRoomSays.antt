-- What is said where resolving ends for want of room (`NoRoomFor`), each clause read alone: at a sort that is at no number of the list, and for which no row
-- or too few entries are left. Assumes nothing.
use mathlib.Core.Path.{◌≡◌, refl, sym, ap, ◌∙◌}
use mathlib.Core.Bool.{Bool, true, false, ◌&&◌}
use mathlib.Core.Logic.{◌⊎◌, inl, inr}
use Prim.Native.Nat.{ℕ, ◌<◌}
use native.Mathlib.Omega.{arith}
use lib.Dec.{leb, ltb}
use lib.ListN.{length}
use borrow.Author.Tests.{ltb-false, leb-false}
use Rattle.resolved_sort.specs.Interning.{Sorts, look, member, need}
use Rattle.resolved_sort.proofs.Numbers.{member_look}
use Rattle.resolved_sort.proofs.Reached.{no_confusion}
use Rattle.unification.specs.Resolve.{NoRoomFor}

pub no_room_for_a_new_sort : (S : Sorts) (r : NoRoomFor S) → ((i : ℕ) → i < length S.trees → look S.trees i ≡ r.sort → ⊥)
    × ((S.rows ≡ 0) ⊎ (S.entries < need r.sort))
no_room_for_a_new_sort S r = (new, go (ltb 0 S.rows) (leb (need r.sort) S.entries) refl refl r.too_big)
  where
    new : (i : ℕ) → i < length S.trees → look S.trees i ≡ r.sort → ⊥
    new i l q =
        let z : true ≡ false = sym (member_look S.trees i l) ∙ (ap (member S.trees) q ∙ r.absent) in
        no_confusion (cc)

    go : (a b : Bool) → ltb 0 S.rows ≡ a → leb (need r.sort) S.entries ≡ b → (a && b) ≡ false → (S.rows ≡ 0) ⊎ (S.entries < need r.sort)
    go false b x y q = inl (omega (arith, ltb-false 0 S.rows x))
    go true false x y q = inr (omega (arith, leb-false (need r.sort) S.entries y))
    go true true x y q = let z : true ≡ false = q in no_confusion (cc)
