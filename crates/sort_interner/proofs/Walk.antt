-- The walk from a slot to the first empty one, one turn after another: what comes from the slot reached, with the turns
-- that are left, is what comes of the whole. Assumes nothing.
use mathlib.Core.Path.{◌≡◌, sym, ap, ◌∙◌}
use mathlib.Core.Bool.{Bool, true, false, cond}
use mathlib.Core.List.{List}
use Prim.Native.Nat.{ℕ, suc, ◌+◌, ◌-◌, ◌<◌, ◌≤◌}
use native.Mathlib.Omega.{arith}
use lib.ListN.{get_or}
use Rattle.std.specs.Prelude.{Option, Some, None}
use Rattle.resolved_sort.specs.declared.SortId.{SortId}
use Rattle.resolved_sort.specs.Storage.{Row, words_at}
use Rattle.resolved_sort.specs.Rows.{same_row}
use Rattle.resolved_sort.specs.Index.{slots, sort_of_word, slot_of, next_slot, seen, first_of, lookup, free_slot}
use Rattle.resolved_sort.proofs.IndexSeen.{seen_empty, seen_more, free_here, free_later}

module _ (ix : List ℕ) (i q whole : ℕ) (inv : whole ≡ free_slot ix (slots - i) q) where
  pub free_at_end : slots ≤ i → q ≡ whole
  unfolding free_slot
  free_at_end h = let z : slots - i ≡ 0 = omega arith in sym (rw z at inv)

  module _ (h : i < slots) (w : ℕ) (e : w ≡ get_or ix q 0) where
    free_turn : whole ≡ free_slot ix (suc (slots - (i + 1))) q
    free_turn = let z : slots - i ≡ suc (slots - (i + 1)) = omega arith in inv ∙ ap (λ k. free_slot ix k q) z

    pub free_found : w ≡ 0 → q ≡ whole
    free_found z = sym (free_turn ∙ free_here ix (slots - (i + 1)) q (sym e ∙ z))

    pub free_from_next : (w ≡ 0 → ⊥) → (p : ℕ) → p ≡ next_slot q → whole ≡ free_slot ix (slots - (i + 1)) p
    free_from_next f p d = free_turn ∙ free_later ix (slots - (i + 1)) q (λ z. f (e ∙ z)) ∙ ap (free_slot ix (slots - (i + 1))) (sym d)

pub looked_from_place : (ws ix : List ℕ) (r : Row) (p : ℕ) → p ≡ slot_of r → lookup ws ix r ≡ first_of ws r (seen ix slots p)
unfolding lookup
looked_from_place ws ix r p e = ap (λ q. first_of ws r (seen ix slots q)) (sym e)

module _ (ws ix : List ℕ) (r : Row) (i p : ℕ) (whole : Option SortId) (inv : whole ≡ first_of ws r (seen ix (slots - i) p)) where
  pub looked_at_end : slots ≤ i → None ≡ whole
  unfolding seen first_of
  looked_at_end h = let z : slots - i ≡ 0 = omega arith in sym (rw z at inv)

  module _ (h : i < slots) (w : ℕ) (e : w ≡ get_or ix p 0) where
    look_turn : whole ≡ first_of ws r (seen ix (suc (slots - (i + 1))) p)
    look_turn = let z : slots - i ≡ suc (slots - (i + 1)) = omega arith in inv ∙ ap (λ k. first_of ws r (seen ix k p)) z

    pub looked_to_empty : w ≡ 0 → None ≡ whole
    unfolding first_of
    looked_to_empty z = sym (look_turn ∙ ap (first_of ws r) (seen_empty ix (slots - (i + 1)) p (sym e ∙ z)))

    module _ (f : w ≡ 0 → ⊥) (b : Bool) (eb : b ≡ same_row (words_at ws (sort_of_word w)) r) where
      look_word : whole ≡ cond b (Some (record { 0 = sort_of_word w })) (first_of ws r (seen ix (slots - (i + 1)) (next_slot p)))
      unfolding first_of
      look_word =
          look_turn ∙ ap (first_of ws r) (seen_more ix (slots - (i + 1)) p (λ z. f (e ∙ z)))
          ∙ rw (eb, e)

      pub looked_up : b ≡ true → Some (record { 0 = sort_of_word w }) ≡ whole
      looked_up t = sym (rw t at look_word)

      pub looked_from_next : b ≡ false → (q : ℕ) → q ≡ next_slot p → whole ≡ first_of ws r (seen ix (slots - (i + 1)) q)
      looked_from_next t q d = (rw t at look_word) ∙ ap (λ x. first_of ws r (seen ix (slots - (i + 1)) x)) (sym d)
