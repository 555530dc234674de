-- With fewer rows than slots an empty slot is left: each row entered fills at most one. Assumes nothing.
use mathlib.Core.Path.{◌≡◌, refl, ◌∙◌, sym, subst}
use mathlib.Core.Bool.{Bool, true, false, cond}
use mathlib.Core.List.{List, [], ◌∷◌}
use Prim.Native.Nat.{ℕ, zero, suc, ◌+◌, ◌<◌, ◌≤◌}
use native.Mathlib.Omega.{arith}
use lib.ListN.{length, set, replicate, length-set, length-replicate, take}
use lib.Dec.{eqb}
use borrow.Author.Tests.{eqb-true}
use Rattle.resolved_sort.specs.Storage.{max_sorts}
use Rattle.resolved_sort.specs.Index.{slots, slot_at, free_slot, entered, index_of, EmptySlot, Indexed}

-- how many words are not zero
unfoldable pub used : List ℕ → ℕ
used [] = 0
used (x ∷ xs) = cond (eqb x 0) (used xs) (suc (used xs))

at_most_one : (b : Bool) (n : ℕ) → cond b n (suc n) ≤ suc n
at_most_one true n = omega arith
at_most_one false n = omega arith

one_more : (b : Bool) (m n : ℕ) → m ≤ suc n → cond b m (suc m) ≤ suc (cond b n (suc n))
one_more true m n h = omega arith
one_more false m n h = omega arith

none_less : (b : Bool) (n : ℕ) → n ≤ cond b n (suc n)
none_less true n = omega arith
none_less false n = omega arith

used_set : (l : List ℕ) (i v : ℕ) → used (set l i v) ≤ suc (used l)
unfolding used
used_set [] i v = omega arith
used_set (x ∷ xs) zero v = omega (arith, at_most_one (eqb v 0) (used xs), none_less (eqb x 0) (used xs))
used_set (x ∷ xs) (suc i) v = one_more (eqb x 0) (used (set xs i v)) (used xs) (used_set xs i v)

used_zeros : (n : ℕ) → used (replicate n 0) ≡ 0
unfolding used
used_zeros zero = refl
used_zeros (suc n) = used_zeros n

empty_by : (x : ℕ) (xs : List ℕ) (b : Bool) → eqb x 0 ≡ b → cond b (used xs) (suc (used xs)) < suc (length xs) → (used xs < length xs → EmptySlot xs)
    → EmptySlot (x ∷ xs)
empty_by x xs true e h f = record { slot = 0; inside = omega arith; empty = eqb-true x 0 e }
empty_by x xs false e h f = let r = f (omega arith) in record { slot = suc r.slot; inside = omega (arith, r.inside); empty = r.empty }

empty_left : (l : List ℕ) → used l < length l → EmptySlot l
unfolding used
empty_left [] h = absurd (omega arith)
empty_left (x ∷ xs) h = empty_by x xs (eqb x 0) refl h (empty_left xs)

module _ (ws : List ℕ) where
  pub length_index : (n : ℕ) → length (index_of ws n) ≡ slots
  unfolding index_of entered
  length_index zero = length-replicate {A = ℕ} slots 0
  length_index (suc n) = length-set (index_of ws n) _ _ ∙ length_index n

  used_index : (n : ℕ) → used (index_of ws n) ≤ n
  unfolding index_of entered
  used_index zero = let z = used_zeros slots in omega arith
  used_index (suc n) = omega (arith, used_set (index_of ws n) (free_slot (index_of ws n) slots (slot_at ws n)) (n + 1), used_index n)

  pub slot_left : (n : ℕ) → n < slots → EmptySlot (index_of ws n)
  slot_left n h = empty_left (index_of ws n) (omega (arith, used_index n, length_index n))

  -- "With at most 1,024 sorts it never fills."
  pub never_full : (n : ℕ) → n ≤ max_sorts → EmptySlot (index_of ws n)
  never_full n h = slot_left n (omega arith)

  -- so a slot of lent words that are the index is empty
  pub lent_never_full : (ix : List ℕ) (n : ℕ) → n ≤ max_sorts → Indexed ws n ix → EmptySlot (take slots ix)
  unfolding Indexed
  lent_never_full ix n h d = subst EmptySlot (sym d) (never_full n h)
