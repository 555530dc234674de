-- The index of n rows has each row's number plus one among the words seen from the row's place on, and nothing above n. By
-- induction on n: a row entered goes to the first empty slot from its place, and what was seen stays seen. Assumes nothing.
use mathlib.Core.Path.{◌≡◌, refl, ◌∙◌, ap}
use mathlib.Core.List.{List}
use Prim.Native.Nat.{ℕ, zero, suc, ◌+◌, ◌<◌, ◌≤◌}
use native.Mathlib.Omega.{arith}
use native.Mathlib.Numerals.{add-one}
use native.Mathlib.Decide.{ℕ_discrete}
use lib.ListN.{length, get_or, set, replicate, get_or-replicate, get_or-eq_default, length-replicate, length-set}
use lib.Seq.{get_or-set_same, get_or-set_other}
use lib.Dec.{ltb}
use mathlib.Core.Bool.{Bool, true, false}
use borrow.Author.Tests.{ltb-true, ltb-false}
use Rattle.resolved_sort.specs.Index.{Has, slots, slot_at, slot_after, seen, free_slot, entered, index_of}
use Rattle.resolved_sort.proofs.IndexSlots.{row_has_slot, Reached, each_slot_reached}
use Rattle.resolved_sort.proofs.IndexFull.{length_index, slot_left}
use Rattle.resolved_sort.proofs.IndexSeen.{seen_stays, entered_is_seen, free_is_empty}

zero_by : (n p : ℕ) (b : Bool) → ltb p n ≡ b → ◌≡◌ {A = ℕ} (get_or (replicate n 0) p 0) 0
zero_by n p true e = get_or-replicate n p 0 0 (ltb-true p n e)
zero_by n p false e = get_or-eq_default (replicate n 0) 0 (omega (arith, ltb-false p n e, length-replicate {A = ℕ} n 0))

pub zeros_are_zero : (n p : ℕ) → ◌≡◌ {A = ℕ} (get_or (replicate n 0) p 0) 0
zeros_are_zero n p = zero_by n p (ltb p n) refl

set_by : (l : List ℕ) (i p v n : ℕ) → v ≤ n → get_or l p 0 ≤ n → Dec (p ≡ i) → get_or (set l i v) p 0 ≤ n
set_by l i p v n h k (no d) = rw (get_or-set_other l i p v 0 d) k
set_by l i p v n h k (yes d) = rw d (inside (ltb i (length l)) refl)
  where
    inside : (b : Bool) → ltb i (length l) ≡ b → get_or (set l i v) i 0 ≤ n
    inside true e = rw (get_or-set_same l i v 0 (ltb-true i (length l) e)) h
    inside false e =
        let z : get_or (set l i v) i 0 ≡ 0 = get_or-eq_default (set l i v) 0 (omega (arith, ltb-false i (length l) e, length-set l i v)) in omega arith

module _ (ws : List ℕ) where
  -- each word of the index is at most n
  pub index_within : (n p : ℕ) → get_or (index_of ws n) p 0 ≤ n
  unfolding index_of entered
  index_within zero p = omega (arith, zeros_are_zero slots p)
  index_within (suc n) p = set_by (index_of ws n) _ p (n + 1) (suc n) (omega arith) (omega (arith, index_within n p)) (ℕ_discrete p _)

  module _ (n : ℕ) (room : n < slots) where
    abbrev ix : List ℕ
    ix = index_of ws n

    abbrev place : ℕ
    place = slot_at ws n

    way : Reached place ((slot_left ws n room).slot)
    way = each_slot_reached place ((slot_left ws n room).slot) (row_has_slot ws n) (omega (arith, (slot_left ws n room).inside, length_index ws n))

    way_empty : get_or ix (slot_after place way.steps) 0 ≡ 0
    way_empty = ap (λ p. get_or ix p 0) way.there ∙ (slot_left ws n room).empty

    free_left : get_or ix (free_slot ix slots place) 0 ≡ 0
    free_left = free_is_empty ix slots place way.steps way.few way_empty

    -- the row entered is seen from its place
    pub last_seen : Has (seen (entered ws ix n) slots place) (suc n)
    unfolding entered
    last_seen =
        rw (add-one n)
        (entered_is_seen ix (suc n) (λ e. omega arith) (omega (arith, length_index ws n)) slots place way.steps (row_has_slot ws n) way.few way_empty)

    -- and what was seen from anywhere is still
    pub others_seen : (p x : ℕ) → Has (seen ix slots p) x → Has (seen (entered ws ix n) slots p) x
    unfolding entered
    others_seen p x m = seen_stays ix (free_slot ix slots place) (n + 1) free_left slots p x m

  held_by : (n i : ℕ) → n < slots → i < suc n → Dec (i ≡ n) → (i < n → Has (seen (index_of ws n) slots (slot_at ws i)) (suc i))
      → Has (seen (entered ws (index_of ws n) n) slots (slot_at ws i)) (suc i)
  held_by n i r h (yes d) f = rw d (last_seen n r)
  held_by n i r h (no d) f = others_seen n r (slot_at ws i) (suc i) (f (omega arith))

  -- each row's number is seen from its place
  pub index_holds : (n : ℕ) → n ≤ slots → (i : ℕ) → i < n → Has (seen (index_of ws n) slots (slot_at ws i)) (suc i)
  unfolding index_of
  index_holds zero l i h = absurd (omega arith)
  index_holds (suc n) l i h = held_by n i (omega arith) h (ℕ_discrete i n) (index_holds n (omega arith) i)
