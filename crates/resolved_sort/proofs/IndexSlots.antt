-- A place is one of the slots, so is the slot after a slot, and from each slot every other is reached in fewer than 2,048
-- steps: straight on, or to the last slot, round the end and straight on. Assumes nothing.
use mathlib.Core.Path.{◌≡◌, refl}
use mathlib.Core.Bool.{Bool, true, false, cond}
use mathlib.Core.List.{List}
use Prim.Native.Nat.{ℕ, zero, suc, ◌+◌, ◌-◌, ◌*◌, ◌%◌, ◌<◌, ◌≤◌}
use native.Mathlib.Omega.{arith}
use native.Mathlib.Nat.{mod-lt, div-lt_iff_lt-mul}
use lib.Dec.{ltb}
use borrow.Author.Tests.{ltb-true, ltb-false, lt-ltb, le-ltb}
use Rattle.resolved_sort.specs.Storage.{Row}
use Rattle.resolved_sort.specs.Index.{slots, wrap, spreader, low_bits, slot_of_mix, slot_of, slot_at, next_slot, slot_after}

pub mix_has_slot : (h : ℕ) → slot_of_mix h < slots
unfolding slot_of_mix
mix_has_slot h =
    (div-lt_iff_lt-mul {k = low_bits} {x = h * spreader % wrap} {y = slots} (omega arith)).1 (mod-lt (h * spreader) {m = wrap} (omega arith))

pub place_is_slot : (r : Row) → slot_of r < slots
unfolding slot_of
place_is_slot r = mix_has_slot _

pub row_has_slot : (ws : List ℕ) (i : ℕ) → slot_at ws i < slots
unfolding slot_at
row_has_slot ws i = place_is_slot _

next_by : (p : ℕ) (b : Bool) → ltb p 2047 ≡ b → cond b (p + 1) 0 < slots
next_by p true e = omega (arith, ltb-true p 2047 e)
next_by p false e = omega arith

pub next_is_slot : (p : ℕ) → next_slot p < slots
unfolding next_slot
next_is_slot p = next_by p (ltb p 2047) refl

pub next_inside : (p : ℕ) → p < 2047 → next_slot p ≡ p + 1
unfolding next_slot
next_inside p h = rw (lt-ltb p 2047 h)

pub next_round : (p : ℕ) → 2047 ≤ p → next_slot p ≡ 0
unfolding next_slot
next_round p h = rw (le-ltb p 2047 h)

straight_on : (d p z : ℕ) → p + d ≡ z → z < slots → slot_after p d ≡ z
unfolding slot_after
straight_on zero p z e h = omega arith
straight_on (suc d) p z e h = rw (next_inside p (omega arith)) (straight_on d (p + 1) z (omega arith) h)

round_the_end : (d p z j : ℕ) → p + d ≡ 2047 → z < slots → j ≡ d + z → slot_after p (suc j) ≡ z
unfolding slot_after
round_the_end zero p z j e h f = rw (next_round p (omega arith)) (straight_on j 0 z (omega arith) h)
round_the_end (suc d) p z zero e h f = absurd (omega arith)
round_the_end (suc d) p z (suc j) e h f = rw (next_inside p (omega arith)) (round_the_end d (p + 1) z j (omega arith) h (omega arith))

-- a slot z is some j steps after p
pub record Reached (p z : ℕ) : Type 0 where
  pub steps : ℕ
  pub few : steps < slots
  pub there : slot_after p steps ≡ z

reached_by : (p z : ℕ) → p < slots → z < slots → (b : Bool) → ltb z p ≡ b → Reached p z
reached_by p z h k true e =
    let l = ltb-true z p e in
    record { steps = suc (2047 - p + z); few = omega arith; there = round_the_end (2047 - p) p z (2047 - p + z) (omega arith) k refl }
reached_by p z h k false e =
    let l : p ≤ z = omega (arith, ltb-false z p e) in record { steps = z - p; few = omega arith; there = straight_on (z - p) p z (omega arith) k }

pub each_slot_reached : (p z : ℕ) → p < slots → z < slots → Reached p z
each_slot_reached p z h k = reached_by p z h k (ltb z p) refl
