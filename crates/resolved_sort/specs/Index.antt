-- C-14, "Finding a sort without the scan": "Keep an index of 2,048 slots beside it". A slot holds a sort's number plus
-- one, and 0 where it is empty. A word past the end of what was lent counts as 0, and words past the slots are never
-- looked at.
use Rattle.std.specs.Prelude.{◌≡◌, cond, List, [], ◌∷◌, ℕ, zero, suc, ◌+◌, ◌-◌, ◌*◌, ◌/◌, ◌%◌, ◌^◌, ◌<◌, length, get_or}
use Rattle.std.specs.Prelude.{set, take, replicate, Bool, eqb, leb, ltb, Option, Some, None, ◌⊎◌}
use Rattle.resolved_sort.specs.declared.SortId.{SortId}
use Rattle.resolved_sort.specs.Storage.{Row, words_at}
use Rattle.resolved_sort.specs.Rows.{same_row}

-- "an index of 2,048 slots"; "scratch of its own, 2,048 words, 14 when shorter"
abbrev pub slots : ℕ
slots = 2048

unfoldable pub index_long : List ℕ → Bool
index_long ix = leb slots (length ix)

-- "placed by a mixing of kind and parts in arithmetic that wraps at 32 bits": one more word mixed in, and one after
-- another
abbrev pub wrap : ℕ
wrap = 2 ^ 32

abbrev pub mixer : ℕ
mixer = 65599

unfoldable pub mixed : ℕ → ℕ → ℕ
mixed h w = (h * mixer % wrap + w) % wrap

unfoldable pub mixed_all : ℕ → List ℕ → ℕ
mixed_all h [] = h
mixed_all h (w ∷ ws) = mixed_all (mixed h w) ws

unfoldable pub mix_of : Row → ℕ
mix_of r = mixed_all (mixed (mixed 0 r.kind) r.part) r.args

-- The slot of a mix: of its product with a large odd number the most significant 11 of 32 bits.
abbrev pub spreader : ℕ
spreader = 2654435761

abbrev pub low_bits : ℕ
low_bits = 2 ^ 21

unfoldable pub slot_of_mix : ℕ → ℕ
slot_of_mix h = h * spreader % wrap / low_bits

-- "the sort's place": the slot at which its number is looked for first
unfoldable pub slot_of : Row → ℕ
slot_of r = slot_of_mix (mix_of r)

unfoldable pub slot_at : List ℕ → ℕ → ℕ
slot_at ws i = slot_of (words_at ws i)

-- "with the next slot tried on a clash": after the last slot comes the first
abbrev pub last_slot : ℕ
last_slot = slots - 1

unfoldable pub next_slot : ℕ → ℕ
next_slot p = cond (ltb p last_slot) (p + 1) 0

-- the slot j steps after p
unfoldable pub slot_after : ℕ → ℕ → ℕ
slot_after p zero = p
slot_after p (suc j) = slot_after (next_slot p) j

-- "A lookup looks only at the slots from the sort's place to the first empty one": the words from slot p on, up to the
-- first empty slot, k at most.
unfoldable pub seen : List ℕ → ℕ → ℕ → List ℕ
seen ix zero p = []
seen ix (suc k) p = cond (eqb (get_or ix p 0) 0) [] (get_or ix p 0 ∷ seen ix k (next_slot p))

-- the sort that a slot's word stands for
abbrev pub sort_of_word : ℕ → ℕ
sort_of_word w = w - 1

-- the first of these words that stands for a sort whose row is r
unfoldable pub first_of : List ℕ → Row → List ℕ → Option SortId
first_of ws r [] = None
first_of ws r (w ∷ xs) =
    cond (same_row (words_at ws (sort_of_word w)) r) (Some (record { 0 = sort_of_word w })) (first_of ws r xs)

-- The lookup, whatever the words of the index.
unfoldable pub lookup : List ℕ → List ℕ → Row → Option SortId
lookup ws ix r = first_of ws r (seen ix slots (slot_of r))

-- the first empty one of the k slots from p on, the slot after them where there is none
unfoldable pub free_slot : List ℕ → ℕ → ℕ → ℕ
free_slot ix zero p = p
free_slot ix (suc k) p = cond (eqb (get_or ix p 0) 0) p (free_slot ix k (next_slot p))

-- sort i entered: its number plus one, in the first empty slot from its place on
unfoldable pub entered : List ℕ → List ℕ → ℕ → List ℕ
entered ws ix i = set ix (free_slot ix slots (slot_at ws i)) (i + 1)

-- The index of the first n sorts: these entered in turn into empty slots.
unfoldable pub index_of : List ℕ → ℕ → List ℕ
index_of ws zero = replicate slots 0
index_of ws (suc n) = entered ws (index_of ws n) n

-- The slots of the lent words ix are the index of the first n sorts.
unfoldable pub Indexed : List ℕ → ℕ → List ℕ → Type 0
Indexed ws n ix = take slots ix ≡ index_of ws n

-- What laws speak of: a word among those seen; and, for "it never fills", an empty slot.
unfoldable pub Has : List ℕ → ℕ → Type 0
Has [] x = ⊥
Has (y ∷ ys) x = (y ≡ x) ⊎ Has ys x

pub record EmptySlot (ix : List ℕ) : Type 0 where
  pub slot : ℕ
  pub inside : slot < length ix
  pub empty : get_or ix slot 0 ≡ 0
