-- Slots of some rows, as they were computed apart; and the index of three sorts whose slot is the last, so
-- that the second and third stand round the end. Assumes nothing.
use mathlib.Core.Path.{◌≡◌, refl}
use mathlib.Core.List.{List, [], ◌∷◌, ◌++◌, map}
use Prim.Native.Nat.{ℕ}
use lib.ListN.{replicate, take, drop}
use Rattle.resolved_sort.specs.Storage.{Row}
use Rattle.std.specs.Prelude.{Some, None}
use Rattle.resolved_sort.specs.Storage.{entries_of}
use Rattle.resolved_sort.specs.Rows.{same_row, same_words}
use Rattle.resolved_sort.specs.Index.{mixed, mixed_all, mix_of, slot_of_mix, slot_of, slot_at, next_slot, seen, first_of}
use Rattle.resolved_sort.specs.Index.{lookup, free_slot, entered, index_of}

abbrev row : ℕ → ℕ → List ℕ → Row
row kind part args = record { kind = kind; part = part; args = args }

-- unit, Bool, Real, List(Bool), an FBag, three functions, a Def, a TypeVar, and a function of 16 arguments
pub sample_rows : List Row
sample_rows =
    row 0 0 [] ∷ row 1 0 [] ∷ row 5 0 [] ∷ row 6 1 [] ∷ row 10 65535 [] ∷ row 11 3 (1 ∷ []) ∷ row 11 3 (1 ∷ 2 ∷ []) ∷ row 11 3 (2 ∷ 1 ∷ [])
    ∷ row 12 7 [] ∷ row 13 7 [] ∷ row 11 1023 (replicate 16 1022) ∷ []

pub samples_have_slots : map slot_of sample_rows ≡ 0 ∷ 842 ∷ 117 ∷ 178 ∷ 1991 ∷ 907 ∷ 187 ∷ 1812 ∷ 541 ∷ 1383 ∷ 306 ∷ []
unfolding sample_rows slot_of slot_of_mix mix_of mixed_all mixed
samples_have_slots = refl

-- a TypeVar, a Def and a TypeVar, of one slot
pub one_slot : List ℕ
one_slot = 13 ∷ 768 ∷ 0 ∷ 0 ∷ 12 ∷ 2288 ∷ 0 ∷ 0 ∷ 13 ∷ 2365 ∷ 0 ∷ 0 ∷ []

pub round_the_end : (drop 2046 (index_of one_slot 3) ≡ 0 ∷ 1 ∷ []) × (take 3 (index_of one_slot 3) ≡ 2 ∷ 3 ∷ 0 ∷ [])
unfolding one_slot index_of entered free_slot next_slot slot_at slot_of slot_of_mix mix_of mixed_all mixed entries_of
round_the_end = (refl, refl)

pub found_round_the_end :
    (lookup one_slot (index_of one_slot 3) (row 13 2365 []) ≡ Some (record { 0 = 2 }))
    × (lookup one_slot (index_of one_slot 3) (row 12 4872 []) ≡ None)
unfolding one_slot index_of entered free_slot next_slot slot_at slot_of slot_of_mix mix_of mixed_all mixed entries_of lookup seen first_of same_row same_words
found_round_the_end = (refl, refl)

-- words that are no index are not believed: sort 1 in the slot of sort 2 is another sort, and behind it is an empty slot
pub other_words_find_nothing :
    lookup one_slot (replicate 2047 0 ++ (2 ∷ [])) (row 13 2365 []) ≡ None
unfolding one_slot next_slot slot_of slot_of_mix mix_of mixed_all mixed entries_of lookup seen first_of same_row same_words
other_words_find_nothing = refl
