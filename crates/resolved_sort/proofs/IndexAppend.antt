-- After one more row, entered into the index of the rows before it, the index is again that of the rows. The rows before it
-- read as before, so their index is the same, and the row is entered as the definition enters it. Assumes nothing.
use mathlib.Core.Path.{◌≡◌, refl, sym, ◌∙◌, ap, ap₂}
use mathlib.Core.List.{List}
use Prim.Native.Nat.{ℕ, zero, suc, ◌+◌, ◌<◌, ◌≤◌}
use native.Mathlib.Omega.{arith}
use native.Mathlib.Numerals.{add-one}
use lib.ListN.{length, set, take, replicate}
use lib.Seq.{get_or-take, take-set-lt}
use Rattle.resolved_sort.specs.Storage.{Row, words_at, max_sorts, max_entries, append_row}
use Rattle.resolved_sort.specs.Rows.{Checked}
use Rattle.resolved_sort.proofs.Append.{append_agrees, rows_agree}
use Rattle.resolved_sort.specs.Index.{slots, slot_of, slot_at, free_slot, entered, index_of, Indexed}
use Rattle.resolved_sort.proofs.IndexSlots.{row_has_slot}
use Rattle.resolved_sort.proofs.IndexSeen.{free_agrees, free_is_slot}

-- a row is entered into the slots of the lent words
entered_in_slots : (ws ix : List ℕ) (i : ℕ) → take slots (entered ws ix i) ≡ entered ws (take slots ix) i
unfolding entered
entered_in_slots ws ix i =
    let q = free_slot ix slots (slot_at ws i) in
    take-set-lt slots ix q (i + 1) (free_is_slot ix slots (slot_at ws i) (row_has_slot ws i))
    ∙ ap (λ p. set (take slots ix) p (i + 1))
    (free_agrees ix (take slots ix) (λ p h. sym (get_or-take slots ix p 0 h)) slots (slot_at ws i) (row_has_slot ws i))

-- an empty index is that of no rows
pub indexed_none : (ws ix : List ℕ) → take slots ix ≡ replicate slots 0 → Indexed ws 0 ix
unfolding Indexed index_of
indexed_none ws ix e = e

-- one row more
pub indexed_one_more : (ws ix : List ℕ) (i : ℕ) → Indexed ws i ix → (jx : List ℕ) → jx ≡ entered ws ix i → Indexed ws (i + 1) jx
unfolding Indexed index_of
indexed_one_more ws ix i h jx e = rw (add-one i) (ap (take slots) e ∙ (entered_in_slots ws ix i ∙ ap (λ l. entered ws l i) h))

place_by_row : (ws us : List ℕ) (i : ℕ) → words_at us i ≡ words_at ws i → slot_at us i ≡ slot_at ws i
unfolding slot_at
place_by_row ws us i e = ap slot_of e

-- equal rows have equal indexes
pub index_by_rows : (ws us : List ℕ) (n : ℕ) → ((i : ℕ) → i < n → words_at us i ≡ words_at ws i) → index_of us n ≡ index_of ws n
unfolding index_of entered
index_by_rows ws us zero f = refl
index_by_rows ws us (suc n) f =
    ap₂ (λ l p. set l (free_slot l slots p) (n + 1)) (index_by_rows ws us n (λ i h. f i (omega arith))) (place_by_row ws us n (f n (omega arith)))

pub indexed_after_append : (ws : List ℕ) (n e : ℕ) (r : Row) → Checked ws n e → n < max_sorts → e + length r.args ≤ max_entries → (ix : List ℕ)
    → Indexed ws n ix
    → (us jx : List ℕ) → us ≡ append_row ws n e r → jx ≡ entered us ix n → Indexed us (n + 1) jx
unfolding Indexed
indexed_after_append ws n e r k h s ix d us jx eu ej =
    indexed_one_more us ix n
    (d ∙ sym (rw eu
    (index_by_rows ws (append_row ws n e r) n (rows_agree ws (append_row ws n e r) n e (append_agrees ws n e r k.long h s) k.fine))))
    jx ej
