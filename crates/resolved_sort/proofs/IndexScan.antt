-- "it gives the scan's result for every sort": in a list without two equal rows, whose index is filled, the lookup finds
-- what the scan finds. A number found is of an equal row, and there is one such row at most; an equal row of the list has
-- the same place, so its number is seen. Assumes nothing.
use mathlib.Core.Path.{◌≡◌, refl, sym, ◌∙◌, ap, subst}
use mathlib.Core.Bool.{Bool, true, false, cond}
use mathlib.Core.Logic.{◌⊎◌, inl, inr, ⊎_elim}
use mathlib.Core.List.{List, [], ◌∷◌}
use Prim.Native.Nat.{ℕ, suc, ◌<◌, ◌≤◌}
use native.Mathlib.Omega.{arith}
use native.Mathlib.Nat.{zero-add}
use lib.ListN.{get_or, take}
use lib.Seq.{get_or-take}
use borrow.Author.Tests.{lt-ltb, le-ltb}
use Rattle.std.specs.Prelude.{Option, Some, None}
use Rattle.resolved_sort.specs.declared.SortId.{SortId}
use Rattle.resolved_sort.specs.Storage.{Row, words_at}
use Rattle.resolved_sort.specs.Rows.{same_row, find_row, found_row}
use Rattle.resolved_sort.proofs.Numbers.{true_not_false}
use Rattle.resolved_sort.proofs.Interned.{same_row_exactly}
use Rattle.resolved_sort.proofs.Reached.{no_confusion}
use Rattle.resolved_sort.specs.Index.{Has, slots, sort_of_word, slot_of, slot_at, seen, first_of, lookup, slot_after, index_of, Indexed}
use Rattle.resolved_sort.proofs.IndexSlots.{place_is_slot}
use Rattle.resolved_sort.proofs.IndexSeen.{seen_empty, seen_agrees, seen_to_empty, seen_from_slot}
use Rattle.resolved_sort.proofs.IndexHeld.{index_within, index_holds}
use Rattle.resolved_sort.proofs.IndexFirst.{first_none, first_only}

-- no two of the first n rows are equal
abbrev pub RowsDiffer : List ℕ → ℕ → Type 0
RowsDiffer ws n = (j : ℕ) → j < n → (i : ℕ) → i < j → words_at ws i ≡ words_at ws j → ⊥

-- a sort whose own place is empty is not found
pub lookup_at_empty_finds_nothing : (ws ix : List ℕ) (r : Row) → get_or ix (slot_of r) 0 ≡ 0 → lookup ws ix r ≡ None
unfolding lookup first_of
lookup_at_empty_finds_nothing ws ix r e = rw (seen_empty ix 2047 (slot_of r) e)

-- "with all slots zero it finds nothing"
pub lookup_in_zeros_finds_nothing : (ws ix : List ℕ) (r : Row) → ((p : ℕ) → p < slots → get_or ix p 0 ≡ 0) → lookup ws ix r ≡ None
lookup_in_zeros_finds_nothing ws ix r f = lookup_at_empty_finds_nothing ws ix r (f (slot_of r) (place_is_slot r))

-- "A lookup looks only at the slots from the sort's place to the first empty one": indexes that agree there give one answer.
pub lookup_sees_only : (ws ix jx : List ℕ) (r : Row) (e : ℕ)
    → ((j : ℕ) → j ≤ e → get_or ix (slot_after (slot_of r) j) 0 ≡ get_or jx (slot_after (slot_of r) j) 0) → get_or ix (slot_after (slot_of r) e) 0 ≡ 0
    → lookup ws ix r ≡ lookup ws jx r
unfolding lookup
lookup_sees_only ws ix jx r e same z = ap (first_of ws r) (seen_to_empty ix jx slots (slot_of r) e same z)

some_same : {s t : SortId} → Some s ≡ Some t → s ≡ t
some_same e = cc

-- What the first equal row's number is: of a word in the list, or none of the words is of an equal row.
record Hit (ws : List ℕ) (r : Row) (xs : List ℕ) (o : Option SortId) : Type 0 where
  word : ℕ
  among : Has xs word
  same : same_row (words_at ws (sort_of_word word)) r ≡ true
  is : o ≡ Some (record { 0 = sort_of_word word })

record Miss (ws : List ℕ) (r : Row) (xs : List ℕ) (o : Option SortId) : Type 0 where
  none : (x : ℕ) → Has xs x → same_row (words_at ws (sort_of_word x)) r ≡ false
  is : o ≡ None

module _ (ws : List ℕ) (r : Row) where
  hit_later : (x : ℕ) (xs : List ℕ) (o : Option SortId) → Hit ws r xs o → Hit ws r (x ∷ xs) o
  unfolding Has
  hit_later x xs o h = record { word = h.word; among = inr h.among; same = h.same; is = h.is }

  miss_more : (x : ℕ) (xs : List ℕ) (o : Option SortId) → same_row (words_at ws (sort_of_word x)) r ≡ false → Miss ws r xs o → Miss ws r (x ∷ xs) o
  unfolding Has
  miss_more x xs o e m =
      record { none = λ y. ⊎_elim (λ q. subst (λ z. same_row (words_at ws (sort_of_word z)) r ≡ false) q e) (m.none y); is = m.is }

  first_by : (x : ℕ) (xs : List ℕ) (b : Bool) → same_row (words_at ws (sort_of_word x)) r ≡ b
      → Hit ws r xs (first_of ws r xs) ⊎ Miss ws r xs (first_of ws r xs)
      → Hit ws r (x ∷ xs) (cond b (Some (record { 0 = sort_of_word x })) (first_of ws r xs))
      ⊎ Miss ws r (x ∷ xs) (cond b (Some (record { 0 = sort_of_word x })) (first_of ws r xs))
  unfolding Has
  first_by x xs true e h = inl (record { word = x; among = inl refl; same = e; is = refl })
  first_by x xs false e (inl h) = inl (hit_later x xs _ h)
  first_by x xs false e (inr m) = inr (miss_more x xs _ e m)

  first_same : (xs : List ℕ) → Hit ws r xs (first_of ws r xs) ⊎ Miss ws r xs (first_of ws r xs)
  unfolding first_of Has
  first_same [] = inr (record { none = λ x h. absurd h; is = refl })
  first_same (x ∷ xs) = first_by x xs (same_row (words_at ws (sort_of_word x)) r) refl (first_same xs)

-- What is found stands in a slot that is seen, and its row is the one looked for: no word is believed, and none behind
-- the first empty slot found.
module _ (ws ix : List ℕ) (r : Row) (s : SortId) (found : lookup ws ix r ≡ Some s) where
  seen_by : Hit ws r (seen ix slots (slot_of r)) (lookup ws ix r) ⊎ Miss ws r (seen ix slots (slot_of r)) (lookup ws ix r)
      → (w : ℕ) × Has (seen ix slots (slot_of r)) w × (s ≡ record { 0 = sort_of_word w }) × (words_at ws s.0 ≡ r)
  seen_by (inl h) =
      let e : s ≡ record { 0 = sort_of_word h.word } = some_same (sym found ∙ h.is) in
      (h.word, h.among, e, subst (λ (x : SortId). words_at ws x.0 ≡ r) (sym e) ((same_row_exactly _ r).0 h.same))
  seen_by (inr m) = no_confusion (let z : Some s ≡ None = sym found ∙ m.is in cc)

  pub found_is_seen : (w : ℕ) × Has (seen ix slots (slot_of r)) w × (s ≡ record { 0 = sort_of_word w }) × (words_at ws s.0 ≡ r)
  unfolding lookup
  found_is_seen = seen_by (first_same ws r (seen ix slots (slot_of r)))

not_same : (r s : Row) → (r ≡ s → ⊥) → (b : Bool) → same_row r s ≡ b → b ≡ false
not_same r s f false e = refl
not_same r s f true e = absurd (f ((same_row_exactly r s).0 e))

module _ (ws : List ℕ) (n : ℕ) (r : Row) where
  abbrev test : ℕ → Bool
  test i = same_row (words_at ws i) r

  scan_none : ((i : ℕ) → i < n → words_at ws i ≡ r → ⊥) → find_row ws n r ≡ n
  unfolding find_row
  scan_none f = first_none test n 0 (λ j h. not_same (words_at ws j) r (f j (omega arith)) _ refl) ∙ zero-add n

  scan_only : RowsDiffer ws n → (i : ℕ) → i < n → words_at ws i ≡ r → find_row ws n r ≡ i
  unfolding find_row
  scan_only d i h e =
      first_only test n 0 i (omega arith) (omega arith) ((same_row_exactly (words_at ws i) r).1 e)
      (λ j l. not_same (words_at ws j) r (λ q. d i h j l (q ∙ sym e)) _ refl)

  scan_misses : find_row ws n r ≡ n → None ≡ found_row ws n r
  scan_misses e = rw (e, le-ltb n n (omega arith))

  scan_hits : (i : ℕ) → i < n → find_row ws n r ≡ i → Some (record { 0 = i }) ≡ found_row ws n r
  scan_hits i h e = rw (e, lt-ltb i n h)

  module _ (few : n ≤ slots) (d : RowsDiffer ws n) where
    abbrev held : List ℕ
    held = seen (index_of ws n) slots (slot_of r)

    place_same : (i : ℕ) → words_at ws i ≡ r → slot_at ws i ≡ slot_of r
    unfolding slot_at
    place_same i e = ap slot_of e

    of_hit : (o : Option SortId) → Hit ws r held o → o ≡ found_row ws n r
    of_hit o h =
        let w = seen_from_slot (index_of ws n) n slots (slot_of r) h.word (index_within ws n) h.among in
        let l : sort_of_word h.word < n = omega arith in
        h.is ∙ scan_hits (sort_of_word h.word) l (scan_only d (sort_of_word h.word) l ((same_row_exactly _ r).0 h.same))

    of_miss : (o : Option SortId) → Miss ws r held o → o ≡ found_row ws n r
    of_miss o m =
        m.is
        ∙ scan_misses
        (scan_none
        (λ j l e. true_not_false (same_row (words_at ws j) r) ((same_row_exactly _ r).1 e)
        (let z : sort_of_word (suc j) ≡ j = omega arith in
        subst (λ x. same_row (words_at ws x) r ≡ false) z
        (m.none (suc j) (subst (λ p. Has (seen (index_of ws n) slots p) (suc j)) (place_same j e) (index_holds ws n few j l))))))

    pub index_is_scan : lookup ws (index_of ws n) r ≡ found_row ws n r
    unfolding lookup
    index_is_scan = ⊎_elim (of_hit _) (of_miss _) (first_same ws r held)

-- the slots of the lent words are all that counts
pub slots_are_all : (ws ix : List ℕ) (r : Row) → lookup ws ix r ≡ lookup ws (take slots ix) r
unfolding lookup
slots_are_all ws ix r = ap (first_of ws r) (seen_agrees ix (take slots ix) (λ p h. sym (get_or-take slots ix p 0 h)) slots (slot_of r) (place_is_slot r))

pub filled_lookup_is_scan : (ws ix : List ℕ) (n : ℕ) → n ≤ slots → RowsDiffer ws n → Indexed ws n ix → (r : Row) → lookup ws ix r ≡ found_row ws n r
unfolding Indexed
filled_lookup_is_scan ws ix n few d h r = slots_are_all ws ix r ∙ (ap (λ jx. lookup ws jx r) h ∙ index_is_scan ws n r few d)
