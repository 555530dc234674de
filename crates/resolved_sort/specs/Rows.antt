-- Interning as the code does it, on rows: a scan for an equal row, else one more row. The law that this is interning by
-- structure stands in proofs/.
use Rattle.std.specs.Prelude.{Bool, true, false, cond, ◌&&◌, not, List, [], ◌∷◌, ℕ, zero, suc, ◌+◌, ◌<◌, ◌≤◌}
use Rattle.std.specs.Prelude.{length, eqb, leb, ltb, ◌≡◌, Option, Some, None, Result, Ok, Err}
use Rattle.resolved_sort.specs.declared.SortId.{SortId}
use Rattle.resolved_sort.specs.declared.Counts.{Counts}
use Rattle.resolved_sort.specs.declared.NoRoom.{NoRoom}
use Rattle.resolved_sort.specs.Entries.{Joined}
use Rattle.resolved_sort.specs.Entries.{At, Nothing, Full}
use Rattle.resolved_sort.specs.Storage.{max_sorts, max_entries, full_length, Row, words_at, append_row}
use Rattle.resolved_sort.specs.Checks.{rows_fine, no_two_equal, all_below}
use Rattle.resolved_sort.specs.Entries.{Stored}

-- What the checks before a call have shown of the lent words: n sorts and e entries that pass checks 1, 3, 4 and 14.
pub record Checked (ws : List ℕ) (n e : ℕ) : Type 0 where
  pub long : full_length ≤ length ws
  pub sorts : n ≤ max_sorts
  pub entries : e ≤ max_entries
  pub fine : rows_fine ws n e ≡ true
  pub differ : no_two_equal ws n ≡ true

-- each number of the list is below l
unfoldable pub AllBelow : ℕ → List ℕ → Type 0
AllBelow l [] = Unit {0}
AllBelow l (x ∷ xs) = (x < l) × AllBelow l xs

unfoldable pub same_words : List ℕ → List ℕ → Bool
same_words [] [] = true
same_words [] (y ∷ ys) = false
same_words (x ∷ xs) [] = false
same_words (x ∷ xs) (y ∷ ys) = eqb x y && same_words xs ys

unfoldable pub same_row : Row → Row → Bool
same_row r s = eqb r.kind s.kind && eqb r.part s.part && same_words r.args s.args

-- the first of the k numbers from i on that p holds of, i + k where there is none
unfoldable pub first_from : (ℕ → Bool) → ℕ → ℕ → ℕ
first_from p zero i = i
first_from p (suc k) i = cond (p i) i (first_from p k (i + 1))

-- the first row below n that is equal to r, n where there is none
unfoldable pub find_row : List ℕ → ℕ → Row → ℕ
find_row ws n r = first_from (λ i. same_row (words_at ws i) r) n 0

-- the sort of that number, where there is one
abbrev pub found_row : List ℕ → ℕ → Row → Option SortId
found_row ws n r = cond (ltb (find_row ws n r) n) (Some (record { 0 = find_row ws n r })) None

abbrev pub stored_at : List ℕ → Joined → Stored
stored_at ws r = record { words = ws; answer = r }

-- The words and counts that interning has left, and what it answered.
abbrev pub interned_at : List ℕ → Counts → Result SortId NoRoom → Stored
interned_at ws k (Ok id) = stored_at ws (At id k)
interned_at ws k (Err e) = stored_at ws Full

-- the same for join and meet, which may answer none
abbrev pub left_at : List ℕ → Counts → Result (Option SortId) NoRoom → Stored
left_at ws k (Ok (Some id)) = stored_at ws (At id k)
left_at ws k (Ok None) = stored_at ws (Nothing k)
left_at ws k (Err e) = stored_at ws Full

abbrev pub joined_at : ℕ → ℕ → ℕ → Joined
joined_at i n e = At (record { 0 = i }) (record { sorts = n; entries = e })

unfoldable pub intern_row : List ℕ → ℕ → ℕ → Row → Stored
intern_row ws n e r =
    cond (ltb (find_row ws n r) n) (stored_at ws (joined_at (find_row ws n r) n e))
    (cond (ltb n max_sorts && leb (e + length r.args) max_entries)
    (stored_at (append_row ws n e r) (joined_at n (n + 1) (e + length r.args)))
    (stored_at ws Full))

abbrev pub rows_differ : List ℕ → ℕ → Bool
rows_differ ws n = all_below n (λ j. all_below j (λ i. not (same_row (words_at ws i) (words_at ws j))))
