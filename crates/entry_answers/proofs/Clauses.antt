-- What is said of the words that an entry leaves, each clause read alone: a word that changed is one of a new row, given numbers keep their sorts, and the
-- words pass the checks again; where room ended the words read as those given; and room ends at a sort that is new and has no place. Assumes nothing.
use mathlib.Core.Path.{◌≡◌, refl, sym, ap, ◌∙◌}
use mathlib.Core.Bool.{Bool, true, false, ◌&&◌}
use mathlib.Core.List.{List}
use mathlib.Core.Logic.{◌⊎◌, inl, inr}
use Prim.Native.Nat.{ℕ, ◌+◌, ◌*◌, ◌<◌, ◌≤◌}
use native.Mathlib.Decide.{dec_lt}
use native.Mathlib.Omega.{arith}
use lib.Dec.{leb, ltb}
use lib.ListN.{length, get_or, drop}
use borrow.Author.Tests.{ltb-false, leb-false}
use Rattle.std.specs.Prelude.{Ok}
use Rattle.resolved_sort.specs.declared.Counts.{Counts}
use Rattle.resolved_sort.specs.Interning.{look, member, need}
use Rattle.resolved_sort.specs.Storage.{max_sorts, max_entries, max_arguments, row_words, entries_at, entry_at}
use Rattle.resolved_sort.specs.Checks.{first_failing, sort_checks}
use Rattle.resolved_sort.specs.Entries.{tree_at}
use Rattle.resolved_sort.specs.Growing.{needs}
use Rattle.resolved_sort.proofs.Numbers.{member_look}
use Rattle.resolved_sort.proofs.Reached.{no_confusion}
use Rattle.entry_answers.specs.SortsLeft.{SortsGrew, SortsPutBack, RanOut}

module _ (ws : List ℕ) (n e : ℕ) (vs : List ℕ) where
  module _ (k : Counts) (g : SortsGrew ws n e vs k) where
    pub changed_words_are_of_new_rows : (i : ℕ) → i < entries_at → (get_or vs i 0 ≡ get_or ws i 0 → ⊥) → (row_words * n ≤ i) × (i < row_words * k.sorts)
    changed_words_are_of_new_rows i l c = (
      elim (dec_lt i (row_words * n)) [
        | yes h ↦ absurd (c (g.given.rows i h))
        | no h ↦ omega (arith, h)
      ],
      elim (dec_lt i (row_words * k.sorts)) [
        | yes h ↦ h
        | no h ↦ absurd (c (g.past_rows i (omega (arith, h)) l))
      ],
    )

    pub changed_entries_are_new : (j : ℕ) → (entry_at vs j ≡ entry_at ws j → ⊥) → (e ≤ j) × (j < k.entries)
    changed_entries_are_new j c = (
      elim (dec_lt j e) [
        | yes h ↦ absurd (c (g.given.entries j h))
        | no h ↦ omega (arith, h)
      ],
      elim (dec_lt j k.entries) [
        | yes h ↦ h
        | no h ↦ absurd (c (g.past_entries j (omega (arith, h))))
      ],
    )

    -- as many words, no fewer sorts and entries, each given number with its sort, and all checks pass
    pub grown_words_read_as_given : (length vs ≡ length ws) × (n ≤ k.sorts) × (e ≤ k.entries)
        × ((i : ℕ) → i < n → tree_at vs k.sorts i ≡ tree_at ws n i) × (first_failing (sort_checks vs k.sorts k.entries) ≡ Ok tt)
    grown_words_read_as_given = (g.given.as_long, g.more, g.more_entries, g.old, g.again)

  pub words_put_back_read_as_given : SortsPutBack ws n e vs
      → ((i : ℕ) → i < n → tree_at vs n i ≡ tree_at ws n i) × (first_failing (sort_checks vs n e) ≡ Ok tt)
  words_put_back_read_as_given p = (p.old, p.again)

-- "a new distinct sort would exceed 1,024 sorts or 4,096 entries": it is at no number of the list so far, and no row or too few entries are left for it,
-- though it needs no more than a function may
pub room_ended_at_a_new_sort : (ws : List ℕ) (n e : ℕ) (r : RanOut ws n e)
    → ((i : ℕ) → i < length r.so_far.trees → look r.so_far.trees i ≡ r.wanted → ⊥)
    × ((max_sorts ≤ length r.so_far.trees) ⊎ (max_entries < e + needs (drop n r.so_far.trees) + need r.wanted))
    × (need r.wanted ≤ max_arguments)
room_ended_at_a_new_sort ws n e r = (new, go (ltb 0 r.so_far.rows) (leb (need r.wanted) r.so_far.entries) refl refl r.too_big, r.few)
  where
    new : (i : ℕ) → i < length r.so_far.trees → look r.so_far.trees i ≡ r.wanted → ⊥
    new i l q =
        let z : true ≡ false = sym (member_look r.so_far.trees i l) ∙ (ap (member r.so_far.trees) q ∙ r.absent) in
        no_confusion (cc)

    go : (a b : Bool) → ltb 0 r.so_far.rows ≡ a → leb (need r.wanted) r.so_far.entries ≡ b → (a && b) ≡ false
        → (max_sorts ≤ length r.so_far.trees) ⊎ (max_entries < e + needs (drop n r.so_far.trees) + need r.wanted)
    go false b x y q = inl (omega (arith, ltb-false 0 r.so_far.rows x, r.grown.rows))
    go true false x y q = inr (omega (arith, leb-false (need r.wanted) r.so_far.entries y, r.grown.used, r.grown.entries))
    go true true x y q = let z : true ≡ false = q in no_confusion (cc)

-- so room does not end far from a ceiling
pub room_ends_near_a_ceiling : (ws : List ℕ) (n e : ℕ) (r : RanOut ws n e)
    → (max_sorts ≤ length r.so_far.trees) ⊎ (max_entries < e + needs (drop n r.so_far.trees) + max_arguments)
room_ends_near_a_ceiling ws n e r = go (room_ended_at_a_new_sort ws n e r).1
  where
    go : (max_sorts ≤ length r.so_far.trees) ⊎ (max_entries < e + needs (drop n r.so_far.trees) + need r.wanted)
        → (max_sorts ≤ length r.so_far.trees) ⊎ (max_entries < e + needs (drop n r.so_far.trees) + max_arguments)
    go (inl x) = inl x
    go (inr x) = inr (omega (arith, x, r.few))
