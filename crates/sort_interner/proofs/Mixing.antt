-- Words mixed in one turn after another: mixing what is left comes to mixing the whole. And the slot of a row, whose kind,
-- part and arguments are mixed in turn. Assumes nothing.
use mathlib.Core.Path.{◌≡◌, refl, sym, ap, ◌∙◌}
use mathlib.Core.List.{List}
use Prim.Native.Nat.{ℕ, ◌+◌, ◌<◌, ◌≤◌}
use native.Mathlib.Omega.{arith}
use native.Mathlib.Numerals.{add-one}
use lib.ListN.{length, get_or, drop, drop_of_length-le}
use lib.Seq.{drop-cons}
use Rattle.resolved_sort.specs.declared.SortId.{SortId}
use Rattle.resolved_sort.specs.Storage.{entry_at, entries_of, Row, words_at}
use Rattle.resolved_sort.specs.Inner.Storage.{sort_numbers}
use Rattle.resolved_sort.specs.Index.{mixed, mixed_all, mix_of, slot_of_mix, slot_of}
use Rattle.resolved_sort.proofs.SortNumbers.{length_sort_numbers, get_d_sort_numbers}
use Rattle.sort_interner.proofs.Runs.{length_entries_of, get_d_entries_of}

-- the words of xs from k on mixed into m
unfoldable pub mixed_from : ℕ → ℕ → List ℕ → ℕ
mixed_from m k xs = mixed_all m (drop k xs)

pub mixed_from_start : (h : ℕ) (xs : List ℕ) → mixed_all h xs ≡ mixed_from h 0 xs
unfolding mixed_from
mixed_from_start h xs = refl

mixed_at_end : (m k : ℕ) (xs : List ℕ) → length xs ≤ k → mixed_from m k xs ≡ m
unfolding mixed_from mixed_all
mixed_at_end m k xs h = rw (drop_of_length-le xs h)

mixed_by_next : (m k : ℕ) (xs : List ℕ) → k < length xs → mixed_from m k xs ≡ mixed_from (mixed m (get_or xs k 0)) (k + 1) xs
unfolding mixed_from mixed_all
mixed_by_next m k xs h = rw (add-one, drop-cons xs k 0 h)

module _ (h : ℕ) (xs : List ℕ) (m k : ℕ) (inv : mixed_all h xs ≡ mixed_from m k xs) where
  all_mixed : length xs ≤ k → m ≡ mixed_all h xs
  all_mixed e = sym (inv ∙ mixed_at_end m k xs e)

  mixed_next : k < length xs → (x l : ℕ) → x ≡ get_or xs k 0 → l ≡ mixed m x → mixed_all h xs ≡ mixed_from l (k + 1) xs
  mixed_next e x l q f = inv ∙ mixed_by_next m k xs e ∙ ap (λ y. mixed_from (mixed m y) (k + 1) xs) (sym q) ∙ ap (λ y. mixed_from y (k + 1) xs) (sym f)

module _ (h : ℕ) (ids : List SortId) (m k : ℕ) (inv : mixed_all h (sort_numbers ids) ≡ mixed_from m k (sort_numbers ids)) where
  pub args_mixed : length ids ≤ k → m ≡ mixed_all h (sort_numbers ids)
  args_mixed e = all_mixed h (sort_numbers ids) m k inv (omega (arith, length_sort_numbers ids))

  pub args_mixed_next : k < length ids → (l : ℕ) → l ≡ mixed m (get_or ids k (record { 0 = 0 })).0
      → mixed_all h (sort_numbers ids) ≡ mixed_from l (k + 1) (sort_numbers ids)
  args_mixed_next e l f = mixed_next h (sort_numbers ids) m k inv (omega (arith, length_sort_numbers ids)) _ l (get_d_sort_numbers ids k) f

module _ (h : ℕ) (ws : List ℕ) (s n m k : ℕ) (inv : mixed_all h (entries_of ws s n) ≡ mixed_from m k (entries_of ws s n)) where
  pub run_mixed : n ≤ k → m ≡ mixed_all h (entries_of ws s n)
  run_mixed e = all_mixed h (entries_of ws s n) m k inv (omega (arith, length_entries_of ws s n))

  pub run_mixed_next : k < n → (x l : ℕ) → x ≡ entry_at ws (s + k) → l ≡ mixed m x
      → mixed_all h (entries_of ws s n) ≡ mixed_from l (k + 1) (entries_of ws s n)
  run_mixed_next e x l q f =
      mixed_next h (entries_of ws s n) m k inv (omega (arith, length_entries_of ws s n)) x l (q ∙ sym (get_d_entries_of ws s n k e)) f

-- the slot of a row given, and of a sort's row
pub slot_by_parts : (r : Row) (a b c p : ℕ) → a ≡ mixed 0 r.kind → b ≡ mixed a r.part → c ≡ mixed_all b r.args → p ≡ slot_of_mix c → p ≡ slot_of r
unfolding slot_of mix_of
slot_by_parts r a b c p ea eb ec ep = ep ∙ ap slot_of_mix (ec ∙ ap (λ x. mixed_all x r.args) (eb ∙ ap (λ x. mixed x r.part) ea))

pub slot_by_words : (ws : List ℕ) (i k q s n a b c p : ℕ) → k ≡ (words_at ws i).kind → q ≡ (words_at ws i).part
    → entries_of ws s n ≡ (words_at ws i).args
    → a ≡ mixed 0 k → b ≡ mixed a q → c ≡ mixed_all b (entries_of ws s n) → p ≡ slot_of_mix c → p ≡ slot_of (words_at ws i)
slot_by_words ws i k q s n a b c p ek eq es ea eb ec ep =
    slot_by_parts (words_at ws i) a b c p (ea ∙ ap (mixed 0) ek) (eb ∙ ap (mixed a) eq) (ec ∙ ap (mixed_all b) es) ep
