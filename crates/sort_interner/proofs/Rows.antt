-- What a row's words say as far as they are looked at, and two rows compared, at each way through the code. Assumes nothing.
use mathlib.Core.Path.{◌≡◌, sym, ap, ap₂, ◌∙◌}
use mathlib.Core.Bool.{Bool, false, cond, and-false}
use mathlib.Core.List.{List, []}
use Prim.Native.Nat.{ℕ, ◌+◌, ◌*◌}
use lib.ListN.{get_or}
use borrow.Author.Tests.{eq-eqb, ne_eqb}
use Rattle.resolved_sort.specs.Storage.{start_at, count_at, entries_of, Row, words_at}
use Rattle.resolved_sort.specs.Rows.{same_words, same_row}
use Rattle.resolved_sort.specs.declared.Run.{Run}
use Rattle.sort_interner.specs.Inner.Tests.{run_words, RunAt}

abbrev run : ℕ → ℕ → Run
run s n = record { start = s; count = n }

module _ (ws : List ℕ) (i k : ℕ) (e : k ≡ (words_at ws i).kind) where
  run_is_entries : k ≡ 11 → (s n : ℕ) → s ≡ get_or ws (4 * i + 2) 0 → n ≡ get_or ws (4 * i + 3) 0 → entries_of ws s n ≡ (words_at ws i).args
  run_is_entries h s n es en = ap₂ (entries_of ws) es en ∙ ap (λ t. cond t (entries_of ws (start_at ws i) (count_at ws i)) []) (sym (rw e at (eq-eqb k 11 h)))

  run_is_empty : (k ≡ 11 → ⊥) → entries_of ws 0 0 ≡ (words_at ws i).args
  unfolding entries_of
  run_is_empty h = ap (λ t. cond t (entries_of ws (start_at ws i) (count_at ws i)) []) (sym (rw e at (ne_eqb k 11 h)))

module _ (ws : List ℕ) (i k : ℕ) (e : k ≡ (words_at ws i).kind) where
  pub function_run : k ≡ 11 → (s n : ℕ) → s ≡ get_or ws (4 * i + 2) 0 → n ≡ get_or ws (4 * i + 3) 0 → RunAt ws i (record { start = s; count = n })
  unfolding run_words
  function_run h s n es en =
      record {
        is = ap₂ (λ (a : ℕ) (b : ℕ). run a b) es en ∙ ap (λ t. cond t (run (start_at ws i) (count_at ws i)) (run 0 0)) (sym (rw e at (eq-eqb k 11 h)));
        entries = run_is_entries ws i k e h s n es en;
      }

  pub empty_run : (k ≡ 11 → ⊥) → RunAt ws i (record { start = 0; count = 0 })
  unfolding run_words
  empty_run h =
      record {
        is = ap (λ t. cond t (run (start_at ws i) (count_at ws i)) (run 0 0)) (sym (rw e at (ne_eqb k 11 h)));
        entries = run_is_empty ws i k e h;
      }

module _ (r s : Row) (k l : ℕ) (ek : k ≡ r.kind) (el : l ≡ s.kind) where
  pub rows_differ_by_kind : (k ≡ l → ⊥) → false ≡ same_row r s
  unfolding same_row
  rows_differ_by_kind f = rw (ne_eqb r.kind s.kind (λ e. f (ek ∙ e ∙ sym el)))

  module _ (p q : ℕ) (ep : p ≡ r.part) (eq : q ≡ s.part) where
    pub rows_differ_by_part : (p ≡ q → ⊥) → false ≡ same_row r s
    unfolding same_row
    rows_differ_by_part f = simp (ne_eqb r.part s.part (λ e. f (ep ∙ e ∙ sym eq)), and-false)

    pub rows_same_by_args : k ≡ l → p ≡ q → (xs ys : List ℕ) → xs ≡ r.args → ys ≡ s.args → (b : Bool) → b ≡ same_words xs ys → b ≡ same_row r s
    unfolding same_row
    rows_same_by_args f g xs ys ex ey b eb =
        rw (eq-eqb r.kind s.kind (sym ek ∙ f ∙ el), eq-eqb r.part s.part (sym ep ∙ g ∙ eq)) (eb ∙ ap₂ same_words ex ey)
