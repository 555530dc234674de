-- Lists of sorts that grow from a checked storage by appending: what is then stored reads as the list, is checked again,
-- and growing in two steps is growing in one. Assumes nothing.
use mathlib.Core.Path.{◌≡◌, sym, ◌∙◌, ap, ap₂, subst}
use mathlib.Core.List.{List, [], ◌∷◌, ◌++◌, append_assoc, append-nil}
use Prim.Native.Nat.{ℕ, suc, ◌+◌, ◌-◌}
use native.Mathlib.Omega.{arith}
use native.Mathlib.Nat.{add-zero}
use lib.ListN.{length, drop, length-append, drop_of_length-le}
use lib.Seq.{drop-append_seam}
use Rattle.resolved_sort.specs.Tree.{Tree}
use Rattle.resolved_sort.specs.Interning.{Sorts, need}
use Rattle.resolved_sort.specs.Storage.{max_sorts, max_entries, trees, row_of, append_row, append, sorts_of, written}
use Rattle.resolved_sort.specs.Entries.{after}
use Rattle.resolved_sort.specs.Rows.{Checked}
use Rattle.resolved_sort.proofs.Trees.{length_trees}
use Rattle.resolved_sort.specs.Growing.{Fresh, needs, Grown}
use Rattle.resolved_sort.proofs.Append.{trees_append, checked_append}

needs_append : (xs ys : List Tree) → needs (xs ++ ys) ≡ needs xs + needs ys
unfolding needs
needs_append [] ys = omega arith
needs_append (x ∷ xs) ys = omega (arith, needs_append xs ys)

written_append : (ws : List ℕ) (T : List Tree) (e : ℕ) (xs ys : List Tree) → written (written ws T e xs) (T ++ xs) (e + needs xs) ys ≡ written ws T e (xs ++ ys)
unfolding written needs
written_append ws T e [] ys = rw (append-nil T, add-zero e)
written_append ws T e (x ∷ xs) ys =
    ap₂ (λ (U : List Tree) (d : ℕ). written (written (append ws T e x) (T ++ (x ∷ [])) (e + need x) xs) U d ys) (sym (append_assoc T (x ∷ []) xs)) (omega arith)
    ∙ written_append (append ws T e x) (T ++ (x ∷ [])) (e + need x) xs ys

-- the list as it was given
module _ (ws : List ℕ) (n e : ℕ) (k : Checked ws n e) where
  nothing_new : drop n (trees ws n) ≡ []
  nothing_new = drop_of_length-le (trees ws n) {i = n} (omega (arith, length_trees ws n))

  pub after_none : after ws n e (sorts_of ws n e) ≡ ws
  unfolding written
  after_none = rw nothing_new

  pub grown_none : Grown ws n e (sorts_of ws n e)
  unfolding needs
  grown_none =
      record {
        prefix = rw nothing_new (sym (append-nil (trees ws n)));
        reads = rw (after_none, length_trees ws n);
        rows = rw (length_trees ws n);
        entries = omega arith;
        used = rw nothing_new (omega (arith, k.entries));
        checked = rw (after_none, length_trees ws n) (subst (Checked ws n) (omega (arith, k.entries)) k);
      }

-- one new sort
module _ (ws : List ℕ) (n e : ℕ) (t : Tree) where
  abbrev pub more : Sorts
  more = record { trees = trees ws n ++ (t ∷ []); rows = max_sorts - n - 1; entries = max_entries - e - need t }

  one_new : drop n (trees ws n ++ (t ∷ [])) ≡ t ∷ []
  one_new = ap (λ k. drop k (trees ws n ++ (t ∷ []))) (sym (length_trees ws n)) ∙ drop-append_seam (trees ws n) (t ∷ [])

  pub after_one : after ws n e more ≡ append_row ws n e (row_of (trees ws n) t)
  unfolding written
  after_one = rw (one_new, length_trees ws n)

  pub length_more : length (trees ws n ++ (t ∷ [])) ≡ suc n
  length_more = length-append (trees ws n) (t ∷ []) ∙ omega (arith, length_trees ws n)

  pub grown_one : Fresh ws n e t → Grown ws n e more
  unfolding needs
  grown_one f =
      record {
        prefix = rw one_new;
        reads = rw (after_one, length_more) (trees_append ws n e t f);
        rows = rw length_more (omega arith);
        entries = omega arith;
        used = rw one_new (omega (arith, f.space));
        checked = rw (after_one, length_more) (subst (Checked (append_row ws n e (row_of (trees ws n) t)) (suc n))
            (omega (arith, f.space)) (checked_append ws n e t f));
      }

-- in two steps
module _ (ws : List ℕ) (n e : ℕ) (S₁ S₂ : Sorts) (g : Grown ws n e S₁) where
  abbrev then_words : List ℕ
  then_words = after ws n e S₁

  abbrev then_sorts : ℕ
  then_sorts = length S₁.trees

  abbrev then_entries : ℕ
  then_entries = max_entries - S₁.entries

  module _ (h : Grown then_words then_sorts then_entries S₂) where
    split : S₂.trees ≡ trees ws n ++ (drop n S₁.trees ++ drop then_sorts S₂.trees)
    split = h.prefix ∙ (ap (λ T. T ++ drop then_sorts S₂.trees) (g.reads ∙ g.prefix) ∙ append_assoc (trees ws n)
        (drop n S₁.trees) (drop then_sorts S₂.trees))

    all_new : drop n S₂.trees ≡ drop n S₁.trees ++ drop then_sorts S₂.trees
    all_new =
        ap (drop n) split
        ∙ (ap (λ k. drop k (trees ws n ++ (drop n S₁.trees ++ drop then_sorts S₂.trees))) (sym (length_trees ws n))
        ∙ drop-append_seam (trees ws n) (drop n S₁.trees ++ drop then_sorts S₂.trees))

    pub after_both : after then_words then_sorts then_entries S₂ ≡ after ws n e S₂
    after_both =
        ap₂ (λ (U : List Tree) (d : ℕ). written then_words U d (drop then_sorts S₂.trees)) (g.reads ∙ g.prefix) g.used
        ∙ (written_append ws (trees ws n) e (drop n S₁.trees) (drop then_sorts S₂.trees) ∙ ap (written ws (trees ws n) e) (sym all_new))

    pub grown_both : Grown ws n e S₂
    grown_both =
        record {
          prefix = split ∙ ap (λ U. trees ws n ++ U) (sym all_new);
          reads = ap (λ us. trees us (length S₂.trees)) (sym after_both) ∙ h.reads;
          rows = h.rows;
          entries = h.entries;
          used = h.used ∙ omega (arith, g.used, ap needs all_new, needs_append (drop n S₁.trees) (drop then_sorts S₂.trees));
          checked = subst (λ us. Checked us (length S₂.trees) (max_entries - S₂.entries)) after_both h.checked;
        }

-- what is stored for a grown list reads as that list
pub sorts_again : (ws : List ℕ) (n e : ℕ) (S : Sorts) → Grown ws n e S → sorts_of (after ws n e S) (length S.trees) (max_entries - S.entries) ≡ S
sorts_again ws n e S g =
    let a : max_sorts - length S.trees ≡ S.rows = sym g.rows in
    let b : max_entries - (max_entries - S.entries) ≡ S.entries = omega (arith, g.entries) in
    λ i. record { trees = g.reads i; rows = a i; entries = b i }
