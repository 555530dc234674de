-- A storage that has grown reads as before below its entry lengths: rows, entries, and so the sorts of old numbers.
-- By induction on the new sorts. Assumes nothing.
use mathlib.Core.Path.{◌≡◌, refl, sym, ◌∙◌, ap, subst}
use mathlib.Core.List.{List, [], ◌∷◌, ◌++◌}
use Prim.Native.Nat.{ℕ, ◌+◌, ◌-◌, ◌<◌, ◌≤◌}
use native.Mathlib.Omega.{arith}
use lib.ListN.{length, drop, length-append, length-drop}
use Rattle.resolved_sort.specs.Tree.{Tree}
use Rattle.resolved_sort.specs.Interning.{Sorts, look, need}
use Rattle.resolved_sort.specs.Storage.{max_sorts, max_entries, full_length, entries_of, look_all, trees, row_of, append, written}
use Rattle.resolved_sort.specs.Entries.{after}
use Rattle.resolved_sort.specs.Rows.{Checked}
use Rattle.resolved_sort.proofs.Numbers.{look_grows}
use Rattle.resolved_sort.proofs.Trees.{length_trees}
use Rattle.resolved_sort.proofs.RowTrees.{AllBelow, look_all_agrees}
use Rattle.resolved_sort.specs.Growing.{Agrees, Grown, needs}
use Rattle.resolved_sort.proofs.Append.{append_agrees, length_append_row, length_new, length_args, entries_agree}

pub agrees_refl : (ws : List ℕ) (n e : ℕ) → Agrees ws ws n e
agrees_refl ws n e = record { words = λ i h. refl; kinds = λ i h. refl; parts = λ i h. refl; starts = λ i h. refl; counts = λ i h. refl; entries = λ j h. refl }

pub agrees_trans : (ws us vs : List ℕ) (n m e d : ℕ) → n ≤ m → e ≤ d → Agrees ws us n e → Agrees us vs m d → Agrees ws vs n e
agrees_trans ws us vs n m e d h l a b =
    record {
      words = λ i q. b.words i (omega arith) ∙ a.words i q;
      kinds = λ i q. b.kinds i (omega arith) ∙ a.kinds i q;
      parts = λ i q. b.parts i (omega arith) ∙ a.parts i q;
      starts = λ i q. b.starts i (omega arith) ∙ a.starts i q;
      counts = λ i q. b.counts i (omega arith) ∙ a.counts i q;
      entries = λ j q. b.entries j (omega arith) ∙ a.entries j q;
    }

length_written : (ws : List ℕ) (T : List Tree) (e : ℕ) (xs : List Tree) → length (written ws T e xs) ≡ length ws
unfolding written
length_written ws T e [] = refl
length_written ws T e (x ∷ xs) = length_written (append ws T e x) (T ++ (x ∷ [])) (e + need x) xs ∙ length_append_row ws (length T) e (row_of T x)

written_agrees : (ws : List ℕ) (T : List Tree) (e : ℕ) (xs : List Tree) → full_length ≤ length ws → length T + length xs ≤ max_sorts → e + needs xs ≤ max_entries
    → Agrees ws (written ws T e xs) (length T) e
unfolding written needs
written_agrees ws T e [] l r s = agrees_refl ws (length T) e
written_agrees ws T e (x ∷ xs) l r s =
    let space : e + length (row_of T x).args ≤ max_entries = omega (arith, length_args T x) in
    let room : length T < max_sorts = omega arith in
    let more : length (T ++ (x ∷ [])) ≡ length T + 1 = length-append T (x ∷ []) in
    agrees_trans ws (append ws T e x) _ (length T) (length (T ++ (x ∷ []))) e (e + need x) (omega arith) (omega arith)
    (append_agrees ws (length T) e (row_of T x) l room space)
    (written_agrees (append ws T e x) (T ++ (x ∷ [])) (e + need x) xs (omega (
      arith,
      length_new ws (length T) e
          (row_of T x) l room space,
    )) (omega arith) (omega arith))

module _ (ws : List ℕ) (n e : ℕ) (k : Checked ws n e) (S : Sorts) (g : Grown ws n e S) where
  pub longer : n ≤ length S.trees
  longer = subst (λ l. n ≤ l) (sym (ap length g.prefix ∙ length-append (trees ws n) (drop n S.trees))) (omega (arith, length_trees ws n))

  pub entries_longer : e ≤ max_entries - S.entries
  entries_longer = omega (arith, g.used)

  pub unchanged : Agrees ws (after ws n e S) n e
  unchanged =
      subst (λ l. Agrees ws (after ws n e S) l e) (length_trees ws n)
      (written_agrees ws (trees ws n) e (drop n S.trees) k.long
      (omega (arith, length_trees ws n, length-drop n S.trees, g.checked.sorts, longer)) (omega (arith, g.used, g.checked.entries)))

  pub length_after : length (after ws n e S) ≡ length ws
  length_after = length_written ws (trees ws n) e (drop n S.trees)

  -- old numbers keep their sorts
  pub look_unchanged : (i : ℕ) → i < n → look (trees (after ws n e S) (length S.trees)) i ≡ look (trees ws n) i
  look_unchanged i h =
      ap (λ T. look T i) (g.reads ∙ g.prefix) ∙ look_grows (trees ws n) (drop n S.trees) i (omega (arith, length_trees ws n))

  -- and runs of old entries
  pub run_unchanged : (s c : ℕ) → s + c ≤ e → AllBelow n (entries_of ws s c)
      → look_all (trees (after ws n e S) (length S.trees)) (entries_of (after ws n e S) s c) ≡ look_all (trees ws n) (entries_of ws s c)
  run_unchanged s c h b =
      ap (look_all (trees (after ws n e S) (length S.trees))) (entries_agree (after ws n e S) ws s c (λ j l. unchanged.entries (s + j) (omega arith)))
      ∙ look_all_agrees (trees (after ws n e S) (length S.trees)) (trees ws n) n look_unchanged (entries_of ws s c) b
