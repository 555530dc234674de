-- What the row of a number says of its sort in a list that passes checks 3 and 4, however long the storage is. Assumes nothing.
use mathlib.Core.Path.{◌≡◌, refl, ◌∙◌}
use mathlib.Core.List.{List}
use Prim.Native.Nat.{ℕ, ◌+◌, ◌<◌, ◌≤◌}
use native.Mathlib.Omega.{arith}
use Rattle.resolved_sort.specs.Interning.{look}
use Rattle.resolved_sort.specs.Tree.{Tree}
use Rattle.resolved_sort.specs.Storage.{last_kind, function_kind, kind_at, part_at, start_at, count_at, resolved, row_at, tree_of, trees}
use Rattle.resolved_sort.specs.Checks.{row_fine_of, rows_fine}
use Rattle.resolved_sort.proofs.Below.{below_each}
use Rattle.resolved_sort.proofs.Fine.{run_inside}
use Rattle.resolved_sort.proofs.RowTrees.{Within, read, by_kind}
use Rattle.resolved_sort.specs.Growing.{ListFine}
use Rattle.resolved_sort.proofs.Interned.{row_below, look_tree}
use Rattle.resolved_sort.proofs.Pairs.{sort_of, Below}

module _ (ws : List ℕ) (T : List Tree) (e i p s c : ℕ) where
  said : (k : ℕ) → k ≤ last_kind → tree_of T (read ws e i p s c k) ≡ sort_of ws T (resolved k p (record { start = s; count = c }))
  unfolding tree_of sort_of resolved
  said k l =
      by_kind (λ k. tree_of T (read ws e i p s c k) ≡ sort_of ws T (resolved k p (record { start = s; count = c })))
      refl refl refl refl refl refl refl refl refl refl refl refl refl refl
      k l

  parts : (k : ℕ) → k ≤ last_kind → Within i (read ws e i p s c k) → (k ≡ function_kind → (c ≤ 16) × (s + c ≤ e))
      → Below ws e i (resolved k p (record { start = s; count = c }))
  unfolding Below resolved
  parts k l =
      by_kind (λ k. Within i (read ws e i p s c k) → (k ≡ function_kind → (c ≤ 16) × (s + c ≤ e))
      → Below ws e i (resolved k p (record { start = s; count = c })))
      (λ w f. tt)
      (λ w f. tt)
      (λ w f. tt)
      (λ w f. tt)
      (λ w f. tt)
      (λ w f. tt)
      (λ w f. w.part (omega arith) (omega arith))
      (λ w f. w.part (omega arith) (omega arith))
      (λ w f. w.part (omega arith) (omega arith))
      (λ w f. w.part (omega arith) (omega arith))
      (λ w f. w.part (omega arith) (omega arith))
      (λ w f. (w.part (omega arith) (omega arith), (f refl).0, (f refl).1, w.args))
      (λ w f. tt)
      (λ w f. tt)
      k l

module _ (ws : List ℕ) (n e : ℕ) (k : ListFine ws n e) (i : ℕ) (h : i < n) where
  pub row_says : look (trees ws n) i ≡ sort_of ws (trees ws n) (row_at ws i)
  row_says = look_tree ws n e k i h ∙ said ws (trees ws n) e i (part_at ws i) (start_at ws i) (count_at ws i) (kind_at ws i) (row_below ws n e k i h).known

  pub row_parts : Below ws e i (row_at ws i)
  unfolding rows_fine
  row_parts =
      parts ws (trees ws n) e i (part_at ws i) (start_at ws i) (count_at ws i) (kind_at ws i) (row_below ws n e k i h).known (row_below ws n e k i h)
      (λ f. let r = run_inside ws e i (below_each n (row_fine_of ws e) k.fine i h) f in (r.short, r.inside))
