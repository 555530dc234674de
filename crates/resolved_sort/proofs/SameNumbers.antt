-- In a checked list sorts are equal exactly if their numbers are, and arguments exactly if their entries are: no two sorts
-- of the list are equal. Assumes nothing.
use mathlib.Core.Path.{◌≡◌, refl, ap, ap₂}
use mathlib.Core.Bool.{◌&&◌}
use mathlib.Core.List.{List, [], ◌∷◌}
use Prim.Native.Nat.{ℕ, ◌<◌, ◌≤◌}
use native.Mathlib.Omega.{arith}
use lib.Dec.{eqb}
use borrow.Author.Tests.{eqb-true, eq-eqb}
use Rattle.resolved_sort.specs.Tree.{same, sames}
use Rattle.resolved_sort.specs.Interning.{look}
use Rattle.resolved_sort.specs.Storage.{look_all, trees}
use Rattle.resolved_sort.specs.Checks.{no_two_equal}
use Rattle.resolved_sort.specs.Rows.{Checked, same_words}
use Rattle.resolved_sort.proofs.Same.{same_exactly}
use Rattle.resolved_sort.proofs.Numbers.{look_injective}
use Rattle.resolved_sort.proofs.Trees.{length_trees}
use Rattle.resolved_sort.proofs.RowTrees.{AllBelow}
use Rattle.resolved_sort.proofs.Interned.{tests_agree}

module _ {ws : List ℕ} {n e : ℕ} (k : Checked ws n e) where
  pub number_of_tree : {a b : ℕ} → a < n → b < n → look (trees ws n) a ≡ look (trees ws n) b → a ≡ b
  unfolding no_two_equal
  number_of_tree {a} {b} ha hb q = look_injective (trees ws n) a b k.differ (omega (arith, length_trees ws n)) (omega (arith, length_trees ws n)) q

  pub same_by_number : {a b : ℕ} → a < n → b < n → same (look (trees ws n) a) (look (trees ws n) b) ≡ eqb a b
  same_by_number {a} {b} ha hb =
      tests_agree _ _
      (λ t. eq-eqb a b (number_of_tree ha hb ((same_exactly _ _).0 t)))
      (λ t. (same_exactly _ _).1 (ap (look (trees ws n)) (eqb-true a b t)))

  pub sames_by_entries : {l m : ℕ} → l ≤ n → m ≤ n → (xs ys : List ℕ) → AllBelow l xs → AllBelow m ys
      → sames (look_all (trees ws n) xs) (look_all (trees ws n) ys) ≡ same_words xs ys
  unfolding same same_words look_all AllBelow
  sames_by_entries hl hm [] [] f g = refl
  sames_by_entries hl hm [] (y ∷ ys) f g = refl
  sames_by_entries hl hm (x ∷ xs) [] f g = refl
  sames_by_entries {l} {m} hl hm (x ∷ xs) (y ∷ ys) f g =
      let hx : x < n = omega (arith, f.0) in
      let hy : y < n = omega (arith, g.0) in
      ap₂ ◌&&◌ (same_by_number hx hy) (sames_by_entries hl hm xs ys f.1 g.1)
