-- What the rows of a storage denote, number by number: the trees of the first n rows are a prefix of those of the first
-- m, and the sort of a number is that of its row over the sorts below. By induction on n. Assumes nothing.
use mathlib.Core.Path.{◌≡◌, refl, ◌∙◌, ap}
use mathlib.Core.List.{List, []}
use Prim.Native.Nat.{ℕ, zero, suc, ◌<◌, ◌≤◌}
use native.Mathlib.Omega.{arith}
use native.Mathlib.Decide.{dec_le}
use lib.ListN.{length, length-append, get_or-append}
use lib.Seq.{get_or_at}
use Rattle.resolved_sort.specs.Tree.{flat, unit}
use Rattle.resolved_sort.specs.Interning.{look}
use Rattle.resolved_sort.specs.Storage.{words_at, tree_of, trees}

pub length_trees : (ws : List ℕ) (n : ℕ) → length (trees ws n) ≡ n
unfolding trees
length_trees ws zero = refl
length_trees ws (suc n) = length-append (trees ws n) _ ∙ omega (arith, length_trees ws n)

pub look_snoc : (ws : List ℕ) (n i : ℕ) → i < n → look (trees ws (suc n)) i ≡ look (trees ws n) i
unfolding look trees
look_snoc ws n i h = get_or-append (trees ws n) _ (flat unit) i (omega (arith, length_trees ws n))

pub look_last : (ws : List ℕ) (n : ℕ) → look (trees ws (suc n)) n ≡ tree_of (trees ws n) (words_at ws n)
unfolding look trees
look_last ws n = get_or_at (trees ws n) _ [] (flat unit) n (length_trees ws n)

longer_by_one : (ws : List ℕ) (n m i : ℕ) → i < n → n ≤ suc m → (n ≤ m → look (trees ws m) i ≡ look (trees ws n) i)
    → Dec (n ≤ m) → look (trees ws (suc m)) i ≡ look (trees ws n) i
longer_by_one ws n m i h l ih (yes d) = look_snoc ws m i (omega arith) ∙ ih d
longer_by_one ws n m i h l ih (no d) = ap (λ k. look (trees ws k) i) (omega arith)

-- a sort keeps its number in a longer list
pub look_longer : (ws : List ℕ) (n m i : ℕ) → i < n → n ≤ m → look (trees ws m) i ≡ look (trees ws n) i
look_longer ws n zero i h l = absurd (omega arith)
look_longer ws n (suc m) i h l = longer_by_one ws n m i h l (look_longer ws n m i h) (dec_le n m)

-- the sort of a number is that of its row over the sorts below it
pub look_row : (ws : List ℕ) (n i : ℕ) → i < n → look (trees ws n) i ≡ tree_of (trees ws i) (words_at ws i)
look_row ws n i h = look_longer ws (suc i) n i (omega arith) (omega arith) ∙ look_last ws i
