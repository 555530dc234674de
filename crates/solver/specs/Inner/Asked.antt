-- What single functions of the search ask for.
use Rattle.std.specs.Prelude.{List, [], ◌∷◌, ℕ, ◌+◌, ◌-◌, ◌<◌, ◌≤◌, get_or, drop}
use Rattle.resolved_sort.specs.declared.ComplexSort.{ComplexSort}
use Rattle.unification.specs.Making.{Lent}
use Rattle.unification.specs.Growing.{PlacedIn}
use Rattle.inference.specs.declared.Constraint.{Constraint}
use Rattle.inference.specs.declared.Constraint.TheVariants.{Sub, Lit, Disjunction, Comprehension, Join}
use Rattle.inference.specs.Constraints.{overload_at, rows_from}
use Rattle.inference.specs.Search.{Reading}
use Rattle.search_state.specs.declared.Sizes.{Sizes}
use Rattle.search_state.specs.declared.Tries.{Tries}
use Rattle.search_state.specs.Inner.Memory.{overloads_at}
use Rattle.search_state.specs.Inner.Leaves.{tries_from}
use Rattle.search_state.specs.Inner.Placed.{TriesPlaced}

-- at most four tries, and those from the j-th on are of places of the lists
pub record TriesFine (W : Lent) (t : Tries) (j : ℕ) : Type 0 where
  pub few : t.count ≤ 4
  pub first : t.first ≤ 1
  pub placed : TriesPlaced W (tries_from t j)

-- overloads of the list, at places, for a place
pub record OverloadsFine (W : Lent) (ls : List ℕ) (z : Sizes) (p start count : ℕ) : Type 0 where
  pub inside : start + count ≤ z.overloads
  pub place : PlacedIn W p
  pub placed : (i : ℕ) → i < count → PlacedIn W (overload_at (drop overloads_at ls) (start + i)).sort.0

-- the expressions that a constraint chooses for
abbrev pub exprs_of_constraint : Constraint → List ℕ
exprs_of_constraint (Sub l r) = []
exprs_of_constraint (Lit p kind) = []
exprs_of_constraint (Disjunction x p run) = x.0 ∷ []
exprs_of_constraint (Comprehension body node element) = []
exprs_of_constraint (Join run t) = []

-- the readings of a comprehension by number: Bool and Set, Nat and Bag, Pos and Bag
abbrev pub reading_body : ℕ → ℕ
reading_body i = get_or (1 ∷ 3 ∷ []) i 2

abbrev pub reading_op : ℕ → ComplexSort
reading_op i = get_or (ComplexSort.Set ∷ []) i ComplexSort.Bag

abbrev pub reading_at : ℕ → Reading
reading_at i = record { body = reading_body i; op = reading_op i }

abbrev pub readings_from : ℕ → List Reading
readings_from i = rows_from reading_at i (3 - i)
