-- What two rows that were read say of the sorts of two numbers that a test has told apart. Assumes nothing.
use mathlib.Core.Path.{◌≡◌}
use mathlib.Core.Bool.{Bool, false}
use mathlib.Core.List.{List}
use Prim.Native.Nat.{ℕ, ◌<◌}
use lib.Dec.{eqb}
use Rattle.resolved_sort.specs.declared.SortId.{SortId}
use Rattle.resolved_sort.specs.declared.Sort.{Sort}
use Rattle.resolved_sort.specs.declared.ComplexSort.{ComplexSort}
use Rattle.resolved_sort.specs.declared.Run.{Run}
use Rattle.resolved_sort.specs.declared.ResolvedSort.{ResolvedSort}
use Rattle.resolved_sort.specs.declared.ResolvedSort.TheVariants.{Primitive, Container, Function}
use Rattle.resolved_sort.specs.Interning.{look}
use Rattle.resolved_sort.specs.Storage.{row_at, trees}
use Rattle.resolved_sort.specs.Rows.{Checked}
use Rattle.resolved_sort.proofs.Pairs.{Unlike, OfPrimitives, OfContainers, OfFunctions}
use Rattle.resolved_sort.proofs.RowsSay as say

module _ {ws : List ℕ} {n e a b : ℕ} (k : Checked ws n e) (here : (a < n) × (b < n)) {same : Bool} (asked : same ≡ eqb a b) (no : same ≡ false)
    {l r : ResolvedSort} (el : l ≡ row_at ws a) (er : r ≡ row_at ws b) where
  differ : a ≡ b → ⊥
  differ = say.numbers_differ a b asked no

  pub primitives : {s t : Sort} → l ≡ Primitive s → r ≡ Primitive t → OfPrimitives ws n e a b s t
  primitives = say.primitives k here.0 here.1 differ el er

  pub containers : {o p : ComplexSort} {s t : SortId} → l ≡ Container o s → r ≡ Container p t → OfContainers ws n e a b o s p t
  containers = say.containers k here.0 here.1 differ el er

  module _ {c d : Run} {u v : SortId} (f : l ≡ Function c u) (g : r ≡ Function d v) where
    pub functions : c.count ≡ d.count → OfFunctions ws n e a b c.count c.start u d.start v
    functions = say.functions k here.0 here.1 differ el er f g

    pub unlike_functions : (c.count ≡ d.count → ⊥) → Unlike (look (trees ws n) a) (look (trees ws n) b)
    unlike_functions = say.unlike_functions k here.0 here.1 differ el er f g

  pub unlike_primitive : {s : Sort} → l ≡ Primitive s → ((t : Sort) → r ≡ Primitive t → ⊥) → Unlike (look (trees ws n) a) (look (trees ws n) b)
  unlike_primitive = say.unlike_primitive k here.0 here.1 differ el er

  pub unlike_container : {o : ComplexSort} {s : SortId} → l ≡ Container o s → ((p : ComplexSort) (t : SortId) → r ≡ Container p t → ⊥)
      → Unlike (look (trees ws n) a) (look (trees ws n) b)
  unlike_container = say.unlike_container k here.0 here.1 differ el er

  pub unlike_function : {c : Run} {u : SortId} → l ≡ Function c u → ((d : Run) (v : SortId) → r ≡ Function d v → ⊥)
      → Unlike (look (trees ws n) a) (look (trees ws n) b)
  unlike_function = say.unlike_function k here.0 here.1 differ el er

  pub unlike_rest : ((s : Sort) → l ≡ Primitive s → ⊥) → ((o : ComplexSort) (s : SortId) → l ≡ Container o s → ⊥)
      → ((c : Run) (u : SortId) → l ≡ Function c u → ⊥) → Unlike (look (trees ws n) a) (look (trees ws n) b)
  unlike_rest = say.unlike_rest k here.0 here.1 differ el er
