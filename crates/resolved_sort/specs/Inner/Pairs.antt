-- Two rows side by side, as the code takes them apart.
use Rattle.std.specs.Prelude.{cond, List, ℕ, eqb}
use Rattle.resolved_sort.specs.declared.SortId.{SortId}
use Rattle.resolved_sort.specs.declared.Sort.{Sort}
use Rattle.resolved_sort.specs.declared.ComplexSort.{ComplexSort}
use Rattle.resolved_sort.specs.declared.Run.{Run}
use Rattle.resolved_sort.specs.declared.ResolvedSort.{ResolvedSort}
use Rattle.resolved_sort.specs.declared.ResolvedSort.TheVariants.{Unit, Primitive, Container, Function, Def}
use Rattle.resolved_sort.specs.declared.ResolvedSort.TheVariants.{TypeVar}
use Rattle.resolved_sort.specs.Storage.{row_at}

-- Two rows of one form side by side. Functions have as many arguments on both sides: how many, where each domain starts,
-- and what each range is.
pub data Pair : Type 0 where
  Primitives : Sort → Sort → Pair
  Containers : ComplexSort → SortId → ComplexSort → SortId → Pair
  Functions : ℕ → ℕ → SortId → ℕ → SortId → Pair
  Other : Pair

unfoldable pub with_primitive : Sort → ResolvedSort → Pair
with_primitive l Unit = Other
with_primitive l (Primitive r) = Primitives l r
with_primitive l (Container op subsort) = Other
with_primitive l (Function domain range) = Other
with_primitive l (Def n) = Other
with_primitive l (TypeVar n) = Other

unfoldable pub with_container : ComplexSort → SortId → ResolvedSort → Pair
with_container o s Unit = Other
with_container o s (Primitive r) = Other
with_container o s (Container op subsort) = Containers o s op subsort
with_container o s (Function domain range) = Other
with_container o s (Def n) = Other
with_container o s (TypeVar n) = Other

unfoldable pub with_function : Run → SortId → ResolvedSort → Pair
with_function d r Unit = Other
with_function d r (Primitive s) = Other
with_function d r (Container op subsort) = Other
with_function d r (Function domain range) =
    cond (eqb d.count domain.count) (Functions d.count d.start r domain.start range) Other
with_function d r (Def n) = Other
with_function d r (TypeVar n) = Other

unfoldable pub pair_of : ResolvedSort → ResolvedSort → Pair
pair_of Unit r = Other
pair_of (Primitive l) r = with_primitive l r
pair_of (Container op subsort) r = with_container op subsort r
pair_of (Function domain range) r = with_function domain range r
pair_of (Def n) r = Other
pair_of (TypeVar n) r = Other

abbrev pub pair_at : List ℕ → ℕ → ℕ → Pair
pair_at ws a b = pair_of (row_at ws a) (row_at ws b)
