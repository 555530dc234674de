-- Answers of an order taken together, and numbers that may be missing.
use Rattle.std.specs.Prelude.{Bool, true, false, ◌&&◌, cond, ℕ, eqb, Option, Some, None}
use Rattle.std.specs.declared.cmp.Ordering.{Ordering}
use Rattle.std.specs.declared.cmp.Ordering.TheVariants.{Less, Equal, Greater}
use Rattle.resolved_sort.specs.declared.Sort.{Sort}
use Rattle.resolved_sort.specs.Tree.{primitive, family, level}
use Rattle.resolved_sort.specs.Order.{ordering_of}

abbrev pub at_most : Option Ordering → Bool
at_most None = false
at_most (Some Equal) = true
at_most (Some Less) = true
at_most (Some Greater) = false

abbrev pub at_least : Option Ordering → Bool
at_least None = false
at_least (Some Equal) = true
at_least (Some Less) = false
at_least (Some Greater) = true

-- equal or below in both, equal or above in both
unfoldable pub combined : Option Ordering → Option Ordering → Option Ordering
combined l r = ordering_of (at_most l && at_most r) (at_least l && at_least r)

-- the level of a number sort, none for Bool
abbrev pub generality : Sort → Option ℕ
generality s = cond (eqb (family (primitive s)) 2) (Some (level (primitive s))) None
