-- A resolver and the sorts of an interner: what they resolve a place to.
use Rattle.std.specs.Prelude.{ℕ}
use Rattle.resolved_sort.specs.Entries.{Stored}
use Rattle.sort_interner.specs.declared.SortInterner.{SortInterner}
use Rattle.unification.specs.declared.Lengths.{Lengths}
use Rattle.unification.specs.Term.{Term}
use Rattle.unification.specs.Checked.{Ready, Placed}
use Rattle.unification.specs.Inner.Resolve.{value_in}
use Rattle.unification.specs.Resolve.{DefaultBelow, term_resolved, with_counts}
use Rattle.resolver.specs.declared.Resolver.{Resolver}

-- how much is in use
abbrev pub lengths_in : Resolver → SortInterner → Lengths
lengths_in R I = with_counts R.lengths I.counts

-- lists and bindings that passed their checks, and a default that is a sort of the list
abbrev pub CanResolve : Resolver → SortInterner → Type 0
CanResolve R I = Ready I.words.now R.nodes.now R.binds.now (lengths_in R I) × DefaultBelow I.counts.sorts R.default

abbrev pub PlacedAt : Resolver → SortInterner → ℕ → Type 0
PlacedAt R I p = Placed (lengths_in R I) p

-- the term of a place, and the sort of a term with what is then stored
abbrev pub value_at : Resolver → SortInterner → ℕ → Term
value_at R I = value_in I.words.now R.nodes.now R.binds.now (lengths_in R I)

abbrev pub resolved : Resolver → SortInterner → Term → Stored
resolved R I = term_resolved I.words.now (lengths_in R I) R.default
