-- The laws of strict_related_sorts over checked bindings, whatever words hold them. By the laws over ranked bindings and over bindings that name
-- places. Assumes nothing.
use mathlib.Core.Path.{◌≡◌, subst}
use mathlib.Core.Bool.{Bool, true}
use Prim.Native.Nat.{ℕ}
use Rattle.resolved_sort.specs.Checks.{fixed_six}
use Rattle.unification.specs.Nodes.{Binds}
use Rattle.unification.specs.Unify.{deep}
use Rattle.unification.specs.FinalRange.{FreeEnd}
use Rattle.unification.specs.Making.{Lent, graph, no_list, strict_related}
use Rattle.unification.proofs.Rank.{Ranked}
use Rattle.unification.proofs.Theorem.{checked_ranked}
use Rattle.unification.specs.Growing.{CheckedLent, PlacedIn, CheckedBinds}
use Rattle.unification.proofs.BindsGrow.{binds_name_places}
use Rattle.unification.proofs.MakingGrows.{MadeFrom}
use Rattle.unification.proofs.NoList.{OnlyFree, only_free, has_none}
use Rattle.unification.proofs.RelatedPlaces.{StandForRelated, related_made}

module _ (W : Lent) (c : CheckedLent W) (B : Binds) (b : CheckedBinds W B) where
  pub checked_ranks : Ranked (graph W) deep B
  checked_ranks = checked_ranked W.sorts W.lengths.sorts W.lengths.entries W.nodes W.lengths.nodes
      W.lengths.arguments W.lengths.variables c B b

  module _ (up : Bool) (p : ℕ) where
    -- no list exactly where the final range is free, and then nothing is made
    pub no_list_is_free : (U : Lent) → strict_related up B p W ≡ no_list U → FreeEnd (graph W) B p × (U ≡ W)
    unfolding strict_related
    no_list_is_free U e = subst (OnlyFree W B checked_ranks up p) e (only_free W B checked_ranks up deep p (checked_ranks.short p))

    pub free_is_no_list : FreeEnd (graph W) B p → strict_related up B p W ≡ no_list W
    free_is_no_list h = has_none W B checked_ranks up p h

    -- the lists grow, and the places listed stand for the sorts wider or narrower
    pub related_makes : fixed_six W.sorts W.lengths.sorts ≡ true → PlacedIn W p → MadeFrom (StandForRelated up B W p) W (strict_related up B p W)
    unfolding strict_related
    related_makes six x = related_made W c six up B (binds_name_places W B b) deep p x
