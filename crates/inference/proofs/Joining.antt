-- A Join goes on soundly. Where the sources agree, the target is made equal to the sort that they agree on, so that each source is materializable into
-- the target's sort, with its head distance; where that finds nothing, or they do not agree, one source after another is widened. Assumes nothing.
use mathlib.Core.Path.{◌≡◌, ◌∙◌}
use mathlib.Core.List.{List, [], ◌∷◌, ◌++◌}
use mathlib.Core.Option.{some}
use Prim.Native.Nat.{ℕ}
use Rattle.resolved_sort.specs.Tree.{Tree}
use Rattle.std.specs.Prelude.{None as Nothing}
use Rattle.unification.specs.Nodes.{Binds}
use Rattle.unification.specs.Related.{each}
use Rattle.unification.specs.Solutions.{Respects}
use Rattle.unification.specs.Making.{Lent, graph}
use Rattle.unification.specs.Growing.{CheckedLent, PlacedIn, Grows}
use Rattle.unification.proofs.Grows.{placed_grown, respects_grown}
use Rattle.unification.proofs.BindsGrow.{binds_name_places}
use Rattle.unification.proofs.PlaceTerms.{sort_placed, sort_term}
use Rattle.inference.specs.Constraints.{Problem}
use Rattle.inference.specs.Measure.{Components}
use Rattle.inference.specs.Search.{Path, Choice, Going, with_components, join_of, sort_in, sequence, joining}
use Rattle.inference.specs.Typing.{Assignment, Has, All, and_all}
use Rattle.inference.specs.Components.{joins, Heads, no_heads, and_head}
use Rattle.inference.proofs.Invariant.{Claim, terms, Goes, still_placed, same_sort, or_else_leaves, unifying_leaves}
use Rattle.inference.proofs.MakingSorts.{StandAll, all_stand, and_stands, HeadsAre, no_heads as no-heads-are}
use Rattle.inference.proofs.MakingSorts.{and_head_is, JoinsTo, Agree, join_of_makes, on_made_leaves}

module _ (W₀ : Lent) (B₀ : Binds) (P : Problem) (c₀ : CheckedLent W₀) (Met : Type 0) (meet : Path → Lent → Met → Met) where
  -- sources that agree, under an assignment that respects the bindings
  heads_stand : (W : Lent) → Grows W₀ W → (B : Binds) (W' : Lent) (ρ : Assignment) → Respects (graph W) B (terms ρ)
      → (u : Tree) (ps ss : List ℕ) (ns : Components)
      → All (PlacedIn W₀) ps → StandAll W B Nothing W' ps ss → HeadsAre u (each (sort_in W') ss) ns → Heads (graph W₀) ρ u ps (each (sort_in W') ss) ns
  heads_stand W g B W' ρ r u _ _ _ i all_stand no-heads-are = no_heads
  heads_stand W g B W' ρ r u _ _ _ (and_all _ _ i is) (and_stands p s ps ss l f t) (and_head_is _ d _ ns m q h) =
      and_head p (sort_in W' s) d ps (each (sort_in W') ss) ns ((same_sort W₀ c₀ W g ρ p (sort_in W' s) i).0
      (f (terms ρ) r tt)) m q (heads_stand W g B W' ρ r u ps ss ns is t h)

  module _ (ss : List ℕ) (t : ℕ) (placed : All (PlacedIn W₀) ss) (at : PlacedIn W₀ t) (Q R : Claim)
      (claim : (ch : List Choice) (ρ : Assignment) (ms : Components) (s u : Tree) (us : List Tree) (ns : Components) → Q ch ρ ms → Has (graph W₀) ρ t u
      → Heads (graph W₀) ρ u ss (s ∷ us) ns → joins s us ≡ some u → R ch ρ (ms ++ ns)) where
    -- the first sort and the others
    claimed : (ch : List Choice) (ρ : Assignment) (ms : Components) (u : Tree) (ts : List Tree) (ns : Components) → Q ch ρ ms → Has (graph W₀) ρ t u
        → Heads (graph W₀) ρ u ss ts ns → JoinsTo ts u → R ch ρ (ms ++ ns)
    claimed ch ρ ms u [] ns q h x j = absurd j
    claimed ch ρ ms u (s ∷ us) ns q h x j = claim ch ρ ms s u us ns q h x j

    pub joining_goes : (k : Going Met meet P) → Goes W₀ B₀ P Met R k → Goes W₀ B₀ P Met Q (sequence Met meet P ss t k)
        → Goes W₀ B₀ P Met Q (joining Met meet P ss t k)
    unfolding joining
    joining_goes k goes seq e w s b =
        on_made_leaves W₀ B₀ P c₀ Met (Agree w.lent e.binds ss) (Unit {0}) e w Q s b (join_of e.binds ss w.lent)
        (join_of_makes w.lent s.grown.checked e.binds s.binds ss (still_placed W₀ c₀ w.lent s.grown ss placed)) _ _
        (λ a v g s' b' q.
        or_else_leaves W₀ B₀ P Met e v Q s' c₀ _ _
        (unifying_leaves W₀ B₀ P Met e v Q s' b' t a.sort (placed_grown W₀ c₀ v.lent s'.grown t at)
        (sort_placed v.lent s'.grown.checked a.sort q.agreed.number)
        (e.measure ++ a.components) e.choices R
        (λ ρ r eq cl.
        let r' = (respects_grown w.lent s.grown.checked v.lent g e.binds (binds_name_places w.lent e.binds s.binds) (terms ρ)).1 r in
        claimed e.choices ρ e.measure (sort_in v.lent a.sort) (each (sort_in q.lists) q.sorts) a.components cl
        ((same_sort W₀ c₀ v.lent s'.grown ρ t (sort_in v.lent a.sort) at).0 (eq ∙ sort_term v.lent
        s'.grown.checked (terms ρ) a.sort q.agreed.number))
        (heads_stand w.lent s.grown e.binds q.lists ρ r' (sort_in v.lent a.sort) ss q.sorts
        a.components placed q.stand q.agreed.heads) q.agreed.joined)
        _ (λ C s''. goes (with_components e a.components C) v s'' b'))
        (λ v' g' s'' b''. seq e v' s'' b''))
        (λ v s' b'. seq e v s' b')
