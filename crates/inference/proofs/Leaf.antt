-- A leaf goes on soundly. Where it replaces the incumbent, the sorts that it hands out are those of the expressions' places under the assignment that
-- gives each free variable the default; this assignment respects the bindings, so it meets all constraints that were passed. Assumes nothing.
use mathlib.Core.Path.{◌≡◌, ap}
use mathlib.Core.List.{List}
use mathlib.Core.Option.{Option, none, some}
use Prim.Native.Nat.{ℕ, ◌<◌}
use native.Mathlib.Omega.{arith}
use Rattle.std.specs.Prelude.{Some as Is}
use Rattle.unification.specs.Term.{term_of}
use Rattle.unification.specs.Nodes.{Binds, binding}
use Rattle.unification.specs.Solutions.{Respects}
use Rattle.unification.specs.Making.{Lent, graph}
use Rattle.unification.specs.Growing.{CheckedLent, PlacedIn, Grows}
use Rattle.unification.proofs.Assignments.{sorts_extend}
use Rattle.inference.specs.Constraints.{Problem}
use Rattle.inference.specs.Measure.{Ranking, smaller, equal, greater, compare}
use Rattle.inference.specs.Search.{Path, Candidate, World, sort_in, resolve_all, leaf, replace, leaf_by, leaf_over}
use Rattle.inference.specs.Typing.{Assignment, Typed, all_typed, and_typed, All, and_all}
use Rattle.inference.proofs.Invariant.{Claim, terms, Cost, Sound, Fine, FineBest, Leaves, Goes, sorts_only_refl, still_placed, same_sort, missed_leaves}
use Rattle.inference.proofs.MakingSorts.{StandAll, all_stand, and_stands, stand_below, resolve_all_makes, on_made_leaves}

module _ (W₀ : Lent) (B₀ : Binds) (P : Problem) (c₀ : CheckedLent W₀) (below : P.default < W₀.lengths.sorts)
    (placed : All (PlacedIn W₀) P.exprs) (Met : Type 0) (meet : Path → Lent → Met → Met)
  where
    -- every constraint is passed
    abbrev AllPassed : Claim
    AllPassed ch ρ ms = Cost W₀ B₀ P ch ρ P.constraints ms

    module _ (W : Lent) (g : Grows W₀ W) (B : Binds) (W' : Lent) (ρ : Assignment) (r : Respects (graph W) B (terms ρ))
        (free : (u : ℕ) → binding B u ≡ none → terms ρ u ≡ term_of (sort_in W P.default)) where
      typed_here : (ps ss : List ℕ) → All (PlacedIn W₀) ps → StandAll W B (Is (record { 0 = P.default })) W' ps ss → Typed (graph W₀) (sort_in W') ρ ps ss
      typed_here _ _ i all_stand = all_typed
      typed_here _ _ (and_all _ _ i is) (and_stands p s ps ss l f t) =
          and_typed p s ps ss ((same_sort W₀ c₀ W g ρ p (sort_in W' s) i).0 (f (terms ρ) r free)) (typed_here ps ss is t)

    replace_leaves : (e : Path) (w : World Met) → Sound W₀ B₀ P w.lent e AllPassed
        → FineBest W₀ B₀ P w.lent w.best → Leaves W₀ B₀ P Met w.lent (replace Met meet P e w)
    unfolding Leaves FineBest
    replace_leaves e w s b =
        let W = w.lent in
        let c = s.grown.checked in
        let x = Is (record { 0 = P.default }) in
        let l : P.default < W.lengths.sorts = omega (arith, below, s.grown.sorts) in
        let a = sorts_extend W c e.binds s.binds (λ u. sort_in W P.default) in
        on_made_leaves W₀ B₀ P c₀ Met (λ W' ss. StandAll W e.binds x W' P.exprs ss) ⊥ e w AllPassed s b (resolve_all x e.binds P.exprs W)
        (resolve_all_makes W c e.binds s.binds x l P.exprs (still_placed W₀ c₀ W s.grown P.exprs placed) W (sorts_only_refl W c)) _ _
        (λ ss v g s' b' t.
        record {
          only = sorts_only_refl v.lent s'.grown.checked;
          best =
              record {
                numbers = stand_below W e.binds x v.lent P.exprs ss t;
                assignment = a.0;
                respects = s.refines (terms a.0) a.1.0;
                typed = typed_here W s.grown e.binds v.lent a.0 a.1.0 (λ u f. ap term_of (a.1.1 u f)) P.exprs ss placed t;
                costs = s.costs a.0 a.1.0;
              };
        })
        (λ v s' b'. missed_leaves W₀ B₀ P Met v s'.grown.checked b')

    by_rank : (r : Ranking) (d : Candidate) (e : Path) (w : World Met) → Sound W₀ B₀ P w.lent e AllPassed
        → FineBest W₀ B₀ P w.lent w.best → Fine W₀ B₀ P w.lent d
        → Leaves W₀ B₀ P Met w.lent (leaf_by Met meet P r d e w)
    unfolding Leaves FineBest
    by_rank smaller d e w s b f = replace_leaves e w s b
    by_rank equal d e w s b f =
        record {
          only = sorts_only_refl w.lent s.grown.checked;
          best = record { numbers = f.numbers; assignment = f.assignment; respects = f.respects; typed = f.typed; costs = f.costs };
        }
    by_rank greater d e w s b f = record { only = sorts_only_refl w.lent s.grown.checked; best = f }

    over_best : (o : Option Candidate) (e : Path) (w : World Met) → Sound W₀ B₀ P w.lent e AllPassed
        → FineBest W₀ B₀ P w.lent w.best → FineBest W₀ B₀ P w.lent o
        → Leaves W₀ B₀ P Met w.lent (leaf_over Met meet P o e w)
    unfolding FineBest
    over_best none e w s b f = replace_leaves e w s b
    over_best (some d) e w s b f = by_rank (compare e.measure d.measure) d e w s b f

    pub leaf_goes : Goes W₀ B₀ P Met AllPassed (leaf Met meet P)
    unfolding leaf
    leaf_goes e w s b = over_best w.best e w s b b
