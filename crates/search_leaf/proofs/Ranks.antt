-- Components against the incumbent's, as the code meets them: the slices that are compared are the first components of both, so a dominated prefix is
-- one that ranks greater than as many components of the incumbent. Assumes nothing.
use mathlib.Core.Path.{◌≡◌, refl, sym, ap, ap₂, ◌∙◌}
use mathlib.Core.Bool.{Bool, true, false}
use mathlib.Core.List.{List}
use Prim.Native.Nat.{ℕ, ◌+◌, ◌-◌}
use native.Mathlib.Omega.{arith}
use lib.ListN.{length, take, drop}
use Rattle.inference.specs.Measure.{compare, is_greater, worse, ranking_of}
use Rattle.inference.specs.Search.{dominated_by}
use Rattle.inference.specs.SolveEntry.{nothing_met}
use Rattle.search_state.specs.declared.Sizes.{Sizes}
use Rattle.search_state.specs.Inner.States.{State}
use Rattle.search_state.specs.declared.Branch.{Branch}
use Rattle.std.specs.Prelude.{Option, Some, None}
use Rattle.search_state.specs.declared.Incumbent.{Incumbent}
use Rattle.search_state.specs.Inner.Solving.{has_best}
use Rattle.std.specs.declared.cmp.Ordering.{Ordering}
use Rattle.std.specs.declared.cmp.Ordering.TheVariants.{Less, Equal, Greater}
use Rattle.search_state.specs.Inner.Memory.{problem_in, measure_at, best_measure_at, candidate_of, best_of}
use Rattle.std.specs.Ordering.{is_gt}
use Rattle.words.specs.Words.{part}
use Rattle.search_state.specs.Inner.Searching.{Comparable}
use Rattle.words.proofs.Parts.{length_part, take_part}
use Rattle.search_leaf.specs.Inner.Leaf.{ranked, ranked_by, IsDominated}

-- the words from the measure on, as slices
pub ranked_slices : (sc : List ℕ) (n : ℕ) (o : Ordering) → ranking_of o ≡ compare (take (measure_at + n - measure_at) (drop measure_at sc))
    (take (best_measure_at + n - best_measure_at) (drop best_measure_at sc)) → ranking_of o ≡ ranked sc n
ranked_slices sc n o e =
    e ∙ ap₂ (λ (a b : ℕ). compare (part measure_at a sc) (part best_measure_at b sc))
    (let q : measure_at + n - measure_at ≡ n = omega arith in q) (let q : best_measure_at + n - best_measure_at ≡ n = omega arith in q)

-- with an incumbent, and without
pub no_best : (b : Option Incumbent) → ((i : Incumbent) → b ≡ Some i → ⊥) → has_best b ≡ false
no_best None n = refl
no_best (Some i) n = absurd (n i refl)

pub rank_with : (best : Bool) (sc : List ℕ) (n : ℕ) (r : Ordering) → best ≡ true → ranking_of r ≡ ranked sc n → ranking_of r ≡ ranked_by best sc n
unfolding ranked_by
rank_with best sc n r e f = rw e f

pub rank_without : (best : Bool) (sc : List ℕ) (n : ℕ) → best ≡ false → ranking_of Less ≡ ranked_by best sc n
unfolding ranked_by
rank_without best sc n e = rw e

-- Dominated is greater than as many components of the incumbent.
pub dominated_is_greater : (sc : List ℕ) (z : Sizes) (k : State) (e : Branch) → Comparable sc z e → (r : Ordering)
    → ranking_of r ≡ ranked_by k.best sc e.measure
    → (b : Bool) → b ≡ is_gt r → IsDominated sc z k e b
unfolding IsDominated ranked_by best_of candidate_of worse
dominated_is_greater sc z k e p r q b h ls = h ∙ (told r ∙ go k.best q)
  where
    told : (r : Ordering) → is_gt r ≡ is_greater (ranking_of r)
    told Less = refl
    told Equal = refl
    told Greater = refl

    same : take (length (part measure_at e.measure sc)) (part best_measure_at z.components sc) ≡ part best_measure_at e.measure sc
    same =
        ap (λ (n : ℕ). take n (part best_measure_at z.components sc)) (length_part measure_at e.measure sc (omega (arith, p.few, p.fits, p.long)))
        ∙ take_part best_measure_at e.measure z.components sc p.few

    go : (b : Bool) → ranking_of r ≡ ranked_by b sc e.measure → is_greater (ranking_of r) ≡ dominated_by (Unit {0})
        nothing_met (problem_in ls z) (part measure_at e.measure sc) (best_of ls z sc b k.tied)
    go true f = ap is_greater (f ∙ ap (compare (part measure_at e.measure sc)) (sym same))
    go false f = ap is_greater f
