-- What is said of a trail (`OnTrail`), each clause read alone: a variable stands on it exactly if it was free and is bound now, at one place; whatever was
-- bound is bound to the same, and what is free now was free; and the trail is no longer than there are variables. Assumes nothing.
use mathlib.Core.Path.{◌≡◌, refl, sym, subst, ◌∙◌}
use mathlib.Core.List.{List}
use mathlib.Core.Logic.{◌↔◌}
use mathlib.Core.Option.{Option, none, some}
use Prim.Native.Nat.{ℕ, ◌-◌, ◌<◌, ◌≤◌}
use lib.ListN.{get_or}
use Rattle.resolved_sort.proofs.Reached.{no_confusion}
use Rattle.unification.specs.Nodes.{max_vars, Binds, binding}
use Rattle.unifier.specs.OnTrail.{OnTrail}

module _ (ts : List ℕ) (c d v : ℕ) (B C : Binds) (t : OnTrail ts c d v B C) where
  abbrev On : ℕ → Type 0
  On u = (j : ℕ) × (c ≤ j) × (j < d) × (get_or ts j 0 ≡ u)

  pub on_trail_exactly_if_bound_since : (u : ℕ) → On u ↔ ((binding B u ≡ none) × ((q : ℕ) × (binding C u ≡ some q)))
  on_trail_exactly_if_bound_since u = (
    λ x. (
      subst (λ (w : ℕ). binding B w ≡ none) x.3 (t.free_before x.0 x.1 x.2),
      subst (λ (w : ℕ). (q : ℕ) × (binding C w ≡ some q)) x.3 (t.bound_after x.0 x.1 x.2),
    ),
    λ x. t.every u x.1.0 x.0 x.1.1,
  )

  -- at one place, and it is one of the variables
  pub on_trail_once : (u : ℕ) (x y : On u) → x.0 ≡ y.0
  on_trail_once u x y = t.once x.0 y.0 x.1 x.2 y.1 y.2 (x.3 ∙ sym y.3)

  pub variables_on_trail : (u : ℕ) → On u → u < v
  variables_on_trail u x = subst (λ (w : ℕ). w < v) x.3 (t.listed x.0 x.1 x.2)

  pub bound_before_stays : (u q : ℕ) → binding B u ≡ some q → binding C u ≡ some q
  bound_before_stays = t.stays

  pub free_now_was_free : (u : ℕ) → binding C u ≡ none → binding B u ≡ none
  free_now_was_free u e = go (binding B u) refl
    where
      go : (o : Option ℕ) → binding B u ≡ o → o ≡ none
      go none i = refl
      go (some q) i = let z : none ≡ some q = sym e ∙ t.stays u q i in no_confusion cc

  -- so a trail as long as there may be variables is enough
  pub trail_is_short : (d - c ≤ v) × (v ≤ max_vars)
  trail_is_short = t.few
