-- What holds all through a search, and what each way of going on keeps. On a branch: the lists have grown from those given; the bindings pass their
-- checks; whatever respects them respects the given ones; and every assignment that respects them meets the constraints passed so far, with the
-- components of the measure. Of the incumbent: one assignment for its whole typing. A way of going on that leaves the lists grown by sorts only, and
-- the incumbent so, keeps this. Assumes nothing.
use mathlib.Core.Path.{◌≡◌, refl, sym, ◌∙◌, ap}
use mathlib.Core.Bool.{Bool, true, false}
use mathlib.Core.List.{List}
use mathlib.Core.Option.{Option, none, some}
use mathlib.Core.Logic.{◌↔◌}
use Prim.Native.Nat.{ℕ}
use Rattle.resolved_sort.specs.Tree.{Tree}
use Rattle.resolved_sort.specs.Rows.{AllBelow}
use Rattle.resolved_sort.proofs.RowTrees.{weaken_all}
use Rattle.unification.specs.Term.{Term, term_of, substitute}
use Rattle.unification.specs.Nodes.{Binds}
use Rattle.unification.specs.Unify.{Unifies, yes_with, no_way, too_deep, unify}
use Rattle.unification.specs.Solutions.{Respects, Equates}
use Rattle.unification.specs.Making.{Lent, graph, with_nodes_of}
use Rattle.unification.specs.Growing.{CheckedLent, PlacedIn, Grows, CheckedBinds}
use Rattle.unification.proofs.Grows.{grows_refl, grows_trans, given_back_grows, placed_grown, term_grown, respects_grown}
use Rattle.unification.proofs.BindsGrow.{binds_name_places, checked_binds_grown}
use Rattle.unification.proofs.Answers.{Agreeing, yes_agrees}
use Rattle.inference.specs.declared.Constraint.{Constraint}
use Rattle.inference.specs.Constraints.{Problem}
use Rattle.inference.specs.Measure.{Components}
use Rattle.inference.specs.Search.{Choice, Path, Candidate, World, Out, found, missed, ended, lending, else_try}
use Rattle.inference.specs.Search.{and_also, says, on_yes, unifying, nodes_returned, sort_in}
use Rattle.inference.specs.Typing.{Assignment, Has, All, none_left, and_all, Typed, all_typed, and_typed}
use Rattle.inference.specs.Components.{Costing}
use Rattle.inference.specs.Inner.Listed.{SortsOnly}

-- what is claimed of the choices on a branch, an assignment and the measure
abbrev pub Claim : Type 1
Claim = List Choice → Assignment → Components → Type 0

-- an assignment as terms
abbrev pub terms : Assignment → ℕ → Term
terms ρ v = term_of (ρ v)

pub sorts_only_refl : (W : Lent) → CheckedLent W → SortsOnly W W
sorts_only_refl W c = record { grows = grows_refl W c; nodes = refl; arguments = refl }

pub sorts_only_trans : (W W' W'' : Lent) → CheckedLent W → SortsOnly W W' → SortsOnly W' W'' → SortsOnly W W''
sorts_only_trans W W' W'' c g h = record {
  grows = grows_trans W c W' W'' g.grows h.grows;
  nodes = h.nodes ∙
      g.nodes;
  arguments = h.arguments ∙ g.arguments;
}

-- Places of the lists given, in lists that have grown: they are places, and have the sort that they had.
module _ (W₀ : Lent) (c₀ : CheckedLent W₀) (W : Lent) (g : Grows W₀ W) where
  pub still_placed : (ps : List ℕ) → All (PlacedIn W₀) ps → All (PlacedIn W) ps
  still_placed _ none_left = none_left
  still_placed _ (and_all p ps i is) = and_all p ps (placed_grown W₀ c₀ W g p i) (still_placed ps is)

  pub same_sort : (ρ : Assignment) (p : ℕ) (t : Tree) → PlacedIn W₀ p → Has (graph W) ρ p t ↔ Has (graph W₀) ρ p t
  same_sort ρ p t x = let y = ap (substitute (terms ρ)) (term_grown W₀ c₀ W g p x) in (λ h. sym y ∙ h, λ h. y ∙ h)

  pub equal_have_one_sort : (ρ : Assignment) (l r : ℕ) (t : Tree) → PlacedIn W₀ l → PlacedIn W₀ r
      → Equates (graph W) (terms ρ) l r → Has (graph W₀) ρ l t → Has (graph W₀) ρ r t
  equal_have_one_sort ρ l r t x y q h = (same_sort ρ r t y).0 (sym q ∙ (same_sort ρ l t x).1 h)

module _ (W₀ : Lent) (B₀ : Binds) (P : Problem) where
  -- the constraints with their components, of the places and sorts given
  abbrev pub Cost : List Choice → Assignment → List Constraint → Components → Type 0
  Cost choices ρ cs ns = Costing (graph W₀) (sort_in W₀) P choices ρ cs ns

  -- on a branch, where what is claimed of choices, assignment and measure holds of every assignment that respects the bindings
  pub record Sound (W : Lent) (e : Path) (Q : Claim) : Type 0 where
    pub grown : Grows W₀ W
    pub binds : CheckedBinds W e.binds
    pub refines : (σ : ℕ → Term) → Respects (graph W) e.binds σ → Respects (graph W₀) B₀ σ
    pub costs : (ρ : Assignment) → Respects (graph W) e.binds (terms ρ) → Q e.choices ρ e.measure

  -- an incumbent that holds together
  pub record Fine (W : Lent) (c : Candidate) : Type 0 where
    pub numbers : AllBelow W.lengths.sorts c.sorts
    pub assignment : Assignment
    pub respects : Respects (graph W₀) B₀ (terms assignment)
    pub typed : Typed (graph W₀) (sort_in W) assignment P.exprs c.sorts
    pub costs : Cost c.choices assignment P.constraints c.measure

  unfoldable pub FineBest : Lent → Option Candidate → Type 0
  FineBest W none = Unit {0}
  FineBest W (some c) = Fine W c

  module _ (Met : Type 0) where
    -- what a branch leaves: lists grown by sorts only, a fine incumbent; lists grown where room ended
    pub record Went (W : Lent) (w : World Met) : Type 0 where
      pub only : SortsOnly W w.lent
      pub best : FineBest w.lent w.best

    unfoldable pub Leaves : Lent → Out Met → Type 0
    Leaves W (found w) = Went W w
    Leaves W (missed w) = Went W w
    Leaves W (ended c U) = Grows W U

    -- a way of going on where Q is claimed
    abbrev pub Goes : Claim → (Path → World Met → Out Met) → Type 0
    Goes Q k = (e : Path) (w : World Met) → Sound w.lent e Q → FineBest w.lent w.best → Leaves w.lent (k e w)

    -- a branch on lists grown by sorts only, seen from before
    pub leaves_from : (W : Lent) → CheckedLent W → (W' : Lent) → SortsOnly W W' → (o : Out Met) → Leaves W' o → Leaves W o
    unfolding Leaves
    leaves_from W c W' g (found w) x = record { only = sorts_only_trans W W' w.lent c g x.only; best = x.best }
    leaves_from W c W' g (missed w) x = record { only = sorts_only_trans W W' w.lent c g x.only; best = x.best }
    leaves_from W c W' g (ended b U) x = grows_trans W c W' U g.grows x

    pub stays : (w : World Met) → CheckedLent w.lent → FineBest w.lent w.best → Went w.lent w
    stays w c f = record { only = sorts_only_refl w.lent c; best = f }

    pub says_leaves : (b : Bool) (w : World Met) → CheckedLent w.lent → FineBest w.lent w.best → Leaves w.lent (says b w)
    unfolding Leaves
    says_leaves true w c f = stays w c f
    says_leaves false w c f = stays w c f

    pub missed_leaves : (w : World Met) → CheckedLent w.lent → FineBest w.lent w.best → Leaves w.lent (missed w)
    unfolding Leaves
    missed_leaves w c f = stays w c f

    -- an incumbent does not look at nodes
    pub fine_with_nodes : (W W' : Lent) (b : Option Candidate) → FineBest W' b → FineBest (with_nodes_of W W') b
    unfolding FineBest
    fine_with_nodes W W' none f = tt
    fine_with_nodes W W' (some c) f = record { numbers = f.numbers; assignment = f.assignment; respects = f.respects; typed = f.typed; costs = f.costs }

    back : (W : Lent) → CheckedLent W → (W' : Lent) → Grows W W' → (w : World Met) → Went W' w → Went W (lending w (with_nodes_of W w.lent))
    back W c W' g w x =
        record {
          only = record { grows = given_back_grows W w.lent c (grows_trans W c W' w.lent g x.only.grows); nodes = refl; arguments = refl };
          best = fine_with_nodes W w.lent w.best x.best;
        }

    -- "Nodes made for a widening are given back"
    pub given_back_leaves : (W : Lent) → CheckedLent W → (W' : Lent) → Grows W W' → (o : Out Met) → Leaves W' o → Leaves W (nodes_returned W o)
    unfolding Leaves
    given_back_leaves W c W' g (found w) x = back W c W' g w x
    given_back_leaves W c W' g (missed w) x = back W c W' g w x
    given_back_leaves W c W' g (ended b U) x = grows_trans W c W' U g x

  -- A branch goes on soundly on lists that have grown.
  pub sound_grown : (W W' : Lent) (e : Path) (Q : Claim) → CheckedLent W₀ → Sound W e Q → Grows W W' → Sound W' e Q
  sound_grown W W' e Q c₀ s g =
      let c = s.grown.checked in
      let b = binds_name_places W e.binds s.binds in
      let back : (σ : ℕ → Term) → Respects (graph W') e.binds σ → Respects (graph W) e.binds σ = λ σ r. (respects_grown W c W' g e.binds b σ).1 r in
      record {
        grown = grows_trans W₀ c₀ W W' s.grown g;
        binds = checked_binds_grown W W' e.binds c s.binds g;
        refines = λ σ r. s.refines σ (back σ r);
        costs = λ ρ r. s.costs ρ (back (terms ρ) r);
      }

  pub typed_grown : (W W' : Lent) → Grows W W' → (ρ : Assignment) (ps ss : List ℕ) → AllBelow W.lengths.sorts ss
      → Typed (graph W₀) (sort_in W) ρ ps ss → Typed (graph W₀) (sort_in W') ρ ps ss
  unfolding AllBelow
  typed_grown W W' g ρ _ _ a all_typed = all_typed
  typed_grown W W' g ρ _ _ a (and_typed p s ps ss h t) = and_typed p s ps ss (h ∙ ap term_of (sym (g.looks s a.0))) (typed_grown W W' g ρ ps ss a.1 t)

  -- and so is an incumbent
  pub fine_grown : (W W' : Lent) → Grows W W' → (b : Option Candidate) → FineBest W b → FineBest W' b
  unfolding FineBest
  fine_grown W W' g none f = tt
  fine_grown W W' g (some c) f =
      record {
        numbers = weaken_all W.lengths.sorts W'.lengths.sorts c.sorts g.sorts f.numbers;
        assignment = f.assignment;
        respects = f.respects;
        typed = typed_grown W W' g f.assignment P.exprs c.sorts f.numbers f.typed;
        costs = f.costs;
      }

  module _ (Met : Type 0) where
    -- what goes on where R is claimed goes on where Q is, which says more
    pub weaker_goes : (Q R : Claim) → ((ch : List Choice) (ρ : Assignment) (ms : Components) → Q ch ρ ms → R ch ρ ms)
        → (k : Path → World Met → Out Met) → Goes Met R k → Goes Met Q k
    weaker_goes Q R h k g e w s f =
        g e w (record { grown = s.grown; binds = s.binds; refines = s.refines; costs = λ ρ r. h e.choices ρ e.measure (s.costs ρ r) }) f

    module _ (e : Path) (w : World Met) (Q : Claim) (s : Sound w.lent e Q) where
      -- what goes on from e after a branch
      abbrev pub After : (World Met → Out Met) → Type 0
      After f = (v : World Met) → Grows w.lent v.lent → Sound v.lent e Q → FineBest v.lent v.best → Leaves Met v.lent (f v)

      after_leaves : CheckedLent W₀ → (f : World Met → Out Met) → After f → (v : World Met) → Went Met w.lent v → Leaves Met w.lent (f v)
      after_leaves c₀ f y v x =
          leaves_from Met w.lent s.grown.checked v.lent x.only (f v) (y v x.only.grows
          (sound_grown w.lent v.lent e Q c₀ s x.only.grows) x.best)

      -- "where nothing was found, what else"
      pub or_else_leaves : CheckedLent W₀ → (o : Out Met) (f : World Met → Out Met) → Leaves Met w.lent o → After f → Leaves Met w.lent (else_try o f)
      unfolding Leaves
      or_else_leaves c₀ (found v) f x y = x
      or_else_leaves c₀ (missed v) f x y = after_leaves c₀ f y v x
      or_else_leaves c₀ (ended b W) f x y = x

      pub and_also_leaves : CheckedLent W₀ → (o : Out Met) (b : Bool) (f : Bool → World Met → Out Met)
          → Leaves Met w.lent o → ((b : Bool) → After (f b)) → Leaves Met w.lent (and_also o b f)
      unfolding Leaves
      and_also_leaves c₀ (found v) b f x y = after_leaves c₀ (f true) (y true) v x
      and_also_leaves c₀ (missed v) b f x y = after_leaves c₀ (f b) (y b) v x
      and_also_leaves c₀ (ended d W) b f x y = x

      -- Two places made equal, and on from there, where R is claimed of every assignment that makes them equal.
      pub unifying_leaves : FineBest w.lent w.best → (l r : ℕ) → PlacedIn w.lent l → PlacedIn w.lent r
          → (ms : Components) (cs : List Choice) (R : Claim)
          → ((ρ : Assignment) → Respects (graph w.lent) e.binds (terms ρ) → Equates (graph w.lent) (terms ρ)
          l r → Q e.choices ρ e.measure → R cs ρ ms)
          → (k : Binds → World Met → Out Met)
          → ((C : Binds) → Sound w.lent (record { binds = C; measure = ms; choices = cs }) R
          → Leaves Met w.lent (k C w))
          → Leaves Met w.lent (unifying e.binds l r k w)
      unfolding unifying
      unifying_leaves f l r x y ms cs R h k on = go (unify (graph w.lent) e.binds l r) refl
        where
          sound_on : (C : Binds) → Agreeing w.lent e.binds l r C → Sound w.lent (record { binds = C; measure = ms; choices = cs }) R
          sound_on C a =
              record {
                grown = s.grown;
                binds = a.binds;
                refines = λ σ z. s.refines σ (a.before σ z);
                costs = λ ρ z. h ρ (a.before (terms ρ) z) (a.equal (terms ρ) z) (s.costs ρ (a.before (terms ρ) z));
              }

          go : (U : Unifies) → unify (graph w.lent) e.binds l r ≡ U → Leaves Met w.lent (on_yes U k w)
          go (yes_with C) q = on C (sound_on C (yes_agrees w.lent s.grown.checked e.binds s.binds l r x y C q))
          go no_way q = missed_leaves Met w s.grown.checked f
          go too_deep q = missed_leaves Met w s.grown.checked f
