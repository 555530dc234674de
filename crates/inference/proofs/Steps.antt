-- Every constraint goes on soundly, so the whole search does: by induction over the constraints, each of which adds its components to what was passed.
-- Assumes nothing.
use mathlib.Core.Path.{◌≡◌, sym, subst, ◌∙◌}
use mathlib.Core.Bool.{Bool, true, false, cond}
use mathlib.Core.List.{List, [], ◌∷◌, ◌++◌, append_assoc, append-nil}
use Prim.Native.Nat.{◌<◌}
use lib.ListN.{take, drop}
use Rattle.resolved_sort.specs.Checks.{fixed_six}
use Rattle.unification.specs.Nodes.{Binds}
use Rattle.unification.specs.Making.{Lent, graph}
use Rattle.unification.specs.Growing.{CheckedLent, PlacedIn}
use Rattle.inference.specs.declared.Constraint.{Constraint}
use Rattle.inference.specs.declared.Constraint.TheVariants.{Sub, Lit, Disjunction, Comprehension, Join}
use Rattle.inference.specs.Constraints.{Problem}
use Rattle.inference.specs.Measure.{Components}
use Rattle.inference.specs.Search.{Path, Choice, Going, sort_in, step, solve, leaf, dominated_by, unless_dominated, missed}
use Rattle.inference.specs.Typing.{Assignment, All, and_all, In, here, Meets, meets_sub, meets_lit, meets_disjunction, meets_comprehension, meets_join}
use Rattle.inference.specs.Components.{Costs, sub_costs, lit_costs, disjunction_costs, comprehension_costs}
use Rattle.inference.specs.Components.{agreed_costs, sequence_costs, nothing_costs, and_costs}
use Rattle.inference.proofs.Members.{in_left, in_right}
use Rattle.inference.proofs.Invariant.{Claim, Cost, Leaves, Goes, missed_leaves, weaker_goes}
use Rattle.inference.proofs.Joining.{joining_goes}
use Rattle.inference.proofs.Leaf.{leaf_goes}
use Rattle.inference.proofs.Widening.{widening_goes, sequence_goes}
use Rattle.inference.proofs.Alternatives.{disjunction_goes, comprehension_goes, literal_goes}
use Rattle.inference.specs.Inner.Listed.{ListedConstraint, sub_listed, lit_listed, disjunction_listed, comprehension_listed, join_listed}

module _ (W₀ : Lent) (B₀ : Binds) (P : Problem) where
  -- what is met stays met with choices that have all of these among them
  more_meets : (ch ds : List Choice) → ((k : Choice) → In k ch → In k ds) → (ρ : Assignment) (c : Constraint)
      → Meets (graph W₀) (sort_in W₀) P ch ρ c → Meets (graph W₀) (sort_in W₀) P ds ρ c
  more_meets ch ds m ρ _ (meets_sub l r t h i) = meets_sub l r t h i
  more_meets ch ds m ρ _ (meets_lit p kind s h a) = meets_lit p kind s h a
  more_meets ch ds m ρ _ (meets_disjunction x p run i t j l h g) = meets_disjunction x p run i t (m _ j) l h g
  more_meets ch ds m ρ _ (meets_comprehension b n e s t h g r) = meets_comprehension b n e s t h g r
  more_meets ch ds m ρ _ (meets_join run t u h a) = meets_join run t u h a

  more_costs : (ch ds : List Choice) → ((k : Choice) → In k ch → In k ds) → (ρ : Assignment) (c : Constraint) (ns : Components)
      → Costs (graph W₀) (sort_in W₀) P ch ρ c ns → Costs (graph W₀) (sort_in W₀) P ds ρ c ns
  more_costs ch ds m ρ _ _ (sub_costs l r s t n h g w) = sub_costs l r s t n h g w
  more_costs ch ds m ρ _ _ (lit_costs p kind s g h e) = lit_costs p kind s g h e
  more_costs ch ds m ρ _ _ (disjunction_costs x p run q) = disjunction_costs x p run (more_meets ch ds m ρ (Disjunction x p run) q)
  more_costs ch ds m ρ _ _ (comprehension_costs b n e q) = comprehension_costs b n e (more_meets ch ds m ρ (Comprehension b n e) q)
  more_costs ch ds m ρ _ _ (agreed_costs run t s u us ns h g j) = agreed_costs run t s u us ns h g j
  more_costs ch ds m ρ _ _ (sequence_costs run t u ns h q) = sequence_costs run t u ns h q

  pub more_choices : (ch ds : List Choice) → ((k : Choice) → In k ch → In k ds) → (ρ : Assignment) (cs : List Constraint) (ms : Components)
      → Cost W₀ B₀ P ch ρ cs ms → Cost W₀ B₀ P ds ρ cs ms
  more_choices ch ds m ρ _ _ nothing_costs = nothing_costs
  more_choices ch ds m ρ _ _ (and_costs c cs ns ms x y) = and_costs c cs ns ms (more_costs ch ds m ρ c ns x) (more_choices ch ds m ρ cs ms y)

  -- one more constraint passed
  and_last : (ch : List Choice) (ρ : Assignment) (cs : List Constraint) (ms : Components) (c : Constraint)
      (ns : Components) → Cost W₀ B₀ P ch ρ cs ms → Costs (graph W₀) (sort_in W₀) P ch ρ c ns
      → Cost W₀ B₀ P ch ρ (cs ++ (c ∷ [])) (ms ++ ns)
  and_last ch ρ _ _ c ns nothing_costs x = subst (λ ks. Cost W₀ B₀ P ch ρ (c ∷ []) ks) (append-nil ns) (and_costs c [] ns [] x nothing_costs)
  and_last ch ρ _ _ c ns (and_costs d cs ks ms y z) x =
      subst (λ ls. Cost W₀ B₀ P ch ρ (d ∷ (cs ++ (c ∷ []))) ls) (sym (append_assoc ks ms ns))
      (and_costs d (cs ++ (c ∷ [])) ks (ms ++ ns) y (and_last ch ρ cs ms c ns z x))

  -- one that costs nothing
  and_free : (ch : List Choice) (ρ : Assignment) (cs : List Constraint) (ms : Components) (c : Constraint)
      → Cost W₀ B₀ P ch ρ cs ms → Costs (graph W₀) (sort_in W₀) P ch ρ c []
      → Cost W₀ B₀ P ch ρ (cs ++ (c ∷ [])) ms
  and_free ch ρ cs ms c x y = subst (λ ks. Cost W₀ B₀ P ch ρ (cs ++ (c ∷ [])) ks) (append-nil ms) (and_last ch ρ cs ms c [] x y)

  -- the constraints passed
  abbrev pub Passed : List Constraint → Claim
  Passed done ch ρ ms = Cost W₀ B₀ P ch ρ done ms

  module _ (c₀ : CheckedLent W₀) (six : fixed_six W₀.sorts W₀.lengths.sorts ≡ true) (Met : Type 0) (meet : Path → Lent → Met → Met) where
    pub step_goes : (done : List Constraint) (c : Constraint) → ListedConstraint W₀ P c → (k : Going Met meet P)
        → Goes W₀ B₀ P Met (Passed (done ++ (c ∷ []))) k → Goes W₀ B₀ P Met (Passed done) (step Met meet P c k)
    unfolding step
    step_goes done _ (sub_listed l r x y) k g =
        widening_goes W₀ B₀ P c₀ Met meet six l.0 r.0 x y (Passed done) (Passed (done ++ (Sub l r ∷ [])))
        (λ ch ρ ms s t n q h j w. and_last ch ρ done ms (Sub l r) (n ∷ []) q (sub_costs l r s t n h j w)) k g
    step_goes done _ (lit_listed p kind x) k g =
        literal_goes W₀ B₀ P c₀ six Met meet kind p.0 x (Passed done) (Passed (done ++ (Lit p kind ∷ [])))
        (λ ch ρ ms s n q h e. and_last ch ρ done ms (Lit p kind) (n ∷ []) q (lit_costs p kind s n h e)) k g
    step_goes done _ (disjunction_listed x p run y l o) k g =
        disjunction_goes W₀ B₀ P c₀ six Met meet x p run y o (Passed done) (Passed (done ++ (Disjunction x p run ∷ [])))
        (λ ch ρ ms i t q l h j.
        and_free (ch ++ (record { expr = x.0; position = i } ∷ [])) ρ done ms (Disjunction x p run)
        (more_choices ch (ch ++ (record { expr = x.0; position = i } ∷ [])) (λ k. in_left k ch _) ρ done ms q)
        (disjunction_costs x p run (meets_disjunction x p run i t (in_right _ ch _ (here [])) l h j))) k g
    step_goes done _ (comprehension_listed body node element x y l) k g =
        comprehension_goes W₀ B₀ P c₀ six Met meet body.0 node.0 element.0 x y l (Passed done)
        (Passed (done ++ (Comprehension body node element ∷ [])))
        (λ ch ρ ms s t q h j r. and_free ch ρ done ms (Comprehension body node element) q (comprehension_costs body
        node element (meets_comprehension body node element s t h j r))) k g
    step_goes done _ (join_listed run t x f a) k g =
        let ss = take run.count (drop run.start P.sources) in
        let Q = Passed done in
        let R = Passed (done ++ (Join run t ∷ [])) in
        joining_goes W₀ B₀ P c₀ Met meet ss t.0 a x Q R (λ ch ρ ms s u us ns q h j e. and_last ch ρ done ms
        (Join run t) ns q (agreed_costs run t s u us ns h j e)) k g
        (sequence_goes W₀ B₀ P c₀ Met meet six ss t.0 a x Q R (λ ch ρ ms u ns q h j. and_last ch ρ done ms
        (Join run t) ns q (sequence_costs run t u ns h j)) k g)

    unless_goes : (k : Going Met meet P) (Q : Claim) → Goes W₀ B₀ P Met Q k → Goes W₀ B₀ P Met Q (unless_dominated Met meet P k)
    unless_goes k Q g e w s f = go (dominated_by Met meet P e.measure w.best)
      where
        go : (b : Bool) → Leaves W₀ B₀ P Met w.lent (cond b (missed w) (k e w))
        go true = missed_leaves W₀ B₀ P Met w s.grown.checked f
        go false = g e w s f

    module _ (below : P.default < W₀.lengths.sorts) (placed : All (PlacedIn W₀) P.exprs) where
      pub solve_goes : (cs done : List Constraint) → done ++ cs ≡ P.constraints → All (ListedConstraint W₀ P) cs → Goes W₀ B₀ P Met (Passed done) (solve Met meet P cs)
      unfolding solve
      solve_goes [] done q l =
          unless_goes (leaf Met meet P) (Passed done)
          (weaker_goes W₀ B₀ P Met (Passed done) (Passed P.constraints) (λ ch ρ ms x. subst (λ cs. Cost W₀ B₀ P ch
          ρ cs ms) (sym (append-nil done) ∙ q) x) (leaf Met meet P)
          (leaf_goes W₀ B₀ P c₀ below placed Met meet))
      solve_goes (c ∷ cs) done q (and_all _ _ l ls) =
          unless_goes (step Met meet P c (solve Met meet P cs)) (Passed done)
          (step_goes done c l (solve Met meet P cs) (solve_goes cs (done ++ (c ∷ [])) (append_assoc done (c ∷ []) cs ∙ q) ls))
