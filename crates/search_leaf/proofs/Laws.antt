-- A leaf, as the code meets it. Where it is less than the incumbent, the sorts read out and the words kept are the next incumbent; reading out never ends
-- without a sort, since what is free has the default; and only the incumbent's words change, so that the branch stays. Assumes nothing.
use mathlib.Core.Path.{◌≡◌, refl, sym, ap, subst, ◌∙◌}
use mathlib.Core.Bool.{Bool, true, false}
use mathlib.Core.List.{List}
use mathlib.Core.Option.{some}
use Prim.Native.Nat.{ℕ, ◌+◌, ◌≤◌}
use native.Mathlib.Omega.{arith}
use Rattle.resolved_sort.proofs.Reached.{no_confusion}
use Rattle.unification.specs.declared.Lengths.{Lengths}
use Rattle.std.specs.Prelude.{Some as Is}
use Rattle.unification.specs.Nodes.{Binds, binds_of}
use Rattle.unification.specs.Making.{Lent, Makes}
use Rattle.unification.specs.Inner.Making.{lent}
use Rattle.unification.specs.Growing.{CheckedLent}
use Rattle.inference.specs.Constraints.{max_constraints, max_components, rows_from}
use Rattle.inference.specs.Measure.{Components, Ranking, smaller, equal, greater, compare, ranking_of}
use Rattle.inference.specs.Search.{Choice, Path, World, Out, found, missed, on_made, keeping, replace, leaf_by, leaf_over, leaf}
use Rattle.inference.specs.SolveEntry.{nothing_met}
use Rattle.inference.proofs.Invariant.{sorts_only_refl}
use Rattle.inference.proofs.MakingSorts.{MadeSorts, StandAll, resolve_all_makes}
use Rattle.search_state.specs.declared.Sizes.{Sizes}
use Rattle.search_state.specs.Inner.States.{State}
use Rattle.search_state.specs.declared.Branch.{Branch}
use Rattle.search_state.specs.Inner.States.{Answer}
use Rattle.search_state.specs.Inner.States.{Found, Full as Ended}
use Rattle.unification.specs.declared.Full.{Full}
use Rattle.std.specs.Prelude.{Result, Ok, Err}
use Rattle.resolved_sort.specs.declared.NoRoom.{NoRoom}
use Rattle.std.specs.declared.cmp.Ordering.{Ordering}
use Rattle.std.specs.declared.cmp.Ordering.TheVariants.{Less, Equal, Greater}
use Rattle.search_state.specs.Inner.Memory.{expr_at, problem_in, chosen_exprs, best_sorts_at, measure_at, best_measure_at}
use Rattle.search_state.specs.Inner.Memory.{choices_at, best_choices_at, choices_of, path_of, candidate_of}
use Rattle.search_state.specs.Inner.Memory.{best_of, world_of}
use Rattle.words.specs.Words.{part}
use Rattle.search_state.specs.Inner.Leaves.{extracted_of, Extracts}
use Rattle.search_state.specs.Inner.Solving.{answer_of}
use Rattle.search_state.specs.Inner.Searching.{AtLeaf, SamePath, Done, Comes}
use Rattle.search_state.proofs.Parts.{changed_wider, same_path_refl, same_path_trans, sorts_change_no_path}
use Rattle.search_leaf.specs.Inner.Leaf.{ranked_by, Readable, sorts_from, kept_as_best, Keepable}
use Rattle.search_leaf.proofs.Copies.{kept_measure, kept_choices, kept_sorts, kept_path}

-- the state with an incumbent
abbrev pub incumbent : Lengths → Bool → State
incumbent k tied = record { lengths = k; best = true; tied = tied }

module _ (ws ns bs sc ls : List ℕ) (z : Sizes) (k : State) (e : Branch) (p : AtLeaf ws ns bs sc ls z k e) where
  abbrev W : Lent
  W = lent ws ns k.lengths

  abbrev B : Binds
  B = binds_of bs k.lengths.variables

  abbrev here : Path
  here = path_of ls z B sc e

  abbrev world : World (Unit {0})
  world = world_of ls z ws ns sc k

  -- the same answer, with the nodes and bindings that were left as they were
  pub as_left : (O : Out (Unit {0})) (ws' ns' bs' : List ℕ) → ns' ≡ ns → bs' ≡ bs → (sc' : List ℕ) (a b : Answer)
      → b ≡ a → Done ls z ws ns bs sc k e O ws' ns bs sc' a → Done ls z ws ns bs sc k e O ws' ns' bs' sc' b
  as_left O ws' ns' bs' p q sc' a b r d = rw (p, q, r) d

  checked : CheckedLent W
  checked = p.ready.nodes

  few_components : e.measure ≤ max_components
  few_components = omega (arith, p.measure, p.sized.few_components)

  few_choices : e.choices ≤ max_constraints
  few_choices = omega (arith, p.choices, p.sized.few_disjunctions)

  pub readable : Readable ws ns bs sc ls z.default z.exprs k.lengths
  unfolding problem_in
  readable = record { ready = p.ready; default = p.suits.default; placed = p.suits.exprs; few = p.sized.exprs; long = p.long }

  -- The leaf as the next incumbent.
  abbrev Sorts : Lent → List ℕ → Type 0
  Sorts W' ss = StandAll W B (Is z.default) W' (rows_from (expr_at ls) 0 z.exprs) ss

  abbrev replaced : Out (Unit {0})
  replaced = replace (Unit {0}) nothing_met (problem_in ls z) here world

  module _ (ws' sc' : List ℕ) (k' : Lengths) (r : Result Bool NoRoom)
      (q : Extracts ns sc best_sorts_at z.exprs (sorts_from bs ls z.default 0 z.exprs W) ws' sc' k' r) where
    abbrev Making : Result Bool NoRoom → Type 0
    Making x = MadeSorts Sorts ⊥ W (extracted_of ws' ns sc' best_sorts_at z.exprs k' x)

    makes : Making r
    makes =
        subst (MadeSorts Sorts ⊥ W) (sym q.says)
        (resolve_all_makes W checked B p.ready.binds (Is z.default) readable.default (rows_from (expr_at ls) 0
        z.exprs) readable.placed W (sorts_only_refl W checked))

    abbrev next_incumbent : List ℕ → World (Unit {0}) → Out (Unit {0})
    next_incumbent ss v =
        found (keeping (Unit {0}) nothing_met (problem_in ls z) v here
        (record { measure = here.measure; sorts = ss; choices = here.choices; duplicate = false }))

    abbrev Says : Result Bool NoRoom → Type 0
    Says x = on_made (extracted_of ws' ns sc' best_sorts_at z.exprs k' x) next_incumbent missed world ≡ replaced

    says : Says r
    unfolding problem_in
    says = ap (λ (O : Makes (List ℕ)). on_made O next_incumbent missed world) q.says

    path : SamePath e sc sc'
    path =
        sorts_change_no_path e p.trail few_components few_choices sc sc'
        (changed_wider best_sorts_at (best_sorts_at + z.exprs) best_sorts_at measure_at sc sc' (omega arith) (omega (arith, p.sized.exprs)) q.changed)

    pub keepable : Keepable z sc'
    keepable = record { components = p.sized.few_components; disjunctions = p.sized.few_disjunctions; long = omega (arith, p.long, q.changed.long) }

    pub never_without : r ≡ Ok false → {A : Type 0} → A
    unfolding MadeSorts
    never_without f = absurd (subst Making f makes).1

    pub room_ends : (x : NoRoom) → r ≡ Err x → Comes ls z ws ns bs sc k e (replace (Unit {0}) nothing_met (problem_in ls z)) ws' ns bs sc' (Ended 15 k')
    unfolding MadeSorts
    room_ends x f =
        record {
          says = subst Says f says;
          grown = (subst Making f makes).0.grows;
          binds = refl;
          path = path;
        }

    pub replaces : r ≡ Ok true → (sc'' : List ℕ) → sc'' ≡ kept_as_best z sc'
        → Comes ls z ws ns bs sc k e (replace (Unit {0}) nothing_met (problem_in ls z)) ws' ns bs sc'' (Found (incumbent k' false))
    unfolding MadeSorts best_of candidate_of
    replaces f sc'' es =
        record {
          says = (λ i. next (measure i) (sorts i) (choices i)) ∙ subst Says f says;
          grown = (subst Making f makes).0;
          binds = refl;
          path =
              same_path_trans e sc sc' sc'' path
              (subst (SamePath e sc') (sym es) (kept_path z sc' keepable e p.trail few_components few_choices));
        }
      where
        next : Components → List ℕ → List Choice → Out (Unit {0})
        next m ss cs = found (record { lent = lent ws' ns k'; best = some (record { measure = m; sorts = ss; choices = cs; duplicate = false }); met = tt })

        measure : part best_measure_at z.components sc'' ≡ here.measure
        measure =
            ap (part best_measure_at z.components) es
            ∙ (kept_measure z sc' keepable ∙ (ap (λ (n : ℕ). part measure_at n sc') (sym p.measure) ∙ path.measure))

        sorts : part best_sorts_at z.exprs sc'' ≡ part best_sorts_at z.exprs sc'
        sorts = ap (part best_sorts_at z.exprs) es ∙ kept_sorts z sc' keepable z.exprs p.sized.exprs

        choices : choices_of (chosen_exprs ls z) (part best_choices_at z.disjunctions sc'') ≡ here.choices
        choices =
            ap (choices_of (chosen_exprs ls z))
            (ap (part best_choices_at z.disjunctions) es
            ∙ (kept_choices z sc' keepable ∙ (ap (λ (n : ℕ). part choices_at n sc') (sym p.choices) ∙ path.choices)))

  -- The leaf by how it ranks.
  abbrev ranks_as : Ranking → Out (Unit {0})
  ranks_as smaller = replaced
  ranks_as equal = found (world_of ls z ws ns sc (incumbent k.lengths true))
  ranks_as greater = found world

  leaf_ranks : (r : Ordering) → ranking_of r ≡ ranked_by k.best sc e.measure
      → ranks_as (ranking_of r) ≡ leaf (Unit {0}) nothing_met (problem_in ls z) here world
  unfolding leaf ranked_by best_of candidate_of
  leaf_ranks r q = go k.best refl (ranking_of r) q
    where
      by : (R : Ranking) → k.best ≡ true → ranks_as R ≡ leaf_by (Unit {0}) nothing_met (problem_in ls z) R (candidate_of ls z sc k.tied) here world
      by smaller f = refl
      by equal f = refl
      by greater f = ap (λ (b : Bool). found (record { lent = W; best = best_of ls z sc b k.tied; met = tt })) f

      go : (b : Bool) → k.best ≡ b → (R : Ranking) → R ≡ ranked_by b sc e.measure
          → ranks_as R ≡ leaf_over (Unit {0}) nothing_met (problem_in ls z) (best_of ls z sc b k.tied) here world
      go true f R x =
          by R f
          ∙ ap (λ (Q : Ranking). leaf_by (Unit {0}) nothing_met (problem_in ls z) Q (candidate_of ls z sc k.tied) here world)
          (x ∙ ap (λ (n : ℕ). compare (part measure_at e.measure sc) (part best_measure_at n sc)) p.measure)
      go false f smaller x = refl
      go false f equal x = no_confusion (cc)
      go false f greater x = no_confusion (cc)

  module _ (r : Ordering) (q : ranking_of r ≡ ranked_by k.best sc e.measure) where
    abbrev ComesTo : List ℕ → List ℕ → Answer → Type 0
    ComesTo ws' sc' a = Comes ls z ws ns bs sc k e (leaf (Unit {0}) nothing_met (problem_in ls z)) ws' ns bs sc' a

    leaf_is : (o : Ordering) → r ≡ o → ranks_as (ranking_of o) ≡ leaf (Unit {0}) nothing_met (problem_in ls z) here world
    leaf_is o f = subst (λ (x : Ordering). ranks_as (ranking_of x) ≡ leaf (Unit {0}) nothing_met (problem_in ls z) here world) f (leaf_ranks r q)

    pub less_replaces : r ≡ Less → (ws' ns' bs' sc' : List ℕ) (a : Answer)
        → Comes ls z ws ns bs sc k e (replace (Unit {0}) nothing_met (problem_in ls z)) ws' ns' bs' sc' a
        → Comes ls z ws ns bs sc k e (leaf (Unit {0}) nothing_met (problem_in ls z)) ws' ns' bs' sc' a
    less_replaces f ws' ns' bs' sc' a d = record { says = d.says ∙ leaf_is Less f; grown = d.grown; binds = d.binds; path = d.path }

    pub equal_marks : r ≡ Equal → ComesTo ws sc (Found (incumbent k.lengths true))
    equal_marks f = record { says = leaf_is Equal f; grown = sorts_only_refl W checked; binds = refl; path = same_path_refl e sc }

    pub greater_stays : r ≡ Greater → ComesTo ws sc (Found k)
    greater_stays f = record { says = leaf_is Greater f; grown = sorts_only_refl W checked; binds = refl; path = same_path_refl e sc }

-- an answer with a state
abbrev pub told : State → Result Bool Full → Answer
told = answer_of
