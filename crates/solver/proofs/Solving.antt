-- The constraints in turn, as the code goes: a prefix that is dominated is dropped, past the last constraint is the leaf, and else the first constraint is
-- taken by its kind. What each kind asks for follows from what the checks have shown of it. Assumes nothing.
use mathlib.Core.Path.{◌≡◌, refl, sym, ap, ◌∙◌, subst}
use mathlib.Core.Bool.{Bool, true, false, cond}
use mathlib.Core.List.{List, [], ◌∷◌, ◌++◌}
use Prim.Native.Nat.{ℕ, ◌+◌, ◌-◌, ◌<◌, ◌≤◌}
use native.Mathlib.Omega.{arith}
use lib.ListN.{length, take, drop, length-drop}
use Rattle.unification.specs.declared.InferSortId.{InferSortId}
use Rattle.unification.specs.Nodes.{binds_of}
use Rattle.unification.specs.Checked.{Placed}
use Rattle.unification.specs.Making.{Lent}
use Rattle.unification.specs.Inner.Making.{lent}
use Rattle.unification.specs.Growing.{PlacedIn}
use Rattle.inference.specs.Constraints.{Problem, rows_from, overload_at, constraint_at}
use Rattle.inference.specs.Search.{Path, World, missed, Going, step, solve, leaf, dominated_by, widening, literal, every_overload, every_reading, joining}
use Rattle.inference.specs.SolveEntry.{nothing_met}
use Rattle.inference.specs.Typing.{All, and_all}
use Rattle.search_state.specs.declared.Sizes.{Sizes}
use Rattle.search_state.specs.Inner.States.{State}
use Rattle.search_state.specs.declared.Branch.{Branch}
use Rattle.search_state.specs.Inner.States.{Answer}
use Rattle.search_state.specs.Inner.States.{Missed}
use Rattle.resolved_sort.specs.declared.Run.{Run}
use Rattle.resolved_sort.specs.declared.SortId.{SortId}
use Rattle.inference.specs.declared.ExprId.{ExprId}
use Rattle.inference.specs.declared.LitKind.{LitKind}
use Rattle.inference.specs.declared.Overload.{Overload}
use Rattle.inference.specs.declared.Constraint.{Constraint}
use Rattle.inference.specs.declared.Constraint.TheVariants.{Sub, Lit, Disjunction, Comprehension, Join}
use Rattle.inference.specs.SolveChecks.{components_of, components, disjunction_for, disjunctions}
use Rattle.inference.specs.Names.{overload_in}
use Rattle.inference.proofs.Members.{length_rows, row_at_lem, run_at, rows_one_left, each_row, rows_none_left}
use Rattle.inference.specs.Inner.Listed.{ListedConstraint, sub_listed, lit_listed, disjunction_listed, comprehension_listed, join_listed}
use Rattle.search_state.specs.declared.Next.TheVariants.{Solve}
use Rattle.search_state.specs.Inner.Memory.{overloads_at, source_at, problem_in, rest_from, chosen_exprs, measure_at, path_of, best_of, world_of, solve_from, next_of}
use Rattle.words.specs.Words.{part}
use Rattle.search_state.specs.Inner.Searching.{Searching, SourcesFine, AtLeaf, Comes}
use Rattle.search_state.proofs.After.{misses, done_as}
use Rattle.solver.specs.Inner.Asked.{OverloadsFine, exprs_of_constraint, readings_from}

-- one of the rows
all_taken : {A : Type 0} (R : A → Type 0) (x : A) (xs : List A) → All R (x ∷ xs) → R x × All R xs
all_taken R x xs (and_all _ _ a b) = (a, b)

module _ (ls : List ℕ) (z : Sizes) (ws ns bs sc : List ℕ) (k : State) (e : Branch) (i : ℕ) (S : Searching ws ns bs sc ls z k e 0 [] (Solve i)) where
  abbrev P : Problem
  P = problem_in ls z

  abbrev path : Path
  path = path_of ls z (binds_of bs k.lengths.variables) sc e

  abbrev w : World (Unit {0})
  w = world_of ls z ws ns sc k

  -- what is done unless it is dominated
  abbrev body : List Constraint → Going (Unit {0}) nothing_met P
  body [] = leaf (Unit {0}) nothing_met P
  body (c ∷ cs) = step (Unit {0}) nothing_met P c (solve (Unit {0}) nothing_met P cs)

  by_domination : (cs : List Constraint) → cond (dominated_by (Unit {0}) nothing_met P path.measure w.best)
      (missed w) (body cs path w) ≡ solve (Unit {0}) nothing_met P cs path w
  unfolding solve
  by_domination [] = refl
  by_domination (c ∷ cs) = refl

  module _ (b : Bool) (q : b ≡ dominated_by (Unit {0}) nothing_met P (part measure_at e.measure sc) (best_of ls z sc k.best k.tied)) where
    to_cond : (cs : List Constraint) → cond b (missed w) (body cs path w) ≡ solve (Unit {0}) nothing_met P cs path w
    to_cond cs = ap (λ x. cond x (missed w) (body cs path w)) q ∙ by_domination cs

    pub solve_dominated : b ≡ true → Comes ls z ws ns bs sc k e (solve_from ls z i) ws ns bs sc (Missed k)
    solve_dominated t =
        done_as ls z ws ns bs sc k e S.ready.nodes _ _ ws ns bs sc (Missed k)
        (ap (λ x. cond x (missed w) (body (rest_from ls z i) path w)) (sym t) ∙ to_cond (rest_from ls z i))
        (misses ls z ws ns bs sc k e S.ready.nodes)

    module _ (f : b ≡ false) where
      on : (cs : List Constraint) → body cs path w ≡ solve (Unit {0}) nothing_met P cs path w
      on cs = ap (λ x. cond x (missed w) (body cs path w)) (sym f) ∙ to_cond cs

      pub solve_leaf : z.constraints ≤ i → (ws₁ ns₁ bs₁ sc₁ : List ℕ) (r : Answer)
          → Comes ls z ws ns bs sc k e (leaf (Unit {0}) nothing_met P) ws₁ ns₁ bs₁ sc₁ r
          → Comes ls z ws ns bs sc k e (solve_from ls z i) ws₁ ns₁ bs₁ sc₁ r
      solve_leaf l ws₁ ns₁ bs₁ sc₁ r d =
          done_as ls z ws ns bs sc k e S.ready.nodes _ _ ws₁ ns₁ bs₁ sc₁ r
          (on [] ∙ ap (λ cs. solve (Unit {0}) nothing_met P cs path w) (sym (rows_none_left (constraint_at ls)
          z.constraints i l))) d

      pub solve_on : i < z.constraints → (c : Constraint) → c ≡ constraint_at ls i → (ws₁ ns₁ bs₁ sc₁ : List ℕ) (r : Answer)
          → Comes ls z ws ns bs sc k e (step (Unit {0}) nothing_met P c (solve_from ls z (i + 1))) ws₁ ns₁ bs₁ sc₁ r
          → Comes ls z ws ns bs sc k e (solve_from ls z i) ws₁ ns₁ bs₁ sc₁ r
      solve_on l c h ws₁ ns₁ bs₁ sc₁ r d =
          done_as ls z ws ns bs sc k e S.ready.nodes _ _ ws₁ ns₁ bs₁ sc₁ r
          (ap (λ x. step (Unit {0}) nothing_met P x (solve_from ls z (i + 1)) path w) h
          ∙ (on (constraint_at ls i ∷ rest_from ls z (i + 1)) ∙ ap (λ cs. solve (Unit {0}) nothing_met P cs path w)
          (sym (rows_one_left (constraint_at ls) z.constraints i l)))) d

  -- past the last constraint
  module _ (l : z.constraints ≤ i) where
    none_left_here : rest_from ls z i ≡ []
    none_left_here = rows_none_left (constraint_at ls) z.constraints i l

    all_chosen : length (chosen_exprs ls z) ≡ z.disjunctions
    unfolding chosen_exprs problem_in
    all_chosen = ap (λ n. length (disjunctions (rows_from (constraint_at ls) 0 n))) (let q : z.constraints - 0 ≡
        z.constraints = omega arith in q) ∙ S.sized.disjunctions

    pub at_leaf : AtLeaf ws ns bs sc ls z k e
    unfolding components disjunctions
    at_leaf =
        record {
          ready = S.ready;
          suits = S.suits;
          sized = S.sized;
          long = S.long;
          trail = omega (arith, S.trail);
          measure = omega (arith, S.measure, ap components none_left_here);
          choices = omega (arith, S.few, all_chosen, ap length (S.choices ∙ ap disjunctions none_left_here), length-drop e.choices (chosen_exprs ls z));
        }

  -- at a constraint
  module _ (l : i < z.constraints) (c : Constraint) (h : c ≡ constraint_at ls i) where
    first_of : (c : Constraint) (xs : List ℕ) → disjunction_for c xs ≡ exprs_of_constraint c ++ xs
    first_of (Sub x y) xs = refl
    first_of (Lit p kind) xs = refl
    first_of (Disjunction x p run) xs = refl
    first_of (Comprehension x y s) xs = refl
    first_of (Join run t) xs = refl

    here : rest_from ls z i ≡ c ∷ rest_from ls z (i + 1)
    here = rows_one_left (constraint_at ls) z.constraints i l ∙ ap (λ x. x ∷ rest_from ls z (i + 1)) (sym h)

    pub constraint_asked : Searching ws ns bs sc ls z k e (components_of c) (exprs_of_constraint c) (Solve (i + 1))
    unfolding components disjunctions
    constraint_asked =
        record {
          ready = S.ready;
          suits = S.suits;
          sized = S.sized;
          long = S.long;
          trail = S.trail;
          fine = omega (arith, l);
          measure = omega (arith, S.measure, ap components here);
          choices = S.choices ∙ (ap disjunctions here ∙ first_of c (disjunctions (rest_from ls z (i + 1))));
          few = S.few;
        }

    pub constraint_listed : ListedConstraint (lent ws ns k.lengths) P c
    unfolding problem_in
    constraint_listed =
        subst (ListedConstraint (lent ws ns k.lengths) P) (sym (h ∙ ap (constraint_at ls) (let q : i ≡ 0 + i = omega arith in q)))
        (each_row (ListedConstraint (lent ws ns k.lengths) P) (constraint_at ls) 0 z.constraints S.suits.constraints i l)

-- One constraint by its kind.
module _ (ls : List ℕ) (z : Sizes) (ws ns bs sc : List ℕ) (k : State) (e : Branch) (c : Constraint) (i : ℕ)
    (S : Searching ws ns bs sc ls z k e (components_of c) (exprs_of_constraint c) (Solve i))
    (L : ListedConstraint (lent ws ns k.lengths) (problem_in ls z) c) where
  abbrev Q : Problem
  Q = problem_in ls z

  abbrev goal : Going (Unit {0}) nothing_met Q
  goal = step (Unit {0}) nothing_met Q c (solve_from ls z i)

  abbrev U : Lent
  U = lent ws ns k.lengths

  pub kind_asked : (d : Constraint) → c ≡ d → Searching ws ns bs sc ls z k e (components_of d) (exprs_of_constraint d) (Solve i)
  kind_asked d q = subst (λ x. Searching ws ns bs sc ls z k e (components_of x) (exprs_of_constraint x) (Solve i)) q S

  listed_as : (d : Constraint) → c ≡ d → ListedConstraint U Q d
  listed_as d q = subst (ListedConstraint U Q) q L

  module _ (ws₁ ns₁ bs₁ sc₁ : List ℕ) (r : Answer) where
    pub step_sub : (x y : InferSortId) → c ≡ Sub x y → Comes ls z ws ns bs sc k e (widening (Unit {0}) nothing_met Q
        x.0 y.0 (next_of ls z (Solve i))) ws₁ ns₁ bs₁ sc₁ r
        → Comes ls z ws ns bs sc k e goal ws₁ ns₁ bs₁ sc₁ r
    unfolding step next_of
    step_sub x y q d = rw q d

    pub step_literal : (p : InferSortId) (kind : LitKind) → c ≡ Lit p kind
        → Comes ls z ws ns bs sc k e (literal (Unit {0}) nothing_met Q kind p.0 (next_of ls z (Solve i))) ws₁ ns₁ bs₁
        sc₁ r
        → Comes ls z ws ns bs sc k e goal ws₁ ns₁ bs₁ sc₁ r
    unfolding step next_of
    step_literal p kind q d = rw q d

    pub step_readings : (x y : InferSortId) (s : SortId) → c ≡ Comprehension x y s
        → Comes ls z ws ns bs sc k e (every_reading (Unit {0}) nothing_met Q (readings_from 0) x.0 y.0 s.0 false
        (next_of ls z (Solve i))) ws₁ ns₁ bs₁ sc₁ r
        → Comes ls z ws ns bs sc k e goal ws₁ ns₁ bs₁ sc₁ r
    unfolding step next_of rows_from
    step_readings x y s q d = rw q d

  -- the overloads of a disjunction, as rows
  module _ (x : ExprId) (p : InferSortId) (run : Run) (q : c ≡ Disjunction x p run) where
    pub record Rows : Type 0 where
      pub inside : run.start + run.count ≤ z.overloads
      pub place : Placed k.lengths p.0
      pub placed : (j : ℕ) → j < run.count → Placed k.lengths (overload_in Q.overloads run j).sort.0

    rows : Rows
    unfolding problem_in
    rows = go (Disjunction x p run) (listed_as (Disjunction x p run) q) refl
      where
        go : (d : Constraint) → ListedConstraint U Q d → d ≡ Disjunction x p run → Rows
        go _ (sub_listed l r a b) h = absurd (let m : ◌≡◌ {A = ℕ} 0 1 = cc in omega arith)
        go _ (lit_listed p kind a) h = absurd (let m : ◌≡◌ {A = ℕ} 0 1 = cc in omega arith)
        go _ (disjunction_listed y p' run' a l b) h =
            let i : run' ≡ run = cc in
            record {
              inside = omega (
                arith,
                subst (λ (m : Run). m.start + m.count ≤ length Q.overloads) i l,
                length_rows
                    (overload_at (drop overloads_at ls)) 0 z.overloads,
              );
              place = subst (λ (m : InferSortId). Placed k.lengths m.0) (let m : p' ≡ p = cc in m) a;
              placed = subst (λ (m : Run). (j : ℕ) → j < m.count → Placed k.lengths (overload_in Q.overloads m j).sort.0) i b;
            }
        go _ (comprehension_listed body node element a b l) h = absurd (let m : ◌≡◌ {A = ℕ} 0 1 = cc in omega arith)
        go _ (join_listed run t a l b) h = absurd (let m : ◌≡◌ {A = ℕ} 0 1 = cc in omega arith)

    pub overloads_fine : OverloadsFine U ls z p.0 run.start run.count
    unfolding problem_in
    overloads_fine =
        record {
          inside = rows.inside;
          place = rows.place;
          placed =
              λ j l. subst (λ (o : Overload). Placed k.lengths o.sort.0)
              (row_at_lem (overload_at (drop overloads_at ls)) _ z.overloads (run.start + j)
              (omega (arith, rows.inside, l)))
              (rows.placed j l);
        }

    pub step_overloads : (ws₁ ns₁ bs₁ sc₁ : List ℕ) (r : Answer)
        → Comes ls z ws ns bs sc k e (every_overload (Unit {0}) nothing_met Q x.0 p.0
        (rows_from (overload_at (drop overloads_at ls)) run.start run.count) 0 false (next_of ls z (Solve i)))
        ws₁ ns₁ bs₁ sc₁ r
        → Comes ls z ws ns bs sc k e goal ws₁ ns₁ bs₁ sc₁ r
    unfolding step next_of problem_in
    step_overloads ws₁ ns₁ bs₁ sc₁ r d = rw (q, run_at (overload_at (drop overloads_at ls)) z.overloads run.start run.count rows.inside) d

  -- the sources of a Join, as rows
  module _ (run : Run) (t : InferSortId) (q : c ≡ Join run t) where
    pub record Sources : Type 0 where
      pub inside : run.start + run.count ≤ z.sources
      pub target : Placed k.lengths t.0
      pub placed : All (PlacedIn U) (take run.count (drop run.start Q.sources))

    sources : Sources
    unfolding problem_in
    sources = go (Join run t) (listed_as (Join run t) q) refl
      where
        go : (d : Constraint) → ListedConstraint U Q d → d ≡ Join run t → Sources
        go _ (sub_listed l r a b) h = absurd (let m : ◌≡◌ {A = ℕ} 0 1 = cc in omega arith)
        go _ (lit_listed p kind a) h = absurd (let m : ◌≡◌ {A = ℕ} 0 1 = cc in omega arith)
        go _ (disjunction_listed x p run a l b) h = absurd (let m : ◌≡◌ {A = ℕ} 0 1 = cc in omega arith)
        go _ (comprehension_listed body node element a b l) h = absurd (let m : ◌≡◌ {A = ℕ} 0 1 = cc in omega arith)
        go _ (join_listed run' t' a l b) h =
            let i : run' ≡ run = cc in
            record {
              inside = omega (arith, subst (λ (m : Run). m.start + m.count ≤ length Q.sources) i l, length_rows (source_at ls) 0 z.sources);
              target = subst (λ (m : InferSortId). Placed k.lengths m.0) (let m : t' ≡ t = cc in m) a;
              placed = subst (λ (m : Run). All (PlacedIn U) (take m.count (drop m.start Q.sources))) i b;
            }

    pub sources_fine : SourcesFine U ls z t.0 run.start (run.start + run.count)
    unfolding problem_in
    sources_fine =
        record {
          ordered = omega arith;
          inside = sources.inside;
          target = sources.target;
          placed =
              subst (λ n. All (PlacedIn U) (rows_from (source_at ls) run.start n)) (let m : run.count ≡ run.start +
              run.count - run.start = omega arith in m)
              (subst (All (PlacedIn U)) (run_at (source_at ls) z.sources run.start run.count sources.inside) sources.placed);
        }

    pub step_joined : (ws₁ ns₁ bs₁ sc₁ : List ℕ) (r : Answer)
        → Comes ls z ws ns bs sc k e (joining (Unit {0}) nothing_met Q (rows_from (source_at ls) run.start
        run.count) t.0 (solve_from ls z i)) ws₁ ns₁ bs₁ sc₁ r
        → Comes ls z ws ns bs sc k e goal ws₁ ns₁ bs₁ sc₁ r
    unfolding step problem_in
    step_joined ws₁ ns₁ bs₁ sc₁ r d = rw (q, run_at (source_at ls) z.sources run.start run.count sources.inside) d
