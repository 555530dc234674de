-- The overloads of a disjunction, as its code goes: a loop, in which what is left equals the whole. By one branch after another. Assumes nothing.
use mathlib.Core.Path.{◌≡◌, refl, sym, ap, ap₂, ◌∙◌, subst}
use mathlib.Core.Bool.{Bool, false, ◌||◌}
use mathlib.Core.List.{List, [], ◌∷◌}
use Prim.Native.Nat.{ℕ, ◌+◌, ◌-◌, ◌<◌, ◌≤◌}
use native.Mathlib.Omega.{arith}
use lib.ListN.{get_or, drop}
use Rattle.unification.specs.declared.InferSortId.{InferSortId}
use Rattle.unification.specs.declared.Lengths.{Lengths}
use Rattle.unification.specs.Nodes.{binds_of}
use Rattle.unification.specs.Checked.{Placed}
use Rattle.unification.specs.Growing.{CheckedLent}
use Rattle.unification.proofs.Grows.{placed_grown}
use Rattle.inference.specs.Constraints.{Problem, rows_from, overload_at}
use Rattle.inference.specs.Search.{Path, World, Out, Going, and_also, says, unifying, every_overload, with_choice}
use Rattle.inference.specs.SolveEntry.{nothing_met}
use Rattle.inference.specs.Inner.Listed.{SortsOnly}
use Rattle.inference.proofs.Invariant.{sorts_only_refl, sorts_only_trans}
use Rattle.search_state.specs.declared.Sizes.{Sizes}
use Rattle.search_state.specs.Inner.States.{State}
use Rattle.search_state.specs.declared.Branch.{Branch}
use Rattle.search_state.specs.Inner.States.{Answer}
use Rattle.search_state.specs.Inner.States.{Full}
use Rattle.search_state.specs.declared.Next.{Next}
use lib.Seq.{get_or-drop}
use Rattle.resolved_sort.specs.declared.Run.{Run}
use Rattle.inference.specs.declared.ExprId.{ExprId}
use Rattle.search_state.specs.declared.Pairs.TheVariants.{One}
use Rattle.search_state.specs.declared.Step.TheVariants.{Choice}
use Rattle.search_state.specs.Inner.Memory.{overloads_at, problem_in, chosen_exprs, path_of, world_of, next_of}
use Rattle.search_state.specs.Inner.Leaves.{unify_pairs, PairsPlaced, path_after, says_of}
use Rattle.search_state.specs.Inner.Searching.{Searching, SamePath, Done, Comes, trying}
use Rattle.search_state.proofs.Parts.{same_path_refl, same_path_trans}
use Rattle.search_state.proofs.After.{searching_grown, done_as, done_after, same_path, and_stops, and_goes_on, grown_on}
use Rattle.solver.specs.Inner.Asked.{OverloadsFine}
use Rattle.solver.proofs.Readings.{says_so}
use Rattle.inference.proofs.Members.{run_one_left}
use Rattle.unification.specs.Inner.Making.{lent}

-- the expression of the next choice
pub next_expr : (ls : List ℕ) (z : Sizes) (ws ns bs sc : List ℕ) (k : State) (e : Branch) (x : ℕ) (next : Next)
    → Searching ws ns bs sc ls z k e 0 (x ∷ []) next → get_or (chosen_exprs ls z) e.choices 0 ≡ x
next_expr ls z ws ns bs sc k e x next S =
    ap (λ n. get_or (chosen_exprs ls z) n 0) (let q : e.choices ≡ e.choices + 0 = omega arith in q)
    ∙ (sym (get_or-drop e.choices (chosen_exprs ls z) 0 0) ∙ ap (λ xs. get_or xs 0 0) S.choices)

module _ (ls : List ℕ) (z : Sizes) (ws₀ ns₀ bs₀ sc₀ : List ℕ) (k₀ : State) (e : Branch) (x : ExprId) (p : InferSortId) (run : Run) (next : Next) where
  abbrev P : Problem
  P = problem_in ls z

  abbrev path : Path
  path = path_of ls z (binds_of bs₀ k₀.lengths.variables) sc₀ e

  abbrev place : ℕ → ℕ
  place j = (overload_at (drop overloads_at ls) j).sort.0

  -- the overloads from the i-th on
  abbrev from : ℕ → Bool → Going (Unit {0}) nothing_met P
  from i b = every_overload (Unit {0}) nothing_met P x.0 p.0 (rows_from (overload_at (drop overloads_at ls))
      (run.start + i) (run.count - i)) i b (next_of ls z next)

  abbrev goal : Going (Unit {0}) nothing_met P
  goal = every_overload (Unit {0}) nothing_met P x.0 p.0 (rows_from (overload_at (drop overloads_at ls)) run.start run.count) 0 false (next_of ls z next)

  pub record GoingOn (ws ns bs sc : List ℕ) (k : State) (i : ℕ) (b : Bool) : Type 0 where
    pub checked : CheckedLent (lent ws₀ ns₀ k₀.lengths)
    pub searching : Searching ws ns bs sc ls z k e 0 (x.0 ∷ []) next
    pub fine : OverloadsFine (lent ws ns k.lengths) ls z p.0 run.start run.count
    pub few : i ≤ run.count
    pub only : SortsOnly (lent ws₀ ns₀ k₀.lengths) (lent ws ns k.lengths)
    pub binds : bs ≡ bs₀
    pub path : SamePath e sc₀ sc
    pub left : from i b (path_of ls z (binds_of bs₀ k₀.lengths.variables) sc₀ e) (world_of ls z ws ns sc k) ≡ goal
        (path_of ls z (binds_of bs₀ k₀.lengths.variables) sc₀ e) (world_of ls z ws₀ ns₀ sc₀ k₀)

  pub overloads_begin : Searching ws₀ ns₀ bs₀ sc₀ ls z k₀ e 0 (x.0 ∷ []) next
      → OverloadsFine (lent ws₀ ns₀ k₀.lengths) ls z p.0 run.start run.count
      → GoingOn ws₀ ns₀ bs₀ sc₀ k₀ 0 false
  overloads_begin S f =
      record {
        checked = S.ready.nodes;
        searching = S;
        fine = f;
        few = omega arith;
        only = sorts_only_refl (lent ws₀ ns₀ k₀.lengths) S.ready.nodes;
        binds = refl;
        path = same_path_refl e sc₀;
        left =
            ap₂ (λ s n. every_overload (Unit {0}) nothing_met P x.0 p.0
            (rows_from (overload_at (drop overloads_at ls)) s n) 0 false (next_of ls z next) path
            (world_of ls z ws₀ ns₀ sc₀ k₀))
            (let q : run.start + 0 ≡ run.start = omega arith in q) (let q : run.count - 0 ≡ run.count = omega arith in q);
      }

  module _ (ws ns bs sc : List ℕ) (k : State) (i : ℕ) (b : Bool) (G : GoingOn ws ns bs sc k i b) where
    -- what is done from here is done from the start
    from_start : (O : Out (Unit {0})) → O ≡ from i b path (world_of ls z ws ns sc k)
        → (ws₂ ns₂ bs₂ sc₂ : List ℕ) (r : Answer) → Done ls z ws ns bs sc k e O ws₂ ns₂ bs₂ sc₂ r
        → Comes ls z ws₀ ns₀ bs₀ sc₀ k₀ e goal ws₂ ns₂ bs₂ sc₂ r
    from_start O q ws₂ ns₂ bs₂ sc₂ r d =
        done_as ls z ws₀ ns₀ bs₀ sc₀ k₀ e G.checked O (goal path (world_of ls z ws₀ ns₀ sc₀ k₀)) ws₂ ns₂ bs₂ sc₂ r (q ∙ G.left)
        (done_after ls z ws₀ ns₀ bs₀ sc₀ k₀ e G.checked ws ns bs sc k G.only G.binds G.path O ws₂ ns₂ bs₂ sc₂ r d)

    pub overloads_end : run.count ≤ i → (r : Answer) → r ≡ says_of b k → Comes ls z ws₀ ns₀ bs₀ sc₀ k₀ e goal ws ns bs sc r
    unfolding every_overload rows_from
    overloads_end l r q =
        from_start (says b (world_of ls z ws ns sc k))
        (sym (ap (λ n. every_overload (Unit {0}) nothing_met P x.0 p.0
        (rows_from (overload_at (drop overloads_at ls)) (run.start + i) n) i b (next_of ls z next) path
        (world_of ls z ws ns sc k))
        (let y : run.count - i ≡ 0 = omega (arith, l) in y))) ws ns bs sc r (says_so ls z ws ns bs sc k e G.searching.ready.nodes b r q)

    module _ (l : i < run.count) (o : InferSortId) (v : o.0 ≡ place (run.start + i)) where
      pub overload_placed : PairsPlaced k.lengths (One p o)
      overload_placed = (G.fine.place, subst (Placed k.lengths) (sym v) (G.fine.placed i l))

      pub overload_asked : Searching ws ns bs sc ls z k e 0 (get_or (chosen_exprs ls z) e.choices 0 ∷ []) next
      overload_asked = subst (λ y. Searching ws ns bs sc ls z k e 0 (y ∷ []) next)
          (sym (next_expr ls z ws ns bs sc k e x.0 next G.searching)) G.searching

      module _ (ws₂ ns₂ bs₂ sc₂ : List ℕ) (r : Answer) (d : Comes ls z ws ns bs sc k e (trying ls z sc e (One p o)
          (Choice i) next) ws₂ ns₂ bs₂ sc₂ r) where
        abbrev path₁ : Path
        path₁ = path_of ls z (binds_of bs k.lengths.variables) sc e

        abbrev w₁ : World (Unit {0})
        w₁ = world_of ls z ws ns sc k

        same : path₁ ≡ path
        same = same_path ls z ws₀ ns₀ bs₀ sc₀ k₀ e G.checked ws ns bs sc k G.only G.binds G.path

        abbrev first : Out (Unit {0})
        first = trying ls z sc e (One p o) (Choice i) next path₁ w₁

        to_and : and_also first b (λ b. from (i + 1) b path) ≡ from i b path w₁
        unfolding trying unify_pairs unifying path_after every_overload
        to_and =
            ap₂ (λ n u. and_also (unifying path₁.binds p.0 n (λ C. next_of ls z next (with_choice path₁ u i C)) w₁)
            b (λ b. from (i + 1) b path)) v (next_expr ls z ws ns bs sc k e x.0 next G.searching)
            ∙ (ap (λ q. and_also (unifying q.binds p.0 (place (run.start + i)) (λ C. next_of ls z next
            (with_choice q x.0 i C)) w₁) b (λ b. from (i + 1) b path)) same
            ∙ sym (ap (λ os. every_overload (Unit {0}) nothing_met P x.0 p.0 os i b (next_of ls z next) path w₁)
            (run_one_left (overload_at (drop overloads_at ls)) run.start run.count i l)))

        pub overloads_stop : (c : ℕ) (n : Lengths) → r ≡ Full c n → Comes ls z ws₀ ns₀ bs₀ sc₀ k₀ e goal ws₂ ns₂ bs₂ sc₂ r
        overloads_stop c n h =
            from_start (and_also first b (λ b. from (i + 1) b path)) to_and ws₂ ns₂ bs₂ sc₂ r
            (and_stops ls z ws ns bs sc k e G.searching.ready.nodes first ws₂ ns₂ bs₂ sc₂ r d b (λ b. from (i + 1) b path) c n h)

        pub overloads_on : (y : Bool) (k₂ : State) → r ≡ says_of y k₂ → GoingOn ws₂ ns₂ bs₂ sc₂ k₂ (i + 1) (b || y)
        overloads_on y k₂ h =
            let only₂ = grown_on ls z ws ns bs sc k e G.searching.ready.nodes first ws₂ ns₂ bs₂ sc₂ r d y k₂ h in
            let up : (q : ℕ) → Placed k.lengths q → Placed k₂.lengths q =
            placed_grown (lent ws ns k.lengths) G.searching.ready.nodes (lent ws₂ ns₂ k₂.lengths) only₂.grows in
            record {
              checked = G.checked;
              searching = searching_grown ls z ws ns bs sc k e 0 (x.0 ∷ []) next G.searching ws₂ ns₂ bs₂ sc₂ k₂ only₂.grows d.binds d.path.long;
              fine = record { inside = G.fine.inside; place = up p.0 G.fine.place; placed = λ j m. up _ (G.fine.placed j m) };
              few = omega (arith, l);
              only = sorts_only_trans (lent ws₀ ns₀ k₀.lengths) (lent ws ns k.lengths) (lent ws₂ ns₂ k₂.lengths) G.checked G.only only₂;
              binds = d.binds ∙ G.binds;
              path = same_path_trans e sc₀ sc sc₂ G.path d.path;
              left =
                  and_goes_on ls z ws ns bs sc k e G.searching.ready.nodes first ws₂ ns₂ bs₂ sc₂ r d b
                  (λ b. from (i + 1) b path) y k₂ h ∙ (to_and ∙ G.left);
            }

-- The expression of the disjunction is that of the next choice.
module _ (ls : List ℕ) (z : Sizes) (ws ns bs sc : List ℕ) (k : State) (e : Branch) (x : ExprId) (p : InferSortId)
    (run : Run) (next : Next) (S : Searching ws ns bs sc ls z k e 0 (x.0 ∷ []) next) where
  abbrev next_choice : ExprId
  next_choice = record { 0 = get_or (chosen_exprs ls z) e.choices 0 }

  pub overloads_begin_here : OverloadsFine (lent ws ns k.lengths) ls z p.0 run.start run.count
      → GoingOn ls z ws ns bs sc k e next_choice p run next ws ns bs sc k 0 false
  overloads_begin_here f =
      overloads_begin ls z ws ns bs sc k e next_choice p run next (subst (λ y. Searching ws ns bs sc ls z k e 0
      (y ∷ []) next) (sym (next_expr ls z ws ns bs sc k e x.0 next S)) S) f

  pub for_its_expr : (ws' ns' bs' sc' : List ℕ) (r : Answer) → Comes ls z ws ns bs sc k e (goal ls z ws ns bs sc k e next_choice p run next) ws' ns' bs' sc' r
      → Comes ls z ws ns bs sc k e (goal ls z ws ns bs sc k e x p run next) ws' ns' bs' sc' r
  for_its_expr ws' ns' bs' sc' r d =
      subst (λ y. Comes ls z ws ns bs sc k e (goal ls z ws ns bs sc k e (record { 0 = y }) p run next) ws' ns' bs' sc'
      r) (next_expr ls z ws ns bs sc k e x.0 next S) d
