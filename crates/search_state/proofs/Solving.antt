-- What is asked for and left of a problem that stayed as it was is asked for and left of the problem before. Assumes nothing.
use mathlib.Core.Path.{◌≡◌, refl, sym, ap, subst, ◌∙◌}
use mathlib.Core.Bool.{Bool, true, false}
use native.Mathlib.Omega.{arith}
use mathlib.Core.List.{List}
use Prim.Native.Nat.{ℕ}
use Rattle.std.specs.Prelude.{Option, Some, None, Result, Ok, Err}
use Rattle.resolved_sort.specs.declared.NoRoom.{NoRoom}
use Rattle.resolved_sort.specs.Index.{Indexed}
use Rattle.std.specs.Result.{IsErr, IsErrAnd}
use Rattle.unification.specs.declared.Lengths.{Lengths}
use Rattle.unification.specs.declared.Full.{Full}
use Rattle.unification.specs.declared.Full.TheVariants.{Sorts}
use Rattle.search_state.specs.declared.Search.{Search}
use Rattle.search_state.specs.Inner.States.{State}
use Rattle.search_state.specs.declared.Branch.{Branch}
use Rattle.search_state.specs.Inner.States.{Missed}
use Rattle.search_state.specs.declared.Next.{Next}
use Rattle.search_state.specs.declared.Pairs.{Pairs}
use Rattle.search_state.specs.declared.Step.{Step}
use Rattle.search_state.specs.Inner.Leaves.{with_lengths, with_nodes}
use Rattle.search_state.specs.Inner.Searching.{Searching as SearchingIn, Comes as ComesIn, trying}
use Rattle.search_state.specs.Inner.Solving.{Given, Kept, Lists, Stays, OnlySorts, SameProblem, KeepsRest, OnlyBinds, has_best, is_tied, state_of, answer_of}
use Rattle.search_state.specs.Inner.Solving.{Searching, Goes, Comes, Indexes, IndexesOn}

-- From one struct to another: what is asked for of it, and what it comes to, by what stayed as it was.
module _ (s t : Search) (e : Branch) where
  -- the problem
  module _ (p : SameProblem s t) where
    pub asked_on : (more : ℕ) (xs : List ℕ) (next : Next)
        → SearchingIn t.sorts.now t.nodes.now t.binds.now t.scratch.now s.lists.now s.sizes (state_of t) e more xs next
        → Searching t e more xs next
    asked_on more xs next a =
        subst (λ (g : Given). SearchingIn t.sorts.now t.nodes.now t.binds.now t.scratch.now g.lists g.sizes (state_of t) e more xs next) (sym p) a

    pub comes_on : (g : Goes) (u : Search) (r : Result Bool Full) → Comes t e g u r
        → ComesIn s.lists.now s.sizes t.sorts.now t.nodes.now t.binds.now t.scratch.now (state_of t) e (g s.lists.now s.sizes)
        u.sorts.now u.nodes.now u.binds.now u.scratch.now (answer_of (state_of u) r)
    comes_on g u r d =
        subst (λ (x : Given). ComesIn x.lists x.sizes t.sorts.now t.nodes.now t.binds.now t.scratch.now (state_of t) e (g x.lists x.sizes)
        u.sorts.now u.nodes.now u.binds.now u.scratch.now (answer_of (state_of u) r)) p d.comes

    pub same_on : (u : Search) → SameProblem t u → SameProblem s u
    same_on u q = q ∙ p

  -- the problem, the bindings and the incumbent
  module _ (p : KeepsRest s t) where
    pub state_kept : state_of t ≡ with_lengths (state_of s) t.lengths
    state_kept = ap (λ (k : Kept). record { lengths = t.lengths; best = has_best k.best; tied = is_tied k.best }) p

    pub problem_kept : SameProblem s t
    problem_kept = ap (λ (k : Kept). k.given) p

    pub asked_kept : (more : ℕ) (xs : List ℕ) (next : Next)
        → SearchingIn t.sorts.now t.nodes.now s.binds.now t.scratch.now s.lists.now s.sizes (state_of t) e more xs next
        → Searching t e more xs next
    asked_kept more xs next a =
        subst (λ (k : Kept). SearchingIn t.sorts.now t.nodes.now k.binds t.scratch.now k.given.lists k.given.sizes (state_of t) e more xs next) (sym p) a

    pub comes_kept : (g : Goes) (u : Search) (r : Result Bool Full) → Comes t e g u r
        → ComesIn s.lists.now s.sizes t.sorts.now t.nodes.now s.binds.now t.scratch.now (state_of t) e (g s.lists.now s.sizes)
        u.sorts.now u.nodes.now u.binds.now u.scratch.now (answer_of (state_of u) r)
    comes_kept g u r d =
        subst (λ (k : Kept). ComesIn k.given.lists k.given.sizes t.sorts.now t.nodes.now k.binds t.scratch.now (state_of t) e
        (g k.given.lists k.given.sizes) u.sorts.now u.nodes.now u.binds.now u.scratch.now (answer_of (state_of u) r)) p d.comes

  -- all but the bindings and the scratch
  module _ (p : OnlyBinds s t) where
    pub asked_bound : (more : ℕ) (xs : List ℕ) (next : Next)
        → SearchingIn s.sorts.now s.nodes.now t.binds.now t.scratch.now s.lists.now s.sizes (state_of s) e more xs next
        → Searching t e more xs next
    asked_bound more xs next a =
        subst (λ (l : Lists). SearchingIn l.sorts l.nodes t.binds.now t.scratch.now l.given.lists l.given.sizes
        (record { lengths = l.lengths; best = has_best l.best; tied = is_tied l.best }) e more xs next) (sym p) a

    pub comes_bound : (g : Goes) (u : Search) (r : Result Bool Full) → Comes t e g u r
        → ComesIn s.lists.now s.sizes s.sorts.now s.nodes.now t.binds.now t.scratch.now (state_of s) e (g s.lists.now s.sizes)
        u.sorts.now u.nodes.now u.binds.now u.scratch.now (answer_of (state_of u) r)
    comes_bound g u r d =
        subst (λ (l : Lists). ComesIn l.given.lists l.given.sizes l.sorts l.nodes t.binds.now t.scratch.now
        (record { lengths = l.lengths; best = has_best l.best; tied = is_tied l.best }) e (g l.given.lists l.given.sizes)
        u.sorts.now u.nodes.now u.binds.now u.scratch.now (answer_of (state_of u) r)) p d.comes

  -- all but the sorts
  module _ (p : OnlySorts s t) where
    pub kept_sorts : KeepsRest s t
    kept_sorts = ap (λ (x : Stays). x.kept) p

    pub tried_sorts : (pairs : Pairs) (step : Step) (next : Next) (u : Search) (r : Result Bool Full)
        → Comes t e (λ ls z. trying ls z t.scratch.now e pairs step next) u r
        → ComesIn s.lists.now s.sizes t.sorts.now s.nodes.now s.binds.now s.scratch.now (state_of t) e
        (trying s.lists.now s.sizes s.scratch.now e pairs step next) u.sorts.now u.nodes.now u.binds.now u.scratch.now (answer_of (state_of u) r)
    tried_sorts pairs step next u r d =
        subst (λ (x : Stays). ComesIn x.kept.given.lists x.kept.given.sizes t.sorts.now x.nodes x.kept.binds x.scratch (state_of t) e
        (trying x.kept.given.lists x.kept.given.sizes x.scratch e pairs step next) u.sorts.now u.nodes.now u.binds.now u.scratch.now
        (answer_of (state_of u) r)) p d.comes

-- What keeps the lists keeps their index,
module _ (s t : Search) (p : OnlyBinds s t) where
  pub index_bound : Indexes s → Indexes t
  index_bound i = subst (λ (l : Lists). Indexed l.sorts l.lengths.sorts l.index) (sym p) i

  pub index_bound_on : {A E : Type 0} (r : Result A E) → IndexesOn r s → IndexesOn r t
  index_bound_on (Ok a) i = index_bound i
  index_bound_on (Err e) i = i

-- and nodes given back are no sorts.
pub index_given_back : (ws ix : List ℕ) (kept k n : Lengths) → n ≡ with_nodes kept k → Indexed ws k.sorts ix → Indexed ws n.sorts ix
index_given_back ws ix kept k n e i = subst (λ (l : Lengths). Indexed ws l.sorts ix) (sym e) i

-- an answer of a leaf, or of room that ended, is no miss
pub found_not_missed : (k : State) (r : Result Bool Full) → r ≡ Ok true → (y : State) → answer_of k r ≡ Missed y → ⊥
found_not_missed k (Ok true) q y h = let z : ◌≡◌ {A = ℕ} 0 1 = cc in omega arith
found_not_missed k (Ok false) q y h = let z : ◌≡◌ {A = ℕ} 0 1 = cc in omega arith
found_not_missed k (Err f) q y h = let z : ◌≡◌ {A = ℕ} 0 1 = cc in omega arith

pub ended_not_missed : (k : State) (r : Result Bool Full) (f : Full) → r ≡ Err f → (y : State) → answer_of k r ≡ Missed y → ⊥
ended_not_missed k (Ok true) f q y h = let z : ◌≡◌ {A = ℕ} 0 1 = cc in omega arith
ended_not_missed k (Ok false) f q y h = let z : ◌≡◌ {A = ℕ} 0 1 = cc in omega arith
ended_not_missed k (Err g) f q y h = let z : ◌≡◌ {A = ℕ} 0 1 = cc in omega arith

-- where a new sort has no room, a conversion says so
pub no_sort_room : {A : Type 0} (r : Result A Full) → IsErr r × IsErrAnd r (λ (f : Full). f ≡ Sorts) → r ≡ Err Sorts
no_sort_room (Ok a) h = absurd h.1
no_sort_room (Err f) h = ap Err h.1

pub no_room : {A : Type 0} (r : Result A NoRoom) (P : NoRoom → Type 0) → IsErr r × IsErrAnd r P → (x : NoRoom) → r ≡ Err x
no_room (Ok a) P h x = absurd h.1
no_room (Err y) P h x = refl

-- what is not there is none
pub not_some : {A : Type 0} (o : Option A) → ((x : A) → o ≡ Some x → ⊥) → o ≡ None
not_some None n = refl
not_some (Some x) n = absurd (n x refl)

-- an error that is passed on
pub same_error : {A E : Type 0} (r : Result A E) (f : E) → IsErr r × IsErrAnd r (λ (e : E). e ≡ f) → r ≡ Err f
same_error (Ok a) f h = absurd h.1
same_error (Err e) f h = ap Err h.1
