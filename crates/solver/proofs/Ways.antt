-- What the search comes to at each way through its code, as the code meets it: each premise is what a callee ensures, what a test says or what a match
-- binds. By the laws of one branch after another. Assumes nothing.
use mathlib.Core.Path.{◌≡◌, sym, ap, ap₂, ◌∙◌, subst}
use mathlib.Core.List.{List, [], ◌∷◌}
use Prim.Native.Nat.{ℕ, ◌+◌, ◌-◌, ◌*◌, ◌<◌, ◌≤◌}
use native.Mathlib.Omega.{arith}
use Rattle.unification.specs.declared.InferSortId.{InferSortId}
use Rattle.unification.specs.declared.Lengths.{Lengths}
use borrow.Author.Tests.{lt-ltb}
use Rattle.resolved_sort.specs.Storage.{max_sorts}
use Rattle.unification.specs.Nodes.{is_place, binds_of}
use Rattle.unification.specs.Checked.{Placed}
use Rattle.unification.specs.Making.{graph}
use Rattle.unification.specs.Inner.Making.{lent}
use Rattle.unification.specs.Growing.{Grows}
use Rattle.unification.proofs.Grows.{placed_grown}
use Rattle.inference.specs.Constraints.{rows_from, Problem}
use Rattle.inference.specs.Search.{Path, World, Out, Try, Going, else_try, unifying, on_yes, first_found, sequence}
use Rattle.inference.specs.SolveEntry.{nothing_met}
use Rattle.inference.specs.Typing.{none_left, and_all}
use Rattle.search_state.specs.declared.Sizes.{Sizes}
use Rattle.search_state.specs.Inner.States.{State}
use Rattle.search_state.specs.declared.Branch.{Branch}
use Rattle.search_state.specs.Inner.States.{Answer}
use Rattle.search_state.specs.Inner.States.{Missed}
use Rattle.search_state.specs.declared.Next.{Next}
use Rattle.search_state.specs.declared.Next.TheVariants.{Solve, Source}
use Rattle.search_state.specs.declared.Pairs.{Pairs}
use Rattle.search_state.specs.declared.Step.TheVariants.{Component}
use Rattle.search_state.specs.declared.Tries.{Tries}
use Rattle.search_state.specs.Inner.Memory.{problem_in, path_of, world_of, solve_from, next_of, source_at}
use Rattle.search_state.specs.Inner.Leaves.{unify_pairs, PairsPlaced, path_after, try_at, tries_from}
use Rattle.search_state.specs.Inner.Searching.{Searching, Done, Comes, trying}
use Rattle.search_state.proofs.After.{searching_grown, misses, done_as, grown_missed, or_stops, or_comes}
use Rattle.search_state.specs.Inner.Placed.{TryPlaced, TriesPlaced}
use Rattle.search_steps.specs.Inner.Steps.{pairs_of}
use Rattle.solver.specs.Inner.Asked.{TriesFine}
use Rattle.inference.proofs.Members.{rows_one_left, rows_none_left}

-- the work left, above what any single constraint can take
abbrev pub work : ℕ → Next → ℕ
work c (Solve i) = (c - i) * 10000000000
work c (Source t j n i) = (c - i) * 10000000000 + 1 + 70000 * (n - j)

-- what comes next, by its kind
module _ (ls : List ℕ) (z : Sizes) (ws ns bs sc : List ℕ) (k : State) (e : Branch) (next : Next) where
  module _ (ws' ns' bs' sc' : List ℕ) (r : Answer) where
    pub next_solve : (i : ℕ) → next ≡ Solve i → Comes ls z ws ns bs sc k e (solve_from ls z i) ws' ns' bs' sc' r
        → Comes ls z ws ns bs sc k e (next_of ls z next) ws' ns' bs' sc' r
    unfolding next_of
    next_solve i q d = rw q d

    pub next_source : (t : InferSortId) (j n i : ℕ) → next ≡ Source t j n i
        → Comes ls z ws ns bs sc k e (sequence (Unit {0}) nothing_met (problem_in ls z) (rows_from (source_at ls) j
        (n - j)) t.0 (solve_from ls z i)) ws' ns' bs' sc' r
        → Comes ls z ws ns bs sc k e (next_of ls z next) ws' ns' bs' sc' r
    unfolding next_of
    next_source t j n i q d = rw q d

-- Tries in order.
module _ (ls : List ℕ) (z : Sizes) (ws ns bs sc : List ℕ) (k : State) (e : Branch) (t : Tries) (j : ℕ) (next : Next)
    (S : Searching ws ns bs sc ls z k e 1 [] next) (F : TriesFine (lent ws ns k.lengths) t j) where
  abbrev P : Problem
  P = problem_in ls z

  abbrev path : Path
  path = path_of ls z (binds_of bs k.lengths.variables) sc e

  abbrev goal : Going (Unit {0}) nothing_met P
  goal = first_found (Unit {0}) nothing_met P (tries_from t j) (next_of ls z next)

  pub tries_done : t.count ≤ j → Comes ls z ws ns bs sc k e goal ws ns bs sc (Missed k)
  unfolding first_found
  tries_done l = done_as ls z ws ns bs sc k e S.ready.nodes _ _ ws ns bs sc (Missed k)
      (sym (ap (λ ts. first_found (Unit {0}) nothing_met P ts (next_of ls z next) path (world_of ls z ws ns sc k))
      (rows_none_left (try_at t) t.count j l)))
      (misses ls z ws ns bs sc k e S.ready.nodes)

  module _ (l : j < t.count) (pairs : Pairs) (q : pairs ≡ pairs_of (try_at t j)) (g : ℕ) (h : g ≡ (try_at t j).component) where
    first_placed : (ts : List Try) → tries_from t j ≡ try_at t j ∷ ts → TriesPlaced (lent ws ns k.lengths) (tries_from t j)
        → TryPlaced (lent ws ns k.lengths) (try_at t j) × TriesPlaced (lent ws ns k.lengths) ts
    first_placed ts i a = both (subst (TriesPlaced (lent ws ns k.lengths)) i a)
      where
        both : TriesPlaced (lent ws ns k.lengths) (try_at t j ∷ ts) → TryPlaced (lent ws ns k.lengths)
            (try_at t j) × TriesPlaced (lent ws ns k.lengths) ts
        both (and_all _ _ x y) = (x, y)

    placed_here : TryPlaced (lent ws ns k.lengths) (try_at t j) × TriesPlaced (lent ws ns k.lengths) (tries_from t (j + 1))
    placed_here = first_placed (tries_from t (j + 1)) (rows_one_left (try_at t) t.count j l) F.placed

    pub try_placed : PairsPlaced k.lengths pairs
    try_placed = subst (PairsPlaced k.lengths) (sym q) placed_here.0

    module _ (ws₁ ns₁ bs₁ sc₁ : List ℕ) (r : Answer) (d : Comes ls z ws ns bs sc k e (trying ls z sc e pairs (Component g) next) ws₁ ns₁ bs₁ sc₁ r) where
      abbrev w : World (Unit {0})
      w = world_of ls z ws ns sc k

      abbrev first : Out (Unit {0})
      first = trying ls z sc e pairs (Component g) next path w

      to_or : else_try first (first_found (Unit {0}) nothing_met P (tries_from t (j + 1)) (next_of ls z next) path) ≡ goal path w
      unfolding first_found trying unify_pairs unifying path_after
      to_or =
          ap₂ (λ p c. else_try (on_yes (unify_pairs (graph (lent ws ns k.lengths)) p
          (binds_of bs k.lengths.variables)) (λ C. next_of ls z next (path_after ls z sc e (Component c) C)) w)
          (first_found (Unit {0}) nothing_met P (tries_from t (j + 1)) (next_of ls z next) path)) q h
          ∙ sym (ap (λ ts. first_found (Unit {0}) nothing_met P ts (next_of ls z next) path w) (rows_one_left (try_at t) t.count j l))

      pub tries_stop : ((s : State) → r ≡ Missed s → ⊥) → Comes ls z ws ns bs sc k e goal ws₁ ns₁ bs₁ sc₁ r
      tries_stop n = done_as ls z ws ns bs sc k e S.ready.nodes _ _ ws₁ ns₁ bs₁ sc₁ r to_or (or_stops ls z ws ns
          bs sc k e S.ready.nodes first ws₁ ns₁ bs₁ sc₁ r d _ n)

      pub tries_fine : (k₁ : State) → r ≡ Missed k₁ → TriesFine (lent ws₁ ns₁ k₁.lengths) t (j + 1)
      tries_fine k₁ x = record { few = F.few; first = F.first; placed = all_grown (tries_from t (j + 1)) placed_here.1 }
        where
          grown : Grows (lent ws ns k.lengths) (lent ws₁ ns₁ k₁.lengths)
          grown = (grown_missed ls z ws ns bs sc k e S.ready.nodes first ws₁ ns₁ bs₁ sc₁ r d k₁ x).grows

          all_grown : (ts : List Try) → TriesPlaced (lent ws ns k.lengths) ts → TriesPlaced (lent ws₁ ns₁ k₁.lengths) ts
          all_grown _ none_left = none_left
          all_grown _ (and_all u us a rest) =
              and_all u us (
                placed_grown _ S.ready.nodes _ grown u.left a.0,
                placed_grown _
                    S.ready.nodes _ grown u.right a.1,
              ) (all_grown us rest)

      pub tries_next : (k₁ : State) → r ≡ Missed k₁ → (ws₂ ns₂ bs₂ sc₂ : List ℕ) (r₂ : Answer)
          → Comes ls z ws₁ ns₁ bs₁ sc₁ k₁ e (first_found (Unit {0}) nothing_met P (tries_from t (j + 1)) (next_of ls z next)) ws₂ ns₂ bs₂ sc₂ r₂
          → Comes ls z ws ns bs sc k e goal ws₂ ns₂ bs₂ sc₂ r₂
      tries_next k₁ x ws₂ ns₂ bs₂ sc₂ r₂ y =
          done_as ls z ws ns bs sc k e S.ready.nodes _ _ ws₂ ns₂ bs₂ sc₂ r₂ to_or
          (or_comes ls z ws ns bs sc k e S.ready.nodes first ws₁ ns₁ bs₁ sc₁ r d (first_found (Unit {0}) nothing_met
          P (tries_from t (j + 1)) (next_of ls z next)) k₁ x ws₂ ns₂ bs₂ sc₂ r₂ y)

-- what is asked for after a first part that missed
pub after_missed : (ls : List ℕ) (z : Sizes) (ws ns bs sc : List ℕ) (k : State) (e : Branch) (more : ℕ) (xs : List ℕ)
    (next : Next) → Searching ws ns bs sc ls z k e more xs next
    → (O : Out (Unit {0})) (ws₁ ns₁ bs₁ sc₁ : List ℕ) (r : Answer) → Done ls z ws ns bs sc k e O ws₁ ns₁ bs₁ sc₁ r → (k₁ : State) → r ≡ Missed k₁
    → Searching ws₁ ns₁ bs₁ sc₁ ls z k₁ e more xs next
after_missed ls z ws ns bs sc k e more xs next s O ws₁ ns₁ bs₁ sc₁ r d k₁ q =
    searching_grown ls z ws ns bs sc k e more xs next s ws₁ ns₁ bs₁ sc₁ k₁ (grown_missed ls z ws ns bs sc k e
    s.ready.nodes O ws₁ ns₁ bs₁ sc₁ r d k₁ q).grows d.binds d.path.long

-- the fixed sorts, and every sort of the list, are places
pub sort_placed : (k : Lengths) → k.sorts ≤ max_sorts → (p : ℕ) → p < k.sorts → Placed k p
unfolding is_place
sort_placed k l p h = rw (lt-ltb p max_sorts (omega (arith, l, h)), lt-ltb p k.sorts h)

pub fixed_placed : (k : Lengths) → 6 ≤ k.sorts → (p : ℕ) → p < 6 → Placed k p
unfolding is_place
fixed_placed k l p h = rw (lt-ltb p max_sorts (omega (arith, h)), lt-ltb p k.sorts (omega (arith, l, h)))
