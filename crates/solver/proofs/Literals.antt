-- A literal, as its code goes: at a number sort on with its component, at a free place its tries, else it missed. By what stands at its place. Assumes
-- nothing.
use mathlib.Core.Path.{◌≡◌, sym, ap, ◌∙◌, subst}
use mathlib.Core.List.{List, []}
use Prim.Native.Nat.{ℕ}
use native.Mathlib.Omega.{arith}
use Rattle.unification.specs.declared.InferSortId.{InferSortId}
use Rattle.unification.specs.Nodes.{binds_of}
use Rattle.unification.specs.Checked.{Placed}
use Rattle.unification.specs.Making.{graph}
use Rattle.unification.specs.Inner.Making.{lent}
use Rattle.inference.specs.Constraints.{Problem}
use Rattle.inference.specs.Search.{Path, World, Going, first_found, literal, lit_tries, from_nat}
use Rattle.inference.specs.SolveEntry.{nothing_met}
use Rattle.inference.specs.Typing.{none_left, and_all}
use Rattle.search_state.specs.declared.Sizes.{Sizes}
use Rattle.search_state.specs.Inner.States.{State}
use Rattle.search_state.specs.declared.Branch.{Branch}
use Rattle.search_state.specs.Inner.States.{Answer}
use Rattle.search_state.specs.Inner.States.{Missed}
use Rattle.search_state.specs.declared.Next.{Next}
use Rattle.inference.specs.declared.LitKind.{LitKind}
use Rattle.inference.specs.declared.LitKind.TheVariants.{Positive, Natural}
use Rattle.search_state.specs.declared.LitAt.{LitAt}
use Rattle.search_state.specs.declared.LitAt.TheVariants.{Number, Free, Other}
use Rattle.search_state.specs.declared.Step.TheVariants.{Component}
use Rattle.search_state.specs.declared.Tries.{Tries}
use Rattle.search_state.specs.Inner.Memory.{problem_in, path_of, world_of, next_of}
use Rattle.search_state.specs.Inner.Leaves.{step_words, branch_after, path_after, tries_from, lit_at}
use Rattle.search_state.specs.Inner.Searching.{Searching, Comes}
use Rattle.search_state.proofs.After.{misses, done_as}
use Rattle.search_state.proofs.Ways.{literal_by, literal_by_what_stands}
use Rattle.search_state.specs.Inner.Placed.{TriesPlaced}
use Rattle.search_steps.specs.Inner.Steps.{LitTries}
use Rattle.search_steps.proofs.Attempt.{went_with}
use Rattle.solver.specs.Inner.Asked.{TriesFine}
use Rattle.solver.proofs.Ways.{fixed_placed}

module _ (ls : List ℕ) (z : Sizes) (ws ns bs sc : List ℕ) (k : State) (e : Branch) (p : InferSortId) (kind : LitKind)
    (next : Next) (S : Searching ws ns bs sc ls z k e 1 [] next)
    (h : Placed k.lengths p.0) (x : LitAt) (q : x ≡ lit_at kind (graph (lent ws ns k.lengths)) (binds_of bs k.lengths.variables) p.0) where
  abbrev P : Problem
  P = problem_in ls z

  abbrev path : Path
  path = path_of ls z (binds_of bs k.lengths.variables) sc e

  abbrev w : World (Unit {0})
  w = world_of ls z ws ns sc k

  abbrev goal : Going (Unit {0}) nothing_met P
  goal = literal (Unit {0}) nothing_met P kind p.0 (next_of ls z next)

  by_kind : (y : LitAt) → x ≡ y → literal_by (Unit {0}) nothing_met P (next_of ls z next) path w kind p.0 y ≡ goal path w
  by_kind y i = ap (literal_by (Unit {0}) nothing_met P (next_of ls z next) path w kind p.0) (sym i ∙ q) ∙ sym
      (literal_by_what_stands (Unit {0}) nothing_met P (next_of ls z next) path w kind p.0)

  pub lit_number : (g : ℕ) → x ≡ Number g → (sc₁ : List ℕ) (e₁ : Branch) → sc₁ ≡ step_words (Component g) e sc → e₁ ≡ branch_after e e.trail (Component g)
      → (ws₂ ns₂ bs₂ sc₂ : List ℕ) (r : Answer) → Comes ls z ws ns bs sc₁ k e₁ (next_of ls z next) ws₂ ns₂ bs₂ sc₂ r
      → Comes ls z ws ns bs sc k e goal ws₂ ns₂ bs₂ sc₂ r
  unfolding path_after
  lit_number g i sc₁ e₁ a b ws₂ ns₂ bs₂ sc₂ r d =
      done_as ls z ws ns bs sc k e S.ready.nodes _ _ ws₂ ns₂ bs₂ sc₂ r (by_kind (Number g) i) (went_with ls z ws
      ns bs sc k e (Component g) next S sc₁ e₁ a b ws₂ ns₂ bs₂ sc₂ r d)

  pub lit_other : x ≡ Other → Comes ls z ws ns bs sc k e goal ws ns bs sc (Missed k)
  lit_other i = done_as ls z ws ns bs sc k e S.ready.nodes _ _ ws ns bs sc (Missed k) (by_kind Other i) (misses ls z ws ns bs sc k e S.ready.nodes)

  module _ (t : Tries) (f : LitTries kind p t) where
    from_nat_lem : TriesPlaced (lent ws ns k.lengths) (from_nat p.0)
    from_nat_lem =
        and_all _ _ (h, fixed_placed k.lengths S.suits.six 3 (omega arith))
        (and_all _ _ (h, fixed_placed k.lengths S.suits.six 4 (omega arith))
        (and_all _ _ (h, fixed_placed k.lengths S.suits.six 5 (omega arith)) none_left))

    numbers_placed : (kind : LitKind) → TriesPlaced (lent ws ns k.lengths) (lit_tries kind p.0)
    numbers_placed Positive = and_all _ _ (h, fixed_placed k.lengths S.suits.six 2 (omega arith)) from_nat_lem
    numbers_placed Natural = from_nat_lem

    pub lit_fine : TriesFine (lent ws ns k.lengths) t 0
    lit_fine = record { few = f.few; first = f.first; placed = subst (TriesPlaced (lent ws ns k.lengths)) (sym f.says) (numbers_placed kind) }

    pub lit_free : x ≡ Free → (ws₂ ns₂ bs₂ sc₂ : List ℕ) (r : Answer)
        → Comes ls z ws ns bs sc k e (first_found (Unit {0}) nothing_met P (tries_from t 0) (next_of ls z next)) ws₂ ns₂
        bs₂ sc₂ r
        → Comes ls z ws ns bs sc k e goal ws₂ ns₂ bs₂ sc₂ r
    lit_free i ws₂ ns₂ bs₂ sc₂ r d =
        done_as ls z ws ns bs sc k e S.ready.nodes _ _ ws₂ ns₂ bs₂ sc₂ r
        (ap (λ ts. first_found (Unit {0}) nothing_met P ts (next_of ls z next) path w) f.says ∙ by_kind Free i) d
