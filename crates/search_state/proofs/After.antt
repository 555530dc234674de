-- One branch after another. Lists that have grown suit the problem as before, so what was asked for on a branch holds after another one; and where a first
-- part of the search is done, what comes after it is done from where it left off. By the growth of lists, and by the first answer. Assumes nothing.
use mathlib.Core.Path.{◌≡◌, refl, sym, ap, ◌∙◌, subst}
use mathlib.Core.Bool.{Bool, true, false, ◌||◌}
use mathlib.Core.List.{List}
use Prim.Native.Nat.{ℕ, ◌+◌, ◌≤◌}
use native.Mathlib.Omega.{arith}
use lib.ListN.{length}
use Rattle.unification.specs.declared.Lengths.{Lengths}
use Rattle.unification.specs.Nodes.{binds_of}
use Rattle.unification.specs.Trail.{frees}
use Rattle.unification.specs.Making.{Lent}
use Rattle.unification.specs.Inner.Making.{lent}
use Rattle.unification.specs.Growing.{CheckedLent, PlacedIn, Grows}
use Rattle.unification.proofs.Grows.{placed_grown, grows_trans, ready_grown}
use Rattle.inference.specs.declared.Constraint.{Constraint}
use Rattle.inference.specs.Constraints.{Problem}
use Rattle.inference.specs.Search.{Path, World, Out, found, missed, else_try, and_also, Going}
use Rattle.inference.specs.SolveEntry.{nothing_met}
use Rattle.inference.specs.Typing.{All, none_left, and_all}
use Rattle.inference.specs.Inner.Listed.{ListedConstraint, sub_listed, lit_listed, disjunction_listed, comprehension_listed, join_listed, SortsOnly}
use Rattle.inference.proofs.Invariant.{sorts_only_refl, sorts_only_trans, still_placed}
use Rattle.search_state.specs.declared.Sizes.{Sizes}
use Rattle.search_state.specs.Inner.States.{State}
use Rattle.search_state.specs.declared.Branch.{Branch}
use Rattle.search_state.specs.Inner.States.{Answer}
use Rattle.search_state.specs.Inner.States.{Found, Missed, Full}
use Rattle.search_state.specs.declared.Next.{Next}
use Rattle.search_state.specs.declared.Next.TheVariants.{Solve, Source}
use Rattle.search_state.specs.Inner.Memory.{problem_in, trail_words, chosen_exprs, choices_of, path_of, world_of, out_of}
use Rattle.search_state.specs.Inner.Leaves.{says_of}
use Rattle.search_state.specs.Inner.Searching.{Suits, NextFine, Searching, SearchGrown, SamePath, Done, Comes}
use Rattle.search_state.proofs.Parts.{same_path_refl, same_path_trans}

-- What suits lists suits lists that have grown from them.
module _ (W W' : Lent) (c : CheckedLent W) (g : Grows W W') where
  placed : (p : ℕ) → PlacedIn W p → PlacedIn W' p
  placed = placed_grown W c W' g

  listed_grown : (P : Problem) (x : Constraint) → ListedConstraint W P x → ListedConstraint W' P x
  listed_grown P _ (sub_listed l r x y) = sub_listed l r (placed l.0 x) (placed r.0 y)
  listed_grown P _ (lit_listed p kind x) = lit_listed p kind (placed p.0 x)
  listed_grown P _ (disjunction_listed e p run x l y) = disjunction_listed e p run (placed p.0 x) l (λ i h. placed _ (y i h))
  listed_grown P _ (comprehension_listed body node element x y l) = comprehension_listed body node element
      (placed body.0 x) (placed node.0 y) (omega (arith, l, g.sorts))
  listed_grown P _ (join_listed run t x l y) = join_listed run t (placed t.0 x) l (still_placed W c W' g _ y)

  all_listed_grown : (P : Problem) (xs : List Constraint) → All (ListedConstraint W P) xs → All (ListedConstraint W' P) xs
  all_listed_grown P _ none_left = none_left
  all_listed_grown P _ (and_all x xs h hs) = and_all x xs (listed_grown P x h) (all_listed_grown P xs hs)

  pub suits_grown : (P : Problem) → Suits W P → Suits W' P
  suits_grown P s =
      record {
        six = omega (arith, s.six, g.sorts);
        default = omega (arith, s.default, g.sorts);
        exprs = still_placed W c W' g P.exprs s.exprs;
        constraints = all_listed_grown P P.constraints s.constraints;
      }

  pub next_grown : (ls : List ℕ) (z : Sizes) (next : Next) → NextFine W ls z next → NextFine W' ls z next
  next_grown ls z (Solve i) f = f
  next_grown ls z (Source t j n i) f =
      (f.0, record { ordered = f.1.ordered; inside = f.1.inside; target = placed t.0 f.1.target; placed = still_placed W c W' g _ f.1.placed })

-- What is asked for on a branch holds on lists that have grown, with the same bindings.
module _ (ls : List ℕ) (z : Sizes) (ws ns bs sc : List ℕ) (k : State) (e : Branch) (more : ℕ) (xs : List ℕ)
    (next : Next) (s : Searching ws ns bs sc ls z k e more xs next) where
  pub searching_grown : (ws' ns' bs' sc' : List ℕ) (k' : State)
      → Grows (lent ws ns k.lengths) (lent ws' ns' k'.lengths) → bs' ≡ bs → length sc' ≡ length sc
      → Searching ws' ns' bs' sc' ls z k' e more xs next
  searching_grown ws' ns' bs' sc' k' g b l =
      subst (λ ys. Searching ws' ns' ys sc' ls z k' e more xs next) (sym b)
      (record {
        ready = ready_grown (lent ws ns k.lengths) (lent ws' ns' k'.lengths) bs s.ready g;
        suits = suits_grown (lent ws ns k.lengths) (lent ws' ns' k'.lengths) s.ready.nodes g (problem_in ls z) s.suits;
        sized = s.sized;
        long = omega (arith, s.long, l);
        trail = subst (λ v. e.trail + frees (binds_of bs v) ≤ trail_words) (sym g.variables) s.trail;
        fine = next_grown (lent ws ns k.lengths) (lent ws' ns' k'.lengths) s.ready.nodes g ls z next s.fine;
        measure = s.measure;
        choices = s.choices;
        few = s.few;
      })

-- What a part of the search leaves.
module _ (ls : List ℕ) (z : Sizes) (ws ns bs sc : List ℕ) (k : State) (e : Branch) (c : CheckedLent (lent ws ns k.lengths)) where
  abbrev W : Lent
  W = lent ws ns k.lengths

  abbrev path : Path
  path = path_of ls z (binds_of bs k.lengths.variables) sc e

  -- nothing happens
  pub misses : Done ls z ws ns bs sc k e (missed (world_of ls z ws ns sc k)) ws ns bs sc (Missed k)
  misses = record { says = refl; grown = sorts_only_refl W c; binds = refl; path = same_path_refl e sc }

  pub finds : Done ls z ws ns bs sc k e (found (world_of ls z ws ns sc k)) ws ns bs sc (Found k)
  finds = record { says = refl; grown = sorts_only_refl W c; binds = refl; path = same_path_refl e sc }

  pub done_as : (O Q : Out (Unit {0})) (ws' ns' bs' sc' : List ℕ) (r : Answer) → O ≡ Q
      → Done ls z ws ns bs sc k e O ws' ns' bs' sc' r → Done ls z ws ns bs sc k e Q ws' ns' bs' sc' r
  done_as O Q ws' ns' bs' sc' r q d = record { says = d.says ∙ q; grown = d.grown; binds = d.binds; path = d.path }

  module _ (ws₁ ns₁ bs₁ sc₁ : List ℕ) (k₁ : State) (g : SortsOnly W (lent ws₁ ns₁ k₁.lengths)) (b : bs₁ ≡ bs) (p : SamePath e sc sc₁) where
    abbrev W₁ : Lent
    W₁ = lent ws₁ ns₁ k₁.lengths

    grown_then : (ws₂ ns₂ : List ℕ) (r : Answer) → SearchGrown W₁ ws₂ ns₂ r → SearchGrown W ws₂ ns₂ r
    grown_then ws₂ ns₂ (Found k₂) h = sorts_only_trans W W₁ (lent ws₂ ns₂ k₂.lengths) c g h
    grown_then ws₂ ns₂ (Missed k₂) h = sorts_only_trans W W₁ (lent ws₂ ns₂ k₂.lengths) c g h
    grown_then ws₂ ns₂ (Full d k₂) h = grows_trans W c W₁ (lent ws₂ ns₂ k₂) g.grows h

    pub same_path : path_of ls z (binds_of bs₁ k₁.lengths.variables) sc₁ e ≡ path
    same_path =
        λ i. record {
          binds = binds_of (b i) (g.grows.variables i);
          measure = p.measure i;
          choices = choices_of (chosen_exprs ls z) (p.choices i);
        }

    -- what is done after it is done from the start
    pub done_after : (O : Out (Unit {0})) (ws₂ ns₂ bs₂ sc₂ : List ℕ) (r : Answer)
        → Done ls z ws₁ ns₁ bs₁ sc₁ k₁ e O ws₂ ns₂ bs₂ sc₂ r → Done ls z ws ns bs sc k e O ws₂ ns₂ bs₂ sc₂ r
    done_after O ws₂ ns₂ bs₂ sc₂ r d =
        record { says = d.says; grown = grown_then ws₂ ns₂ r d.grown; binds = d.binds ∙ b; path = same_path_trans e sc sc₁ sc₂ p d.path }

    pub comes_after : (f : Going (Unit {0}) nothing_met (problem_in ls z)) (ws₂ ns₂ bs₂ sc₂ : List ℕ) (r : Answer)
        → Comes ls z ws₁ ns₁ bs₁ sc₁ k₁ e f ws₂ ns₂ bs₂ sc₂ r
        → Done ls z ws ns bs sc k e (f path (world_of ls z ws₁ ns₁ sc₁ k₁)) ws₂ ns₂ bs₂ sc₂ r
    comes_after f ws₂ ns₂ bs₂ sc₂ r d =
        done_after (f path (world_of ls z ws₁ ns₁ sc₁ k₁)) ws₂ ns₂ bs₂ sc₂ r
        (record { says = d.says ∙ ap (λ q. f q (world_of ls z ws₁ ns₁ sc₁ k₁)) same_path; grown = d.grown; binds = d.binds; path = d.path })

  -- after a first part
  module _ (O : Out (Unit {0})) (ws₁ ns₁ bs₁ sc₁ : List ℕ) (r : Answer) (d : Done ls z ws ns bs sc k e O ws₁ ns₁ bs₁ sc₁ r) where
    pub grown_missed : (k₁ : State) → r ≡ Missed k₁ → SortsOnly W (lent ws₁ ns₁ k₁.lengths)
    grown_missed k₁ q = subst (SearchGrown W ws₁ ns₁) q d.grown

    pub grown_on : (x : Bool) (k₁ : State) → r ≡ says_of x k₁ → SortsOnly W (lent ws₁ ns₁ k₁.lengths)
    grown_on x k₁ q = go x (subst (SearchGrown W ws₁ ns₁) q d.grown)
      where
        go : (x : Bool) → SearchGrown W ws₁ ns₁ (says_of x k₁) → SortsOnly W (lent ws₁ ns₁ k₁.lengths)
        go true h = h
        go false h = h

    -- "where nothing was found, what else"
    module _ (f : World (Unit {0}) → Out (Unit {0})) where
      pub or_stops : ((s : State) → r ≡ Missed s → ⊥) → Done ls z ws ns bs sc k e (else_try O f) ws₁ ns₁ bs₁ sc₁ r
      or_stops n = record { says = go r n ∙ ap (λ x. else_try x f) d.says; grown = d.grown; binds = d.binds; path = d.path }
        where
          go : (r : Answer) → ((s : State) → r ≡ Missed s → ⊥) → out_of ls z ws₁ ns₁ sc₁ r ≡ else_try (out_of ls z ws₁ ns₁ sc₁ r) f
          go (Found s) n = refl
          go (Missed s) n = absurd (n s refl)
          go (Full x l) n = refl

      pub or_missed : (k₁ : State) → r ≡ Missed k₁ → f (world_of ls z ws₁ ns₁ sc₁ k₁) ≡ else_try O f
      or_missed k₁ q = ap (λ x. else_try x f) (sym (ap (out_of ls z ws₁ ns₁ sc₁) q) ∙ d.says)

    pub or_comes : (f : Going (Unit {0}) nothing_met (problem_in ls z)) (k₁ : State) → r ≡ Missed k₁ → (ws₂ ns₂ bs₂ sc₂ : List ℕ) (r₂ : Answer)
        → Comes ls z ws₁ ns₁ bs₁ sc₁ k₁ e f ws₂ ns₂ bs₂ sc₂ r₂ → Done ls z ws ns bs sc k e (else_try O (f path)) ws₂ ns₂ bs₂ sc₂ r₂
    or_comes f k₁ q ws₂ ns₂ bs₂ sc₂ r₂ x =
        done_as (f path (world_of ls z ws₁ ns₁ sc₁ k₁)) (else_try O (f path)) ws₂ ns₂ bs₂ sc₂ r₂ (or_missed (f path) k₁ q)
        (comes_after ws₁ ns₁ bs₁ sc₁ k₁ (grown_missed k₁ q) d.binds d.path f ws₂ ns₂ bs₂ sc₂ r₂ x)

    -- "whatever was found, what else": b before, x now
    module _ (b : Bool) (f : Bool → World (Unit {0}) → Out (Unit {0})) where
      pub and_stops : (c : ℕ) (l : Lengths) → r ≡ Full c l → Done ls z ws ns bs sc k e (and_also O b f) ws₁ ns₁ bs₁ sc₁ r
      and_stops c l q =
          subst (Done ls z ws ns bs sc k e (and_also O b f) ws₁ ns₁ bs₁ sc₁) (sym q)
          (record {
            says = ap (λ o. and_also o b f) (sym (ap (out_of ls z ws₁ ns₁ sc₁) q) ∙ d.says);
            grown = subst (SearchGrown W ws₁ ns₁) q d.grown;
            binds = d.binds;
            path = d.path;
          })

      pub and_goes_on : (x : Bool) (k₁ : State) → r ≡ says_of x k₁ → f (b || x) (world_of ls z ws₁ ns₁ sc₁ k₁) ≡ and_also O b f
      and_goes_on x k₁ q = go x b ∙ ap (λ o. and_also o b f) (sym (ap (out_of ls z ws₁ ns₁ sc₁) q) ∙ d.says)
        where
          go : (x b : Bool) → f (b || x) (world_of ls z ws₁ ns₁ sc₁ k₁) ≡ and_also (out_of ls z ws₁ ns₁ sc₁ (says_of x k₁)) b f
          go true true = refl
          go true false = refl
          go false true = refl
          go false false = refl

    pub and_comes : (b : Bool) (f : Bool → Going (Unit {0}) nothing_met (problem_in ls z)) (x : Bool) (k₁ : State) → r ≡ says_of x k₁
        → (ws₂ ns₂ bs₂ sc₂ : List ℕ) (r₂ : Answer) → Comes ls z ws₁ ns₁ bs₁ sc₁ k₁ e (f (b || x)) ws₂ ns₂ bs₂ sc₂ r₂
        → Done ls z ws ns bs sc k e (and_also O b (λ b. f b path)) ws₂ ns₂ bs₂ sc₂ r₂
    and_comes b f x k₁ q ws₂ ns₂ bs₂ sc₂ r₂ y =
        done_as (f (b || x) path (world_of ls z ws₁ ns₁ sc₁ k₁)) (and_also O b (λ b. f b path)) ws₂ ns₂ bs₂ sc₂ r₂
        (and_goes_on b (λ b. f b path) x k₁ q)
        (comes_after ws₁ ns₁ bs₁ sc₁ k₁ (grown_on x k₁ q) d.binds d.path (f (b || x)) ws₂ ns₂ bs₂ sc₂ r₂ y)
