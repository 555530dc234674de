-- A widening, as its code goes: equality first; where that missed, the tries of its list, whose nodes are given back; or no list; or no room. By one branch
-- after another, and by what the tries leave of the lists. Assumes nothing.
use mathlib.Core.Path.{◌≡◌, refl, sym, ap, ◌∙◌, subst}
use mathlib.Core.List.{List, []}
use Prim.Native.Nat.{ℕ}
use native.Mathlib.Omega.{arith}
use Rattle.unification.specs.declared.InferSortId.{InferSortId}
use Rattle.unification.specs.declared.Lengths.{Lengths}
use Rattle.unification.specs.Nodes.{binds_of}
use Rattle.unification.specs.Checked.{Placed}
use Rattle.unification.specs.Making.{Lent, made}
use Rattle.unification.specs.Inner.Making.{lent}
use Rattle.unification.specs.Growing.{Grows}
use Rattle.unification.proofs.Grows.{grows_trans, given_back_grows, placed_grown}
use Rattle.inference.specs.Constraints.{Problem}
use Rattle.inference.specs.Search.{Path, World, Out, missed, Going, else_try, on_made, nodes_returned, unifying, first_found, widening, wider}
use Rattle.inference.specs.SolveEntry.{nothing_met}
use Rattle.inference.specs.Inner.Listed.{SortsOnly}
use Rattle.inference.proofs.Invariant.{sorts_only_refl}
use Rattle.search_state.specs.declared.Sizes.{Sizes}
use Rattle.search_state.specs.Inner.States.{State}
use Rattle.search_state.specs.declared.Branch.{Branch}
use Rattle.search_state.specs.Inner.States.{Answer}
use Rattle.search_state.specs.Inner.States.{Found, Missed, Full as Ended}
use Rattle.unification.specs.declared.Full.{Full}
use Rattle.std.specs.Prelude.{Option, Some, None, Result, Ok, Err}
use Rattle.search_state.specs.declared.Next.{Next}
use Rattle.search_state.specs.declared.Pairs.TheVariants.{One}
use Rattle.search_state.specs.declared.Step.TheVariants.{Component}
use Rattle.search_state.specs.declared.Tries.{Tries}
use Rattle.search_state.specs.Inner.Memory.{problem_in, path_of, world_of, out_of, next_of}
use Rattle.search_state.specs.Inner.Leaves.{unify_pairs, path_after, tries_from, widenings, code_of, widened, FewTries, FindsWidenings, with_lengths, given_back_to}
use Rattle.search_state.specs.Inner.Searching.{Searching, SearchGrown, Comes, trying}
use Rattle.search_state.proofs.Parts.{same_path_refl}
use Rattle.search_state.proofs.After.{searching_grown, done_as, or_stops, or_comes, grown_missed}
use Rattle.search_state.proofs.Ways.{tried, wider_by_widenings, given_back_in_answer, tries_are_placed, no_tries_makes_nothing, no_room_for_tries_grows}
use Rattle.solver.specs.Inner.Asked.{TriesFine}
use Rattle.solver.proofs.Ways.{after_missed}

-- From where equality missed.
module _ (ls : List ℕ) (z : Sizes) (ws ns bs sc : List ℕ) (k : State) (e : Branch) (l r : InferSortId) (next : Next)
    (S : Searching ws ns bs sc ls z k e 1 [] next)
    (x : Placed k.lengths l.0) (y : Placed k.lengths r.0) (ws₁ ns₁ : List ℕ) (m : Lengths) (q : Result (Option Tries) Full)
    (O : FindsWidenings ws₁ ns₁ m q (widenings (binds_of bs k.lengths.variables) l.0 r.0 (lent ws ns k.lengths))) where
  abbrev P : Problem
  P = problem_in ls z

  abbrev W : Lent
  W = lent ws ns k.lengths

  abbrev path : Path
  path = path_of ls z (binds_of bs k.lengths.variables) sc e

  abbrev w : World (Unit {0})
  w = world_of ls z ws ns sc k

  abbrev goal : Going (Unit {0}) nothing_met P
  goal = wider (Unit {0}) nothing_met P l.0 r.0 (next_of ls z next)

  by_tries : on_made (widened ws₁ ns₁ m q) (tried (Unit {0}) nothing_met P (next_of ls z next) path w l.0 r.0) missed w ≡ goal path w
  by_tries =
      ap (λ o. on_made o (tried (Unit {0}) nothing_met P (next_of ls z next) path w l.0 r.0) missed w) O.says
      ∙ sym (wider_by_widenings (Unit {0}) nothing_met P (next_of ls z next) path w l.0 r.0 S.ready.nodes S.ready.binds)

  module _ (t : Tries) (i : q ≡ Ok (Some t)) where
    there : widenings (binds_of bs k.lengths.variables) l.0 r.0 W ≡ made (tries_from t 0) (lent ws₁ ns₁ m)
    there = sym (sym (ap (widened ws₁ ns₁ m) i) ∙ O.says)

    grown : Grows W (lent ws₁ ns₁ m)
    grown = (tries_are_placed W S.ready.nodes S.suits.six (binds_of bs k.lengths.variables)
        S.ready.binds l.0 r.0 x y (tries_from t 0) (lent ws₁ ns₁ m) there).0

    few : FewTries (Ok (Some t))
    few = subst FewTries i O.few

    pub tries_fine_first : TriesFine (lent ws₁ ns₁ m) t 0
    tries_fine_first =
        record {
          few = few.0;
          first = omega (arith, few.1);
          placed =
              (tries_are_placed W S.ready.nodes S.suits.six (binds_of bs k.lengths.variables)
              S.ready.binds l.0 r.0 x y (tries_from t 0) (lent ws₁ ns₁ m) there).1;
        }

    module _ (k₁ : State) (u : k₁ ≡ with_lengths k m) where
      pub tries_asked : Searching ws₁ ns₁ bs sc ls z k₁ e 1 [] next
      tries_asked = subst (λ (s : State). Searching ws₁ ns₁ bs sc ls z s e 1 [] next) (sym u) (searching_grown ls z ws
          ns bs sc k e 1 [] next S ws₁ ns₁ bs sc (with_lengths k m) grown refl refl)

      pub tries_fine_here : TriesFine (lent ws₁ ns₁ k₁.lengths) t 0
      tries_fine_here = subst (λ (s : State). TriesFine (lent ws₁ ns₁ s.lengths) t 0) (sym u) tries_fine_first

      module _ (ws₂ ns₂ bs₂ sc₂ : List ℕ) (a : Answer) (d : Comes ls z ws₁ ns₁ bs sc k₁ e (first_found (Unit {0})
          nothing_met P (tries_from t 0) (next_of ls z next)) ws₂ ns₂ bs₂ sc₂ a) where
        d₁ : Comes ls z ws₁ ns₁ bs sc (with_lengths k m) e (first_found (Unit {0}) nothing_met P (tries_from t 0) (next_of ls z next)) ws₂ ns₂ bs₂ sc₂ a
        d₁ = subst (λ (s : State). Comes ls z ws₁ ns₁ bs sc s e (first_found (Unit {0}) nothing_met P (tries_from t 0) (next_of ls z next)) ws₂ ns₂ bs₂ sc₂ a) u d

        back : (a : Answer) → SearchGrown (lent ws₁ ns₁ m) ws₂ ns₂ a → SearchGrown W ws₂ ns₂ (given_back_to k.lengths a)
        back (Found s) g =
            record {
              grows = given_back_grows W (lent ws₂ ns₂ s.lengths) S.ready.nodes
                  (grows_trans W S.ready.nodes (lent ws₁ ns₁ m) (lent ws₂ ns₂ s.lengths) grown g.grows);
              nodes = refl;
              arguments = refl;
            }
        back (Missed s) g =
            record {
              grows = given_back_grows W (lent ws₂ ns₂ s.lengths) S.ready.nodes
                  (grows_trans W S.ready.nodes (lent ws₁ ns₁ m) (lent ws₂ ns₂ s.lengths) grown g.grows);
              nodes = refl;
              arguments = refl;
            }
        back (Ended c n) g = grows_trans W S.ready.nodes (lent ws₁ ns₁ m) (lent ws₂ ns₂ n) grown g

        same_path_there : path_of ls z (binds_of bs m.variables) sc e ≡ path
        same_path_there = ap (λ v. path_of ls z (binds_of bs v) sc e) grown.variables

        pub widen_tries : (o : Answer) → o ≡ given_back_to k.lengths a → Comes ls z ws ns bs sc k e goal ws₂ ns₂ bs₂ sc₂ o
        widen_tries o v =
            record {
              says =
                  ap (out_of ls z ws₂ ns₂ sc₂) v
                  ∙ (given_back_in_answer ls z ws₂ ns₂ sc₂ a ws ns k.lengths
                  ∙ (ap (nodes_returned W) (d₁.says ∙ ap (λ p. first_found (Unit {0}) nothing_met P (tries_from t 0)
                  (next_of ls z next) p (world_of ls z ws₁ ns₁ sc (with_lengths k m))) same_path_there)
                  ∙ (ap (λ j. on_made (widened ws₁ ns₁ m j) (tried (Unit {0}) nothing_met P (next_of ls z next) path w
                  l.0 r.0) missed w) (sym i) ∙ by_tries)));
              grown = subst (SearchGrown W ws₂ ns₂) (sym v) (back a d₁.grown);
              binds = d₁.binds;
              path = d₁.path;
            }

  pub widen_none : q ≡ Ok None → (k₁ : State) → k₁ ≡ with_lengths k m → Comes ls z ws ns bs sc k e goal ws₁ ns₁ bs sc (Missed k₁)
  widen_none i k₁ u =
      subst (λ (s : State). Comes ls z ws ns bs sc k e goal ws₁ ns₁ bs sc (Missed s)) (sym u)
      (record {
        says = ap (λ j. on_made (widened ws₁ ns₁ m j) (tried (Unit {0}) nothing_met P (next_of ls z next) path w l.0 r.0) missed w) (sym i) ∙ by_tries;
        grown = subst (SortsOnly W) (sym same) (sorts_only_refl W S.ready.nodes);
        binds = refl;
        path = same_path_refl e sc;
      })
    where
      same : lent ws₁ ns₁ m ≡ W
      same =
          no_tries_makes_nothing W S.ready.nodes S.suits.six (binds_of bs k.lengths.variables) S.ready.binds l.0 r.0 x y (lent ws₁ ns₁ m)
          (sym (sym (ap (widened ws₁ ns₁ m) i) ∙ O.says))

  pub widen_full : (f : Full) → q ≡ Err f → Comes ls z ws ns bs sc k e goal ws₁ ns₁ bs sc (Ended (code_of f) m)
  widen_full f i =
      record {
        says = ap (λ j. on_made (widened ws₁ ns₁ m j) (tried (Unit {0}) nothing_met P (next_of ls z next) path w l.0 r.0) missed w) (sym i) ∙ by_tries;
        grown =
            no_room_for_tries_grows W S.ready.nodes S.suits.six (binds_of bs k.lengths.variables)
            S.ready.binds l.0 r.0 x y (code_of f) (lent ws₁ ns₁ m)
            (sym (sym (ap (widened ws₁ ns₁ m) i) ∙ O.says));
        binds = refl;
        path = same_path_refl e sc;
      }

-- The whole of it, after equality.
module _ (ls : List ℕ) (z : Sizes) (ws ns bs sc : List ℕ) (k : State) (e : Branch) (l r : InferSortId) (next : Next)
    (S : Searching ws ns bs sc ls z k e 1 [] next)
    (ws₁ ns₁ bs₁ sc₁ : List ℕ) (a : Answer) (d : Comes ls z ws ns bs sc k e (trying ls z sc e (One l r) (Component 0) next) ws₁ ns₁ bs₁ sc₁ a) where
  abbrev whole : Going (Unit {0}) nothing_met (problem_in ls z)
  whole = widening (Unit {0}) nothing_met (problem_in ls z) l.0 r.0 (next_of ls z next)

  abbrev start : Path
  start = path_of ls z (binds_of bs k.lengths.variables) sc e

  abbrev equal : Out (Unit {0})
  equal = trying ls z sc e (One l r) (Component 0) next start (world_of ls z ws ns sc k)

  to_or : else_try equal (wider (Unit {0}) nothing_met (problem_in ls z) l.0 r.0 (next_of ls z next) start) ≡ whole start (world_of ls z ws ns sc k)
  unfolding widening trying unify_pairs unifying path_after
  to_or = refl

  pub widen_stop : ((s : State) → a ≡ Missed s → ⊥) → Comes ls z ws ns bs sc k e whole ws₁ ns₁ bs₁ sc₁ a
  widen_stop n = done_as ls z ws ns bs sc k e S.ready.nodes _ _ ws₁ ns₁ bs₁ sc₁ a to_or (or_stops ls z ws ns bs sc
      k e S.ready.nodes equal ws₁ ns₁ bs₁ sc₁ a d _ n)

  module _ (k₁ : State) (q : a ≡ Missed k₁) where
    pub still_there : (p : ℕ) → Placed k.lengths p → Placed k₁.lengths p
    still_there p h = placed_grown (lent ws ns k.lengths) S.ready.nodes (lent ws₁ ns₁ k₁.lengths)
        (grown_missed ls z ws ns bs sc k e S.ready.nodes equal ws₁ ns₁ bs₁ sc₁ a d k₁ q).grows p h

    pub asked_again : Searching ws₁ ns₁ bs₁ sc₁ ls z k₁ e 1 [] next
    asked_again = after_missed ls z ws ns bs sc k e 1 [] next S equal ws₁ ns₁ bs₁ sc₁ a d k₁ q

    pub widen_on : (ws₂ ns₂ bs₂ sc₂ : List ℕ) (o : Answer)
        → Comes ls z ws₁ ns₁ bs₁ sc₁ k₁ e (wider (Unit {0}) nothing_met (problem_in ls z) l.0 r.0
        (next_of ls z next)) ws₂ ns₂ bs₂ sc₂ o
        → Comes ls z ws ns bs sc k e whole ws₂ ns₂ bs₂ sc₂ o
    widen_on ws₂ ns₂ bs₂ sc₂ o x =
        done_as ls z ws ns bs sc k e S.ready.nodes _ _ ws₂ ns₂ bs₂ sc₂ o to_or
        (or_comes ls z ws ns bs sc k e S.ready.nodes equal ws₁ ns₁ bs₁ sc₁ a d (wider (Unit {0}) nothing_met
        (problem_in ls z) l.0 r.0 (next_of ls z next)) k₁ q ws₂ ns₂ bs₂ sc₂ o x)
