-- The loops of the search over its struct: tries, readings and overloads, one after another. What is left to do comes to the whole. By the laws of each,
-- and by what stays of the struct from call to call. Assumes nothing.
use mathlib.Core.Path.{◌≡◌, refl, sym, ap, ◌∙◌, subst}
use mathlib.Core.Bool.{Bool, true, false, ◌||◌}
use mathlib.Core.List.{List, [], ◌∷◌}
use Prim.Native.Nat.{ℕ, ◌+◌, ◌<◌, ◌≤◌}
use lib.ListN.{get_or, drop}
use Rattle.std.specs.Prelude.{Result, Ok, Err}
use Rattle.resolved_sort.specs.declared.Run.{Run}
use Rattle.resolved_sort.specs.declared.SortId.{SortId}
use Rattle.resolved_sort.specs.declared.NoRoom.{NoRoom}
use Rattle.unification.specs.declared.InferSortId.{InferSortId}
use Rattle.unification.specs.declared.Lengths.{Lengths}
use Rattle.unification.specs.declared.Full.{Full}
use Rattle.unification.specs.declared.Full.TheVariants.{Sorts}
use Rattle.unification.specs.Checked.{Placed}
use Rattle.inference.specs.declared.ExprId.{ExprId}
use Rattle.inference.specs.Constraints.{rows_from, overload_at}
use Rattle.inference.specs.Search.{first_found, every_reading, every_overload}
use Rattle.inference.specs.SolveEntry.{nothing_met}
use Rattle.search_state.specs.declared.Branch.{Branch}
use Rattle.search_state.specs.Inner.States.{State}
use Rattle.search_state.specs.Inner.States.{Missed}
use Rattle.search_state.specs.declared.Search.{Search}
use Rattle.search_state.specs.declared.Next.{Next}
use Rattle.search_state.specs.declared.Pairs.{Pairs}
use Rattle.search_state.specs.declared.Pairs.TheVariants.{One, Two}
use Rattle.search_state.specs.declared.Step.TheVariants.{Nothing, Component, Choice}
use Rattle.search_state.specs.declared.Tries.{Tries}
use Rattle.search_state.specs.Inner.Memory.{overloads_at, problem_in, chosen_exprs, next_of}
use Rattle.search_state.specs.Inner.Leaves.{PairsPlaced, try_at, tries_from, code_of, says_of, with_lengths, with_nodes, back_to, given_back_to}
use Rattle.search_state.specs.Inner.Searching.{trying, Searching as SearchingIn, Comes as ComesIn}
use Rattle.search_state.specs.Inner.Solving.{Searching, Goes, Comes, SameProblem, OnlySorts, state_of, answer_of, lent_of, Given, Stays}
use Rattle.search_state.proofs.Solving.{asked_on, comes_on, same_on, problem_kept, kept_sorts, state_kept, tried_sorts}
use Rattle.search_steps.specs.Inner.Steps.{pairs_of, InternsContainer}
use Rattle.solver.specs.Inner.Asked.{TriesFine, OverloadsFine, reading_body, reading_op, readings_from}
use Rattle.solver.proofs.Ways as law
use Rattle.solver.proofs.Readings as re
use Rattle.solver.proofs.Overloads as ov

-- what is done from s of a way of going on, in the problem at entry
abbrev pub LeftTo : Search → Branch → Goes → Search → Search → Result Bool Full → Type 0
LeftTo s₀ e g s u r =
    ComesIn s₀.lists.now s₀.sizes s.sorts.now s.nodes.now s.binds.now s.scratch.now (state_of s) e (g s₀.lists.now s₀.sizes)
    u.sorts.now u.nodes.now u.binds.now u.scratch.now (answer_of (state_of u) r)

abbrev pub AskedIn : Search → Search → Branch → ℕ → List ℕ → Next → Type 0
AskedIn s₀ s e more xs next =
    SearchingIn s.sorts.now s.nodes.now s.binds.now s.scratch.now s₀.lists.now s₀.sizes (state_of s) e more xs next

-- an error of the call before that is passed on, and an answer that is known
pub passed : (s₀ : Search) (e : Branch) (g : Goes) (u : Search) (r q : Result Bool Full) → q ≡ r → Comes s₀ e g u r → Comes s₀ e g u q
passed s₀ e g u r q p d = subst (Comes s₀ e g u) (sym p) d

-- nodes given back after the tries of a widening
pub returned : (k : State) (kept n : Lengths) → n ≡ with_nodes kept k.lengths → (r : Result Bool Full) (b : Bool) → r ≡ Ok b
    → answer_of (with_lengths k n) (Ok b) ≡ given_back_to kept (answer_of k r)
returned k kept n q r b h =
    ap (λ (l : Lengths). says_of b (with_lengths k l)) q ∙ (both b ∙ sym (ap (λ (y : Result Bool Full). given_back_to kept (answer_of k y)) h))
  where
    both : (b : Bool) → says_of b (back_to kept k) ≡ given_back_to kept (says_of b k)
    both true = refl
    both false = refl

-- Tries.
module _ (s₀ : Search) (e : Branch) (t : Tries) (next : Next) where
  abbrev pub tries_of : ℕ → Goes
  tries_of j = λ ls z. first_found (Unit {0}) nothing_met (problem_in ls z) (tries_from t j) (next_of ls z next)

  pub record TriesLeft (s : Search) (j : ℕ) : Type 0 where
    pub same : SameProblem s₀ s
    pub asked : AskedIn s₀ s e 1 [] next
    pub fine : TriesFine (lent_of s) t j
    pub whole : (u : Search) (r : Result Bool Full) → LeftTo s₀ e (tries_of j) s u r → LeftTo s₀ e (tries_of 0) s₀ u r

  module _ (s : Search) (j : ℕ) (I : TriesLeft s j) where
    pub tries_over : t.count ≤ j → Comes s₀ e (tries_of 0) s (Ok false)
    tries_over l =
        record {
          problem = I.same;
          comes =
              I.whole s (Ok false) (law.tries_done s₀.lists.now s₀.sizes s.sorts.now s.nodes.now s.binds.now s.scratch.now (state_of s) e t
              j next I.asked I.fine l);
        }

    pub try_asked : Searching s e 1 [] next
    try_asked = asked_on s₀ s e I.same 1 [] next I.asked

    module _ (l : j < t.count) (pairs : Pairs) (q : pairs ≡ pairs_of (try_at t j)) (g : ℕ) (h : g ≡ (try_at t j).component) where
      pub pair_placed : PairsPlaced s.lengths pairs
      pair_placed =
          law.try_placed s₀.lists.now s₀.sizes s.sorts.now s.nodes.now s.binds.now s.scratch.now (state_of s) e t j next I.asked I.fine l
          pairs q g h

      module _ (u : Search) (r : Result Bool Full) (d : Comes s e (λ ls z. trying ls z s.scratch.now e pairs (Component g) next) u r) where
        here : ComesIn s₀.lists.now s₀.sizes s.sorts.now s.nodes.now s.binds.now s.scratch.now (state_of s) e
            (trying s₀.lists.now s₀.sizes s.scratch.now e pairs (Component g) next)
            u.sorts.now u.nodes.now u.binds.now u.scratch.now (answer_of (state_of u) r)
        here = comes_on s₀ s e I.same (λ ls z. trying ls z s.scratch.now e pairs (Component g) next) u r d

        pub tries_stop : ((y : State) → answer_of (state_of u) r ≡ Missed y → ⊥) → Comes s₀ e (tries_of 0) u r
        tries_stop n =
            record {
              problem = same_on s₀ s e I.same u d.problem;
              comes =
                  I.whole u r (law.tries_stop s₀.lists.now s₀.sizes s.sorts.now s.nodes.now s.binds.now s.scratch.now (state_of s) e t j next
                  I.asked I.fine l pairs q g h u.sorts.now u.nodes.now u.binds.now u.scratch.now (answer_of (state_of u) r) here n);
            }

        pub tries_more : r ≡ Ok false → TriesLeft u (j + 1)
        tries_more m =
            let missed = ap (answer_of (state_of u)) m in
            record {
              same = same_on s₀ s e I.same u d.problem;
              asked =
                  law.after_missed s₀.lists.now s₀.sizes s.sorts.now s.nodes.now s.binds.now s.scratch.now (state_of s) e 1 [] next I.asked _
                  u.sorts.now u.nodes.now u.binds.now u.scratch.now (answer_of (state_of u) r) here (state_of u) missed;
              fine =
                  law.tries_fine s₀.lists.now s₀.sizes s.sorts.now s.nodes.now s.binds.now s.scratch.now (state_of s) e t j next I.asked I.fine
                  l pairs q g h u.sorts.now u.nodes.now u.binds.now u.scratch.now (answer_of (state_of u) r) here (state_of u) missed;
              whole =
                  λ v x y. I.whole v x (law.tries_next s₀.lists.now s₀.sizes s.sorts.now s.nodes.now s.binds.now s.scratch.now (state_of s) e t
                  j next I.asked I.fine l pairs q g h u.sorts.now u.nodes.now u.binds.now u.scratch.now (answer_of (state_of u) r) here
                  (state_of u) missed v.sorts.now v.nodes.now v.binds.now v.scratch.now (answer_of (state_of v) x) y);
            }

-- Readings.
module _ (s₀ : Search) (e : Branch) (body node : InferSortId) (element : SortId) (next : Next) where
  abbrev pub readings_of : ℕ → Bool → Goes
  readings_of i b =
      λ ls z. every_reading (Unit {0}) nothing_met (problem_in ls z) (readings_from i) body.0 node.0 element.0 b (next_of ls z next)

  pub record ReadingsLeft (s : Search) (i : ℕ) (b : Bool) : Type 0 where
    pub same : SameProblem s₀ s
    pub asked : AskedIn s₀ s e 0 [] next
    pub places : Placed s.lengths body.0 × Placed s.lengths node.0 × (element.0 < s.lengths.sorts)
    pub whole : (u : Search) (r : Result Bool Full) → LeftTo s₀ e (readings_of i b) s u r → LeftTo s₀ e (readings_of 0 false) s₀ u r

  module _ (s : Search) (i : ℕ) (b : Bool) (I : ReadingsLeft s i b) where
    pub readings_over : 3 ≤ i → Comes s₀ e (readings_of 0 false) s (Ok b)
    readings_over l =
        record {
          problem = I.same;
          comes =
              I.whole s (Ok b) (re.readings_done s₀.lists.now s₀.sizes s.sorts.now s.nodes.now s.binds.now s.scratch.now (state_of s) e body
              node element i b next I.asked I.places.0 I.places.1 I.places.2 l (answer_of (state_of s) (Ok b)) refl);
        }

    module _ (l : i < 3) (m : Search) (o : Result SortId NoRoom)
        (x : InternsContainer (reading_op i) element.0 s.sorts.now s.lengths m.sorts.now m.lengths o) (only : OnlySorts s m) where
      pub problem_there : SameProblem s₀ m
      problem_there = same_on s₀ s e I.same m (problem_kept s m e (kept_sorts s m e only))

      pub readings_full : (n : NoRoom) → o ≡ Err n → Comes s₀ e (readings_of 0 false) m (Err Sorts)
      readings_full n q =
          record {
            problem = problem_there;
            comes =
                I.whole m (Err Sorts) (subst (λ (y : Stays). ComesIn s₀.lists.now s₀.sizes s.sorts.now s.nodes.now s.binds.now s.scratch.now
                (state_of s) e (readings_of i b s₀.lists.now s₀.sizes) m.sorts.now y.nodes y.kept.binds y.scratch
                (answer_of (state_of m) (Err Sorts))) (sym only)
                (re.readings_full s₀.lists.now s₀.sizes s.sorts.now s.nodes.now s.binds.now s.scratch.now (state_of s) e body node element i b
                next I.asked I.places.0 I.places.1 I.places.2 l m.sorts.now m.lengths o x n q));
          }

      module _ (c : SortId) (q : o ≡ Ok c) where
        asked_there : SearchingIn m.sorts.now s.nodes.now s.binds.now s.scratch.now s₀.lists.now s₀.sizes (state_of m) e 0 [] next
        asked_there =
            re.reading_asked s₀.lists.now s₀.sizes s.sorts.now s.nodes.now s.binds.now s.scratch.now (state_of s) e body node element i b next
            I.asked I.places.0 I.places.1 I.places.2 l m.sorts.now m.lengths o x c q (state_of m) (state_kept s m e (kept_sorts s m e only))

        pub reading_asked : Searching m e 0 [] next
        reading_asked =
            asked_on s₀ m e problem_there 0 [] next
            (subst (λ (y : Stays). SearchingIn m.sorts.now y.nodes y.kept.binds y.scratch s₀.lists.now s₀.sizes (state_of m) e 0 [] next)
            (sym only) asked_there)

        module _ (rb : InferSortId) (v : rb.0 ≡ reading_body i) where
          pub reading_placed : PairsPlaced m.lengths (Two body rb node (record { 0 = c.0 }))
          reading_placed =
              re.reading_placed s₀.lists.now s₀.sizes s.sorts.now s.nodes.now s.binds.now s.scratch.now (state_of s) e body node element i b
              next I.asked I.places.0 I.places.1 I.places.2 l m.sorts.now m.lengths o x c q (state_of m)
              (state_kept s m e (kept_sorts s m e only)) rb v

          module _ (u : Search) (r : Result Bool Full)
              (d : Comes m e (λ ls z. trying ls z m.scratch.now e (Two body rb node (record { 0 = c.0 })) Nothing next) u r) where
            read_here : ComesIn s₀.lists.now s₀.sizes m.sorts.now s.nodes.now s.binds.now s.scratch.now (state_of m) e
                (trying s₀.lists.now s₀.sizes s.scratch.now e (Two body rb node (record { 0 = c.0 })) Nothing next)
                u.sorts.now u.nodes.now u.binds.now u.scratch.now (answer_of (state_of u) r)
            read_here =
                subst (λ (y : Given). ComesIn y.lists y.sizes m.sorts.now s.nodes.now s.binds.now s.scratch.now (state_of m) e
                (trying y.lists y.sizes s.scratch.now e (Two body rb node (record { 0 = c.0 })) Nothing next)
                u.sorts.now u.nodes.now u.binds.now u.scratch.now (answer_of (state_of u) r)) I.same
                (tried_sorts s m e only (Two body rb node (record { 0 = c.0 })) Nothing next u r d)

            pub readings_ended : (f : Full) → r ≡ Err f → Comes s₀ e (readings_of 0 false) u r
            readings_ended f h =
                record {
                  problem = same_on s₀ m e problem_there u d.problem;
                  comes =
                      I.whole u r (re.readings_stop s₀.lists.now s₀.sizes s.sorts.now s.nodes.now s.binds.now s.scratch.now (state_of s) e
                      body node element i b next I.asked I.places.0 I.places.1 I.places.2 l m.sorts.now m.lengths o x c q (state_of m)
                      (state_kept s m e (kept_sorts s m e only)) rb v u.sorts.now u.nodes.now u.binds.now u.scratch.now
                      (answer_of (state_of u) r) read_here (code_of f) u.lengths (ap (answer_of (state_of u)) h));
                }

            module _ (y : Bool) (h : r ≡ Ok y) where
              pub readings_more : ReadingsLeft u (i + 1) (b || y)
              readings_more =
                  record {
                    same = same_on s₀ m e problem_there u d.problem;
                    asked =
                        re.readings_asked s₀.lists.now s₀.sizes s.sorts.now s.nodes.now s.binds.now s.scratch.now (state_of s) e
                        body node element i b next I.asked I.places.0 I.places.1 I.places.2 l m.sorts.now m.lengths o x c q (state_of m)
                        (state_kept s m e (kept_sorts s m e only)) rb v u.sorts.now u.nodes.now u.binds.now u.scratch.now
                        (answer_of (state_of u) r) read_here y (state_of u) (ap (answer_of (state_of u)) h);
                    places =
                        re.reading_places s₀.lists.now s₀.sizes s.sorts.now s.nodes.now s.binds.now s.scratch.now (state_of s) e
                        body node element i b next I.asked I.places.0 I.places.1 I.places.2 l m.sorts.now m.lengths o x c q (state_of m)
                        (state_kept s m e (kept_sorts s m e only)) rb v u.sorts.now u.nodes.now u.binds.now u.scratch.now
                        (answer_of (state_of u) r) read_here y (state_of u) (ap (answer_of (state_of u)) h);
                    whole =
                        λ w a k. I.whole w a (re.readings_on s₀.lists.now s₀.sizes s.sorts.now s.nodes.now s.binds.now s.scratch.now (state_of s) e
                        body node element i b next I.asked I.places.0 I.places.1 I.places.2 l m.sorts.now m.lengths o x c q (state_of m)
                        (state_kept s m e (kept_sorts s m e only)) rb v u.sorts.now u.nodes.now u.binds.now u.scratch.now
                        (answer_of (state_of u) r) read_here y (state_of u) (ap (answer_of (state_of u)) h)
                        w.sorts.now w.nodes.now w.binds.now w.scratch.now (answer_of (state_of w) a) k);
                  }

-- Overloads.
module _ (s₀ : Search) (e : Branch) (x : ExprId) (p : InferSortId) (run : Run) (next : Next) where
  abbrev pub overloads_of : Goes
  overloads_of =
      λ ls z. every_overload (Unit {0}) nothing_met (problem_in ls z) x.0 p.0
      (rows_from (overload_at (drop overloads_at ls)) run.start run.count) 0 false (next_of ls z next)

  pub record OverloadsLeft (s : Search) (i : ℕ) (b : Bool) : Type 0 where
    pub same : SameProblem s₀ s
    pub going : ov.GoingOn s₀.lists.now s₀.sizes s₀.sorts.now s₀.nodes.now s₀.binds.now s₀.scratch.now (state_of s₀) e x p run next
        s.sorts.now s.nodes.now s.binds.now s.scratch.now (state_of s) i b

  pub overloads_begin : Searching s₀ e 0 (x.0 ∷ []) next → OverloadsFine (lent_of s₀) s₀.lists.now s₀.sizes p.0 run.start run.count
      → OverloadsLeft s₀ 0 false
  overloads_begin a f =
      record {
        same = refl;
        going = ov.overloads_begin s₀.lists.now s₀.sizes s₀.sorts.now s₀.nodes.now s₀.binds.now s₀.scratch.now (state_of s₀) e x p run next a f;
      }

  module _ (s : Search) (i : ℕ) (b : Bool) (I : OverloadsLeft s i b) where
    pub overloads_over : run.count ≤ i → Comes s₀ e overloads_of s (Ok b)
    overloads_over l =
        record {
          problem = I.same;
          comes =
              ov.overloads_end s₀.lists.now s₀.sizes s₀.sorts.now s₀.nodes.now s₀.binds.now s₀.scratch.now (state_of s₀) e x p run next
              s.sorts.now s.nodes.now s.binds.now s.scratch.now (state_of s) i b I.going l (answer_of (state_of s) (Ok b)) refl;
        }

    module _ (l : i < run.count) (o : InferSortId) (v : o.0 ≡ (overload_at (drop overloads_at s.lists.now) (run.start + i)).sort.0) where
      there : o.0 ≡ (overload_at (drop overloads_at s₀.lists.now) (run.start + i)).sort.0
      there = v ∙ ap (λ (g : Given). (overload_at (drop overloads_at g.lists) (run.start + i)).sort.0) I.same

      pub overload_placed : PairsPlaced s.lengths (One p o)
      overload_placed =
          ov.overload_placed s₀.lists.now s₀.sizes s₀.sorts.now s₀.nodes.now s₀.binds.now s₀.scratch.now (state_of s₀) e x p run next
          s.sorts.now s.nodes.now s.binds.now s.scratch.now (state_of s) i b I.going l o there

      pub overload_asked : Searching s e 0 (get_or (chosen_exprs s.lists.now s.sizes) e.choices 0 ∷ []) next
      overload_asked =
          subst (λ (g : Given). SearchingIn s.sorts.now s.nodes.now s.binds.now s.scratch.now g.lists g.sizes (state_of s) e 0
          (get_or (chosen_exprs g.lists g.sizes) e.choices 0 ∷ []) next) (sym I.same)
          (ov.overload_asked s₀.lists.now s₀.sizes s₀.sorts.now s₀.nodes.now s₀.binds.now s₀.scratch.now (state_of s₀) e x p run next
          s.sorts.now s.nodes.now s.binds.now s.scratch.now (state_of s) i b I.going l o there)

      module _ (u : Search) (r : Result Bool Full) (d : Comes s e (λ ls z. trying ls z s.scratch.now e (One p o) (Choice i) next) u r) where
        tried : ComesIn s₀.lists.now s₀.sizes s.sorts.now s.nodes.now s.binds.now s.scratch.now (state_of s) e
            (trying s₀.lists.now s₀.sizes s.scratch.now e (One p o) (Choice i) next)
            u.sorts.now u.nodes.now u.binds.now u.scratch.now (answer_of (state_of u) r)
        tried = comes_on s₀ s e I.same (λ ls z. trying ls z s.scratch.now e (One p o) (Choice i) next) u r d

        pub overloads_ended : (f : Full) → r ≡ Err f → Comes s₀ e overloads_of u r
        overloads_ended f h =
            record {
              problem = same_on s₀ s e I.same u d.problem;
              comes =
                  ov.overloads_stop s₀.lists.now s₀.sizes s₀.sorts.now s₀.nodes.now s₀.binds.now s₀.scratch.now (state_of s₀) e x p run next
                  s.sorts.now s.nodes.now s.binds.now s.scratch.now (state_of s) i b I.going l o there
                  u.sorts.now u.nodes.now u.binds.now u.scratch.now (answer_of (state_of u) r) tried (code_of f) u.lengths
                  (ap (answer_of (state_of u)) h);
            }

        pub overloads_more : (y : Bool) → r ≡ Ok y → OverloadsLeft u (i + 1) (b || y)
        overloads_more y h =
            record {
              same = same_on s₀ s e I.same u d.problem;
              going =
                  ov.overloads_on s₀.lists.now s₀.sizes s₀.sorts.now s₀.nodes.now s₀.binds.now s₀.scratch.now (state_of s₀) e x p run next
                  s.sorts.now s.nodes.now s.binds.now s.scratch.now (state_of s) i b I.going l o there
                  u.sorts.now u.nodes.now u.binds.now u.scratch.now (answer_of (state_of u) r) tried y (state_of u)
                  (ap (answer_of (state_of u)) h);
            }
