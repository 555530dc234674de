-- A try whose trail is the front of the scratch: by what the try leaves of the trail, and that nothing else of the scratch is lent to it. One pair of
-- places after another, by the law of tries one after another. Assumes nothing.
use mathlib.Core.Path.{◌≡◌, refl, ap, sym, ◌∙◌, subst}
use mathlib.Core.Bool.{Bool, true, false}
use mathlib.Core.List.{List, [], ◌++◌}
use Prim.Native.Nat.{ℕ, ◌+◌, ◌-◌, ◌≤◌}
use native.Mathlib.Omega.{arith}
use lib.ListN.{length, set, take, drop}
use lib.Seq.{length-take-le, take-append-le, take_all, drop-append-le, drop-length, length_front}
use Rattle.unification.specs.declared.Lengths.{Lengths}
use Rattle.std.specs.Prelude.{Option}
use Rattle.unification.specs.Nodes.{Binds, binds_of}
use Rattle.unification.specs.Unify.{Unifies, unify}
use Rattle.unification.specs.Checked.{graph_of, Ready}
use Rattle.unification.specs.declared.InferSortId.{InferSortId}
use Rattle.unification.specs.Trail.{UnifyLeaves, undo}
use Rattle.unifier.specs.Unifier.{graph, bindings, Keeps, Leaves}
use Rattle.unifier.specs.declared.Unifier.{Unifier}
use Rattle.unifier.proofs.Tries.{no_try, then_no, then_on}
use Rattle.search_state.specs.declared.Branch.{Branch}
use Rattle.search_state.specs.declared.Pairs.{Pairs}
use Rattle.search_state.specs.declared.Pairs.TheVariants.{One, Two}
use Rattle.search_state.specs.declared.Step.{Step}
use Rattle.search_state.specs.declared.Step.TheVariants.{Nothing, Component, Written, Choice}
use Rattle.search_state.specs.Inner.Memory.{trail_words, measure_at, choices_at, scratch_used}
use Rattle.search_state.specs.Inner.Leaves.{unify_pairs, trail_after, is_made, TriesPairs, step_words, branch_after}

front : (sc ts : List ℕ) → length ts ≡ trail_words → take trail_words (ts ++ drop trail_words sc) ≡ ts
front sc ts l = take-append-le trail_words ts (drop trail_words sc) (omega (arith, l)) ∙ take_all trail_words ts (omega (arith, l))

behind : (sc ts : List ℕ) → length ts ≡ trail_words → drop trail_words (ts ++ drop trail_words sc) ≡ drop trail_words sc
behind sc ts l = drop-append-le trail_words ts (drop trail_words sc) (omega (arith, l)) ∙ ap (λ xs. xs ++ drop trail_words sc) (all_dropped ts l)
  where
    all_dropped : (xs : List ℕ) → length xs ≡ trail_words → drop trail_words xs ≡ []
    all_dropped xs e = subst (λ n. drop n xs ≡ []) e (drop-length xs)

module _ (ws ns : List ℕ) (k : Lengths) (U : Unifies) (bs sc : List ℕ) (c : ℕ) (long : scratch_used ≤ length sc) where
  -- the trail alone was lent
  pub at_the_front : (bs' ts' : List ℕ) (r : Option ℕ) → length ts' ≡ length (take trail_words sc)
      → UnifyLeaves ws ns k U bs (take trail_words sc) c bs' ts' (trail_after c r) (is_made r)
      → TriesPairs ws ns k U bs sc c bs' (ts' ++ drop trail_words sc) r
  at_the_front bs' ts' r l t =
      let e : length ts' ≡ trail_words = l ∙ length-take-le trail_words sc (omega (arith, long)) in
      record {
        tries = subst (λ xs. UnifyLeaves ws ns k U bs (take trail_words sc) c bs' xs (trail_after c r) (is_made r)) (sym (front sc ts' e)) t;
        rest = behind sc ts' e;
        long = length_front sc ts' trail_words l;
      }

-- a try that failed and was undone
pub undone_again : (ws ns : List ℕ) (k : Lengths) (U : Unifies) (bs ts : List ℕ) (c : ℕ) → Ready ws ns bs k → (bs₁ ts₁ : List ℕ) (d : ℕ)
    → UnifyLeaves ws ns k U bs ts c bs₁ ts₁ d false → (bs₂ : List ℕ) → bs₂ ≡ undo ts₁ c (d - c) bs₁ → (ts₂ : List ℕ) → ts₂ ≡ ts₁
    → UnifyLeaves ws ns k U bs ts c bs₂ ts₂ c false
undone_again ws ns k U bs ts c q bs₁ ts₁ d t bs₂ eb ts₂ et =
    subst (λ (xs : List ℕ). UnifyLeaves ws ns k U bs ts c xs ts₂ c false) (sym (eb ∙ t.undone))
    (subst (λ (xs : List ℕ). UnifyLeaves ws ns k U bs ts c bs xs c false) (sym et)
    (record {
      says = t.says;
      undone = (no_try ws ns k bs ts₁ c q).undone;
      front = t.front;
      longer = omega arith;
      spent = refl;
      past = refl;
      ready = q;
    }))

-- One pair of places, or one after the other, by a unifier: ₁ marks what the first leaves.
module _ (U₀ : Unifier) (p : Pairs) where
  abbrev all : Unifies
  all = unify_pairs (graph U₀) p (bindings U₀)

  pub one_made : (l r : InferSortId) → p ≡ One l r → (V : Unifier) (b : Bool)
      → Leaves (unify (graph U₀) (bindings U₀) l.0 r.0) U₀ V b → Leaves all U₀ V b
  unfolding unify_pairs
  one_made l r q V b x = rw q x

  module _ (l r l' r' : InferSortId) (q : p ≡ Two l r l' r') (V : Unifier) (K : Keeps U₀ V) where
    abbrev g : Binds → Unifies
    g C = unify (graph U₀) C l'.0 r'.0

    pub first_not : (b : Bool) → Leaves (unify (graph U₀) (bindings U₀) l.0 r.0) U₀ V b → b ≡ false → Leaves all U₀ V false
    unfolding unify_pairs
    first_not b x e =
        rw q (then_no U₀.places.sorts.now U₀.places.nodes.now U₀.places.lengths (unify (graph U₀) (bindings U₀) l.0 r.0) g
        U₀.binds.now U₀.trail.now U₀.count V.binds.now V.trail.now V.count
        (subst (Leaves (unify (graph U₀) (bindings U₀) l.0 r.0) U₀ V) e x))

    module _ (b : Bool) (x : Leaves (unify (graph U₀) (bindings U₀) l.0 r.0) U₀ V b) (e : b ≡ true) where
      first_made : Leaves (unify (graph U₀) (bindings U₀) l.0 r.0) U₀ V true
      first_made = subst (Leaves (unify (graph U₀) (bindings U₀) l.0 r.0) U₀ V) e x

      pub both_made : (Z : Unifier) (d : Bool) → Leaves (unify (graph V) (bindings V) l'.0 r'.0) V Z d → Leaves all U₀ Z d
      unfolding unify_pairs
      both_made Z d y =
          rw q (then_on U₀.places.sorts.now U₀.places.nodes.now U₀.places.lengths (unify (graph U₀) (bindings U₀) l.0 r.0) g
          U₀.binds.now U₀.trail.now U₀.count V.binds.now V.trail.now V.count first_made Z.binds.now Z.trail.now Z.count d
          (subst (λ P. UnifyLeaves P.sorts.now P.nodes.now P.lengths
          (unify (graph_of P.sorts.now P.nodes.now P.lengths) (binds_of V.binds.now P.lengths.variables) l'.0 r'.0)
          V.binds.now V.trail.now V.count Z.binds.now Z.trail.now Z.count d) K.0 y))

-- A step, by its kind: the words that it writes, and the counts after it.
abbrev pub Pushes : List ℕ → Branch → ℕ → Step → List ℕ → Branch → Type 0
Pushes sc e t s sc' r = (sc' ≡ step_words s e sc) × (r ≡ branch_after e t s)

module _ (sc : List ℕ) (e : Branch) (t : ℕ) (s : Step) where
  pub pushes_nothing : s ≡ Nothing → Pushes sc e t s sc (record { trail = t; measure = e.measure; choices = e.choices })
  unfolding step_words
  pushes_nothing q = rw q (refl, refl)

  pub pushes_component : (c : ℕ) → s ≡ Component c → Pushes sc e t s (set sc (measure_at + e.measure) c)
      (record { trail = t; measure = e.measure + 1; choices = e.choices })
  unfolding step_words
  pushes_component c q = rw q (refl, refl)

  pub pushes_written : (n : ℕ) → s ≡ Written n → Pushes sc e t s sc (record { trail = t; measure = e.measure + n; choices = e.choices })
  unfolding step_words
  pushes_written n q = rw q (refl, refl)

  pub pushes_choice : (i : ℕ) → s ≡ Choice i → Pushes sc e t s (set sc (choices_at + e.choices) i)
      (record { trail = t; measure = e.measure; choices = e.choices + 1 })
  unfolding step_words
  pushes_choice i q = rw q (refl, refl)

-- the words that the unifier held are those that were lent
pub leaves_moved : (us vs : List ℕ) → vs ≡ us → (ts₁ ts₂ : List ℕ) → ts₂ ≡ ts₁ → (ws ns : List ℕ) (k : Lengths) (U : Unifies) (bs ts : List ℕ)
    (c d : ℕ) (r : Bool) → UnifyLeaves ws ns k U bs ts c us ts₁ d r → UnifyLeaves ws ns k U bs ts c vs ts₂ d r
leaves_moved us vs e ts₁ ts₂ f ws ns k U bs ts c d r x = rw (e, f) x
