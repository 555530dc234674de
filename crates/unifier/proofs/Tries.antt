-- A try, step by step: one that binds nothing, one that binds a variable, and one after another. Assumes nothing.
use mathlib.Core.Path.{◌≡◌, refl, ap, sym, ◌∙◌}
use mathlib.Core.List.{List}
use mathlib.Core.Option.{some}
use mathlib.Core.Bool.{Bool, true, false}
use Prim.Native.Nat.{ℕ, suc, ◌+◌, ◌-◌, ◌<◌, ◌≤◌}
use native.Mathlib.Omega.{arith}
use lib.ListN.{length, get_or, set, take, length-set}
use lib.Seq.{get_or-set_same, take-set-le, take-take, drop-set-lt}
use lib.Dec.{eqb}
use borrow.Author.Tests.{eq-eqb, ne_eqb}
use Rattle.unification.specs.declared.Lengths.{Lengths}
use Rattle.unification.specs.Nodes.{free_word, Binds, binds_of}
use Rattle.unification.specs.Unify.{Unifies, yes_with, no_way, and_then, absent, of_test, occurs, bind_unless, unify_variables, deep}
use Rattle.unification.specs.Checked.{graph_of, Ready, Placed}
use Rattle.unification.specs.Trail.{undo, frees, UnifyLeaves}
use Rattle.unification.proofs.Rank.{frees_set}
use Rattle.unification.proofs.Binding.{binding_numbered}
use Rattle.unification.proofs.Enough.{occurs_eq}
use Rattle.unification.proofs.Passed.{length_binds}
use Rattle.unification.proofs.Lists.{lower, scoped}
use Rattle.unification.proofs.Places.{place_below}
use Rattle.unification.proofs.Theorem.{deep_enough, ready_ranked}
use Rattle.unifier.specs.Inner.Trying.{Trying, Free, VariableAt}
use Rattle.unifier.proofs.Words.{binds_set, freed, places_set, undo_split, undo_front}

module _ (ws ns : List ℕ) (k : Lengths) where
  pub tries_as : (U W : Unifies) (bs ts : List ℕ) (c : ℕ) (bs' ts' : List ℕ) (d : ℕ) (r : Bool) → U ≡ W
      → UnifyLeaves ws ns k U bs ts c bs' ts' d r → UnifyLeaves ws ns k W bs ts c bs' ts' d r
  tries_as U W bs ts c bs' ts' d r e t = record {
    says = sym e ∙ t.says;
    undone = t.undone;
    front = t.front;
    longer =
        t.longer;
    spent = t.spent;
    past = t.past;
    ready = t.ready;
  }

  -- nothing is bound
  none_undone : (bs ts : List ℕ) (c : ℕ) → undo ts c (c - c) bs ≡ bs
  unfolding undo
  none_undone bs ts c = ap (λ (x : ℕ). undo ts c x bs) (let z : c - c ≡ 0 = omega arith in z)

  pub binds_nothing : (bs ts : List ℕ) (c : ℕ) → Ready ws ns bs k → UnifyLeaves ws ns k (yes_with (binds_of bs k.variables)) bs ts c bs ts c true
  binds_nothing bs ts c q = record { says = refl; undone = none_undone bs ts c; front = refl; longer = omega arith; spent = refl; past = refl; ready = q }

  pub no_try : (bs ts : List ℕ) (c : ℕ) → Ready ws ns bs k → UnifyLeaves ws ns k no_way bs ts c bs ts c false
  no_try bs ts c q = record { says = refl; undone = none_undone bs ts c; front = refl; longer = omega arith; spent = refl; past = refl; ready = q }

  -- a variable is bound
  module _ (bs ts : List ℕ) (c : ℕ) (t : Trying ws ns bs ts k c) (v w : ℕ) (f : Free bs k v) (p : Placed k w)
      (o : occurs (graph_of ws ns k) deep (binds_of bs k.variables) v w ≡ absent) where
    abbrev B : Binds
    B = binds_of bs k.variables

    no_free_word : w ≡ free_word → ⊥
    no_free_word e = omega (arith, place_below k.sorts k.nodes w t.ready.nodes.sorts.sorts p, t.ready.nodes.nodes, e)

    as_binding : binds_of (set bs v w) k.variables ≡ set B v (some w)
    as_binding = binds_set bs k.variables v w f.listed t.ready.long no_free_word

    inside : v < length B
    inside = omega (arith, f.listed, length_binds bs k.variables)

    fewer : suc (frees (set B v (some w))) ≡ frees B
    fewer = frees_set B v w inside f.free

    pub bind_room : (v < length bs) × (c < length ts)
    bind_room = (omega (arith, f.listed, t.ready.long), omega (arith, t.room, fewer))

    ready_then : Ready ws ns (set bs v w) k
    ready_then =
        record {
          nodes = t.ready.nodes;
          binds =
              record {
                many = length_binds (set bs v w) k.variables;
                places = rw as_binding (places_set k.sorts k.nodes B v w t.ready.binds.places p);
                numbered =
                    rw as_binding
                    (binding_numbered (graph_of ws ns k) 3072 (lower ws k.sorts k.entries ns k.nodes
                    k.arguments k.variables t.ready.nodes) k.variables
                    (scoped ws k.sorts k.entries ns k.nodes k.arguments k.variables t.ready.nodes) deep
                    (deep_enough ws k.sorts k.entries ns k.nodes k.arguments k.variables
                    t.ready.nodes) B t.ready.binds.numbered v w f.free inside o);
              };
          long = omega (arith, t.ready.long, length-set bs v w);
        }

    one_undone : undo (set ts c v) c (c + 1 - c) (set bs v w) ≡ bs
    unfolding undo
    one_undone =
        ap (λ (x : ℕ). undo (set ts c v) c x (set bs v w)) (let z : c + 1 - c ≡ 1 = omega arith in z)
        ∙ (ap (λ (x : ℕ). set (set bs v w) (get_or (set ts c v) x 0) free_word) (let z : c + 0 ≡ c = omega arith in z)
        ∙ (ap (λ (x : ℕ). set (set bs v w) x free_word) (get_or-set_same ts c v 0 bind_room.1) ∙ freed bs k.variables v w f.listed f.free))

    pub one_bound : UnifyLeaves ws ns k (yes_with (set B v (some w))) bs ts c (set bs v w) (set ts c v) (c + 1) true
    one_bound =
        record {
          says = ap yes_with (sym as_binding);
          undone = one_undone;
          front = take-set-le c ts c v (omega arith);
          longer = omega arith;
          spent = omega (arith, fewer, ap frees as_binding);
          past = drop-set-lt k.variables bs v w f.listed;
          ready = ready_then;
        }

  -- one after another
  module _ (U : Unifies) (g : Binds → Unifies) (bs ts : List ℕ) (c : ℕ) (bs₁ ts₁ : List ℕ) where
    pub then_no : (d : ℕ) → UnifyLeaves ws ns k U bs ts c bs₁ ts₁ d false → UnifyLeaves ws ns k (and_then U g) bs ts c bs₁ ts₁ d false
    then_no d t = record {
      says = ap (λ x. and_then x g) t.says;
      undone = t.undone;
      front = t.front;
      longer =
          t.longer;
      spent = t.spent;
      past = t.past;
      ready = t.ready;
    }

    pub then_on : (d : ℕ) → UnifyLeaves ws ns k U bs ts c bs₁ ts₁ d true → (bs₂ ts₂ : List ℕ) (e : ℕ) (r : Bool)
        → UnifyLeaves ws ns k (g (binds_of bs₁ k.variables)) bs₁ ts₁ d bs₂ ts₂ e r
        → UnifyLeaves ws ns k (and_then U g) bs ts c bs₂ ts₂ e r
    then_on d t bs₂ ts₂ e r u =
        record {
          says = ap (λ x. and_then x g) t.says ∙ u.says;
          undone =
              ap (λ (x : ℕ). undo ts₂ c x bs₂) (let z : e - c ≡ (d - c) + (e - d) = omega (arith, t.longer, u.longer) in z)
              ∙ (undo_split ts₂ c (d - c) (e - d) bs₂
              ∙ (ap (λ (x : ℕ). undo ts₂ c (d - c) (undo ts₂ x (e - d) bs₂)) (let z : c + (d - c) ≡ d = omega (arith, t.longer) in z)
              ∙ (ap (undo ts₂ c (d - c)) u.undone ∙ (undo_front ts₂ ts₁ c (d - c) d bs₁ (omega (arith, t.longer)) u.front ∙ t.undone))));
          front = sym (take-take c d ts₂ t.longer) ∙ (ap (take c) u.front ∙ (take-take c d ts₁ t.longer ∙ t.front));
          longer = omega (arith, t.longer, u.longer);
          spent = u.spent ∙ t.spent;
          past = u.past ∙ t.past;
          ready = u.ready;
        }

  -- there is room to go on
  pub trying_on : (U : Unifies) (bs ts : List ℕ) (c : ℕ) (bs₁ ts₁ : List ℕ) (d : ℕ) → Trying ws ns bs ts k c
      → length ts₁ ≡ length ts → UnifyLeaves ws ns k U bs ts c bs₁ ts₁ d true → Trying ws ns bs₁ ts₁ k d
  trying_on U bs ts c bs₁ ts₁ d t l u = record { ready = u.ready; room = omega (arith, u.spent, t.room, l); short = omega (arith, t.short, l) }

  -- the two ways to bind
  module _ (bs ts : List ℕ) (c : ℕ) (t : Trying ws ns bs ts k c) (v w : ℕ) (f : Free bs k v) (p : Placed k w) where
    abbrev old : Binds
    old = binds_of bs k.variables

    abbrev checked : Unifies
    checked = bind_unless (graph_of ws ns k) (occurs (graph_of ws ns k) deep old v w) old v w

    set_yes : (U : Unifies) → occurs (graph_of ws ns k) deep old v w ≡ absent → yes_with (set old v (some w)) ≡ U
        → (bs₁ ts₁ : List ℕ) (d : ℕ) → bs₁ ≡ set bs v w → ts₁ ≡ set ts c v → d ≡ c + 1 → UnifyLeaves ws ns k U bs ts c bs₁ ts₁ d true
    set_yes U o e bs₁ ts₁ d y z x = rw (y, z, x) (tries_as (yes_with (set old v (some w))) U bs ts c (set bs v w)
        (set ts c v) (c + 1) true e (one_bound bs ts c t v w f p o))

    module _ (b : Bool) (e : occurs (graph_of ws ns k) deep old v w ≡ of_test b) where
      pub occurs_no : b ≡ true → UnifyLeaves ws ns k checked bs ts c bs ts c false
      occurs_no x = tries_as no_way checked bs ts c bs ts c false
          (sym (ap (λ o. bind_unless (graph_of ws ns k) o old v w) (e ∙ ap of_test x))) (no_try bs ts c t.ready)

      module _ (x : b ≡ false) where
        is_absent : occurs (graph_of ws ns k) deep old v w ≡ absent
        is_absent = e ∙ ap of_test x

        pub room_to_bind : (v < length bs) × (c < length ts)
        room_to_bind = bind_room bs ts c t v w f p is_absent

        pub bound_yes : (bs₁ ts₁ : List ℕ) (d : ℕ) → bs₁ ≡ set bs v w → ts₁ ≡ set ts c v → d ≡ c + 1 → UnifyLeaves ws ns k checked bs ts c bs₁ ts₁ d true
        bound_yes = set_yes checked is_absent (sym (ap (λ o. bind_unless (graph_of ws ns k) o old v w) is_absent))

    module _ (u : ℕ) (g : Free bs k u) (s : VariableAt ws ns k w u) where
      abbrev variables : Unifies
      variables = unify_variables (graph_of ws ns k) (eqb v u) old v w

      pub one_variable : v ≡ u → UnifyLeaves ws ns k variables bs ts c bs ts c true
      one_variable e = tries_as (yes_with old) variables bs ts c bs ts c true
          (sym (ap (λ b. unify_variables (graph_of ws ns k) b old v w) (eq-eqb v u e))) (binds_nothing bs ts c
          t.ready)

      module _ (d : v ≡ u → ⊥) where
        other_absent : occurs (graph_of ws ns k) deep old v w ≡ absent
        other_absent = occurs_eq (graph_of ws ns k) deep old (ready_ranked ws ns bs k t.ready) v w ∙ rw s.stands (rw g.free (ap of_test (ne_eqb v u d)))

        pub room_for_variable : (v < length bs) × (c < length ts)
        room_for_variable = bind_room bs ts c t v w f p other_absent

        pub variable_yes : (bs₁ ts₁ : List ℕ) (d : ℕ) → bs₁ ≡ set bs v w → ts₁ ≡ set ts c v → d ≡ c + 1 → UnifyLeaves ws ns k variables bs ts c bs₁ ts₁ d true
        variable_yes = set_yes variables other_absent (sym (ap (λ b. unify_variables (graph_of ws ns k) b old v w) (ne_eqb v u d)))

-- undoing, one at a time
module _ (ts : List ℕ) (base count : ℕ) where
  pub record Undoing (bs left : List ℕ) (n : ℕ) : Type 0 where
    pub rest : undo ts base (count - base) bs ≡ undo ts base (n - base) left
    pub lower : base ≤ n
    pub upper : n ≤ count
    pub long : length left ≡ length bs

  pub undo_goes_on : (bs left : List ℕ) (n : ℕ) → Undoing bs left n → base < n → (left₁ : List ℕ)
      → left₁ ≡ set left (get_or ts (n - 1) 0) free_word → Undoing bs left₁ (n - 1)
  unfolding undo
  undo_goes_on bs left n u l left₁ e =
      record {
        rest =
            u.rest
            ∙ (ap (λ (x : ℕ). undo ts base x left) (let z : n - base ≡ suc (n - 1 - base) = omega (arith, l) in z)
            ∙ (ap (λ (x : ℕ). undo ts base (n - 1 - base) (set left (get_or ts x 0) free_word)) (let z : base + (n - 1 - base) ≡ n - 1 = omega (arith, l) in z)
            ∙ ap (undo ts base (n - 1 - base)) (sym e)));
        lower = omega (arith, l);
        upper = omega (arith, u.upper);
        long = ap length e ∙ (length-set left (get_or ts (n - 1) 0) free_word ∙ u.long);
      }

  pub undo_ends : (bs left : List ℕ) (n : ℕ) → Undoing bs left n → n ≤ base → left ≡ undo ts base (count - base) bs
  unfolding undo
  undo_ends bs left n u l = sym (u.rest ∙ ap (λ (x : ℕ). undo ts base x left) (let z : n - base ≡ 0 = omega (arith, l) in z))
