-- One induction over the search, for all that is shown of its leaves. A branch goes from a world to a world, and a leaf was found on it or not. Where
-- that much is known: that a change of the lent lists finds none, and that two branches after one another find one where either does; and where it
-- holds of every leaf, it holds of the whole search. A leaf is reached on a path that has, for each constraint in turn, its components and its
-- choice. No room is 15 or 16. Assumes nothing.
use mathlib.Core.Path.{◌≡◌, refl, sym, ap, ap₂, subst, ◌∙◌}
use mathlib.Core.Bool.{Bool, true, false, cond, ◌||◌, or-true, or-false}
use mathlib.Core.List.{List, [], ◌∷◌, ◌++◌, append_assoc, append-nil}
use mathlib.Core.Option.{Option, none, some}
use mathlib.Core.Logic.{◌⊎◌, inl}
use Prim.Native.Nat.{ℕ, suc, ◌+◌, ◌<◌}
use native.Mathlib.Omega.{arith}
use lib.ListN.{length, take, drop, length-append, length-take}
use Rattle.resolved_sort.specs.declared.Run.{Run}
use Rattle.resolved_sort.specs.Entries.{Joined}
use Rattle.resolved_sort.specs.Entries.{At, Nothing as NotThere, Full}
use Rattle.resolved_sort.specs.Tree.{unit, primitive, def, typevar}
use Rattle.resolved_sort.specs.Order.{distance}
use Rattle.resolved_sort.specs.Entries.{Stored}
use Rattle.resolved_sort.specs.Bounds.{bound_at}
use Rattle.unification.specs.Default.{Default}
use Rattle.std.specs.Prelude.{Some as Is, None as Nothing}
use Rattle.unification.specs.Term.{flat_head, container_head, function_head, stray_head, Shape, variable, over}
use Rattle.unification.specs.Nodes.{Binds}
use Rattle.unification.specs.Unify.{Unifies, yes_with, no_way, too_deep, deep, follow, unify}
use Rattle.unification.specs.Related.{each}
use Rattle.unification.specs.Resolve.{value, term_resolved}
use Rattle.unification.specs.Making.{Lent, graph, Makes, made, no_list, no_room, with_nodes_of, intern_container, strict_related}
use Rattle.unification.specs.Growing.{BindsExtend}
use Rattle.unification.proofs.BoundStays.{extends_refl, extends_trans, unify_extends}
use Rattle.unification.proofs.Outcomes.{Each, Any, each_then, each_container}
use Rattle.unification.proofs.Room.{no_room_is_15_or_16}
use Rattle.unification.proofs.StandsAlike.{length_each}
use Rattle.unification.specs.declared.InferSortId.{InferSortId}
use Rattle.inference.specs.declared.ExprId.{ExprId}
use Rattle.inference.specs.declared.LitKind.{LitKind}
use Rattle.inference.specs.declared.Overload.{Overload}
use Rattle.inference.specs.declared.Constraint.{Constraint}
use Rattle.inference.specs.declared.Constraint.TheVariants.{Sub, Lit, Disjunction, Comprehension, Join}
use Rattle.inference.specs.Constraints.{Problem}
use Rattle.inference.specs.Measure.{Components, Ranking, smaller, equal, greater, compare}
use Rattle.inference.specs.Search.{makes_sort, resolve_in, join_in, resolve_all, Agreed, join_all, sort_in}
use Rattle.inference.specs.Search.{head_steps, all_into, agreed, join_of, Choice, Path, Candidate, with_binds}
use Rattle.inference.specs.Search.{with_components, with_choice, Try, wider_tries, narrower_tries, lit_component}
use Rattle.inference.specs.Search.{lit_tries, Reading, readings, World, Out, found, missed, ended, lending}
use Rattle.inference.specs.Search.{else_try, and_also, says, on_yes, unifying, on_made, nodes_returned, first_found}
use Rattle.inference.specs.Search.{narrower, wider, widening, at_sort, literal_at, literal_end, literal}
use Rattle.inference.specs.Search.{every_reading, every_overload, sequence, joining, step, keeping, replace}
use Rattle.inference.specs.Search.{marked_tied, leaf_by, leaf_over, leaf, dominated_by, unless_dominated, solve}

-- Room that ends is that of sorts or that of nodes.
abbrev pub Ends : ℕ → Type 0
Ends c = (c ≡ 15) ⊎ (c ≡ 16)

abbrev EndsIn : ℕ → Lent → Type 0
EndsIn c W = Ends c

abbrev Perhaps : Lent → Type 0
Perhaps W = Unit {0}

-- what is made, of which it is known where room ends
ends_each : {A : Type 0} (m : Makes A) → ((c : ℕ) (W : Lent) → m ≡ no_room c W → Ends c) → Each Any Perhaps EndsIn m
ends_each (made a W) h = tt
ends_each (no_list W) h = tt
ends_each (no_room c W) h = h c W refl

sort_ends : (W : Lent) (r : Stored) (j : Joined) → Each Any Perhaps EndsIn (makes_sort W r j)
sort_ends W r (At id c) = tt
sort_ends W r (NotThere c) = tt
sort_ends W r Full = inl refl

resolve_in_ends : (x : Default) (B : Binds) (p : ℕ) (W : Lent) → Each Any Perhaps EndsIn (resolve_in x B p W)
unfolding resolve_in
resolve_in_ends x B p W = sort_ends W (term_resolved W.sorts W.lengths x (value (graph W) B p))
    (term_resolved W.sorts W.lengths x (value (graph W) B p)).answer

join_in_ends : (a b : ℕ) (W : Lent) → Each Any Perhaps EndsIn (join_in a b W)
unfolding join_in
join_in_ends a b W = sort_ends W (bound_at true W.sorts W.lengths.sorts W.lengths.entries a b)
    (bound_at true W.sorts W.lengths.sorts W.lengths.entries a b).answer

-- as many sorts as there are places
one_sort_each : (x : Default) (B : Binds) (ps : List ℕ) (W : Lent) → Each (λ ss W. length ss ≡ length ps) Perhaps EndsIn (resolve_all x B ps W)
unfolding resolve_all
one_sort_each x B [] W = refl
one_sort_each x B (p ∷ ps) W =
    each_then Any (λ ss W. length ss ≡ suc (length ps)) Perhaps EndsIn (resolve_in x B p W) _ (resolve_in_ends x B p W)
    (λ s W' u. each_then (λ ss W. length ss ≡ length ps) (λ ss W. length ss ≡ suc (length ps)) Perhaps EndsIn
    (resolve_all x B ps W') _ (one_sort_each x B ps W') (λ ss U i. ap suc i))

join_all_ends : (a : ℕ) (bs : List ℕ) (W : Lent) → Each Any Perhaps EndsIn (join_all a bs W)
unfolding join_all
join_all_ends a [] W = tt
join_all_ends a (b ∷ bs) W = each_then Any Any Perhaps EndsIn (join_in a b W) _ (join_in_ends a b W) (λ j W' u. join_all_ends j bs W')

abbrev AsMany : ℕ → Agreed → Lent → Type 0
AsMany n a W = length a.components ≡ n

agreed_each : (ss : List ℕ) (W : Lent) → Each (AsMany (length ss)) Perhaps EndsIn (agreed ss W)
unfolding agreed
agreed_each [] W = tt
agreed_each (s ∷ ss) W =
    each_then Any (AsMany (suc (length ss))) Perhaps EndsIn (join_all s ss W) _ (join_all_ends s ss W) (λ j W' u. go j W' (all_into W' j (s ∷ ss)))
  where
    go : (j : ℕ) (W' : Lent) (b : Bool)
        → Each (AsMany (suc (length ss))) Perhaps EndsIn
        (cond b (made (record { sort = j; components = each (λ s. head_steps (distance true (sort_in W' s) (sort_in W' j))) (s ∷ ss) }) W') (no_list W'))
    go j W' true = ap suc (length_each (λ s. head_steps (distance true (sort_in W' s) (sort_in W' j))) ss)
    go j W' false = tt

-- as many components as there are sources
join_of_each : (B : Binds) (ps : List ℕ) (W : Lent) → Each (AsMany (length ps)) Perhaps EndsIn (join_of B ps W)
unfolding join_of
join_of_each B ps W =
    each_then (λ ss W. length ss ≡ length ps) (AsMany (length ps)) Perhaps EndsIn (resolve_all Nothing B ps W) agreed (one_sort_each Nothing B ps W)
    (λ ss W' i. subst (λ n. Each (AsMany n) Perhaps EndsIn (agreed ss W')) i (agreed_each ss W'))

-- The path e' goes on from e: n components more, choices of which K holds, and bindings that extend those of e, so that no variable is bound twice.
pub record Adds (e : Path) (n : ℕ) (K : List Choice → Type 0) (e' : Path) : Type 0 where
  pub components : Components
  pub measure : e'.measure ≡ e.measure ++ components
  pub many : length components ≡ n
  pub more : List Choice
  pub choices : e'.choices ≡ e.choices ++ more
  pub fine : K more
  pub binds : BindsExtend e.binds e'.binds

abbrev pub NoChoice : List Choice → Type 0
NoChoice ks = ks ≡ []

adds_components : (e : Path) (ns : Components) (n : ℕ) → length ns ≡ n → (C : Binds) → BindsExtend e.binds C → Adds e n NoChoice (with_components e ns C)
adds_components e ns n i C x = record { components = ns; measure = refl; many = i; more = []; choices = sym (append-nil e.choices); fine = refl; binds = x }

adds_choices : (e : Path) (ks : List Choice) (K : List Choice → Type 0) → K ks → (C : Binds)
    → BindsExtend e.binds C → Adds e 0 K (record { binds = C; measure = e.measure; choices = e.choices ++ ks })
adds_choices e ks K h C x = record { components = []; measure = sym (append-nil e.measure); many = refl; more = ks; choices = refl; fine = h; binds = x }

adds_nothing : (e : Path) (K : List Choice → Type 0) → K [] → (C : Binds) → BindsExtend e.binds C → Adds e 0 K (with_binds e C)
adds_nothing e K h C x = record {
  components = [];
  measure = sym (append-nil e.measure);
  many = refl;
  more = [];
  choices = sym (append-nil e.choices);
  fine = h;
  binds = x;
}

-- one stretch after another
adds_after : (e e' e'' : Path) (n m l : ℕ) (K L M : List Choice → Type 0) → Adds e n K e' → Adds e' m L e'' → n + m ≡ l
    → ((ks ls : List Choice) → K ks → L ls → M (ks ++ ls)) → Adds e l M e''
adds_after e e' e'' n m l K L M a b s f =
    record {
      components = a.components ++ b.components;
      measure = b.measure ∙ (ap (λ xs. xs ++ b.components) a.measure ∙ append_assoc e.measure a.components b.components);
      many = length-append a.components b.components ∙ (ap₂ ◌+◌ a.many b.many ∙ s);
      more = a.more ++ b.more;
      choices = b.choices ∙ (ap (λ xs. xs ++ b.more) a.choices ∙ append_assoc e.choices a.more b.more);
      fine = f a.more b.more a.fine b.fine;
      binds = extends_trans e.binds e'.binds e''.binds a.binds b.binds;
    }

-- what is kept of a leaf with the sorts ss
abbrev pub newcomer : Path → List ℕ → Candidate
newcomer e ss = record { measure = e.measure; sorts = ss; choices = e.choices; duplicate = false }

-- What a constraint has chosen: a disjunction one of its overloads, the others nothing.
unfoldable pub Chooses : Constraint → List Choice → Type 0
Chooses (Sub l r) ks = NoChoice ks
Chooses (Lit p kind) ks = NoChoice ks
Chooses (Disjunction x p run) ks = (i : ℕ) × (i < run.count) × (ks ≡ record { expr = x.0; position = i } ∷ [])
Chooses (Comprehension body node element) ks = NoChoice ks
Chooses (Join run t) ks = NoChoice ks

pub data Choosing : List Constraint → List Choice → Type 0 where
  none_to_choose : Choosing [] []
  and_chooses : (c : Constraint) (cs : List Constraint) (ks ls : List Choice) → Chooses c ks → Choosing cs ls → Choosing (c ∷ cs) (ks ++ ls)

module _ (P : Problem) where
  -- "one per Sub, per Lit, per Join source"
  unfoldable pub width_of : Constraint → ℕ
  width_of (Sub l r) = 1
  width_of (Lit p kind) = 1
  width_of (Disjunction x p run) = 0
  width_of (Comprehension body node element) = 0
  width_of (Join run t) = length (take run.count (drop run.start P.sources))

  unfoldable pub width : List Constraint → ℕ
  width [] = 0
  width (c ∷ cs) = width_of c + width cs

module _ {Met : Type 0} (Went : World Met → Bool → World Met → Type 0) where
  -- where a branch went
  unfoldable pub Goes : World Met → Out Met → Type 0
  Goes w (found v) = Went w true v
  Goes w (missed v) = Went w false v
  Goes w (ended c W) = Ends c

module _ (Met : Type 0) (meet : Path → Lent → Met → Met) (P : Problem) (Went : World Met → Bool → World Met
    → Type 0) (stays : (w : World Met) (W : Lent) → Went w false (lending w W))
    (after : (u v w : World Met) (a b : Bool) → Went u a v → Went v b w → Went u (a || b) w) where
  goes_after : (u v : World Met) → Went u false v → (o : Out Met) → Goes Went v o → Goes Went u o
  unfolding Goes
  goes_after u v x (found w) y = after u v w false true x y
  goes_after u v x (missed w) y = after u v w false false x y
  goes_after u v x (ended c W) y = y

  missed_goes : (w : World Met) (W : Lent) → Goes Went w (missed (lending w W))
  unfolding Goes
  missed_goes w W = stays w W

  or_else_goes : (w : World Met) (o : Out Met) → Goes Went w o → (g : World Met → Out Met) → ((v : World Met) → Goes Went v (g v)) → Goes Went w (else_try o g)
  unfolding Goes
  or_else_goes w (found v) x g y = x
  or_else_goes w (missed v) x g y = goes_after w v x (g v) (y v)
  or_else_goes w (ended c W) x g y = x

  -- since u a leaf was found, if b
  and_also_goes : (u w : World Met) (b : Bool) → Went u b w → (o : Out Met) → Goes Went w o → (g : Bool → World Met → Out Met)
      → ((a : Bool) (v : World Met) → Went u a v → Goes Went u (g a v)) → Goes Went u (and_also o b g)
  unfolding Goes
  and_also_goes u w b z (found v) x g y = y true v (subst (λ a. Went u a v) (or-true b) (after u w v b true z x))
  and_also_goes u w b z (missed v) x g y = y b v (subst (λ a. Went u a v) (or-false b) (after u w v b false z x))
  and_also_goes u w b z (ended c W) x g y = x

  says_goes : (u w : World Met) (b : Bool) → Went u b w → Goes Went u (says b w)
  unfolding Goes
  says_goes u w true x = x
  says_goes u w false x = x

  unifying_goes : (B : Binds) (l r : ℕ) (k : Binds → World Met → Out Met) (w : World Met)
      → ((C : Binds) → BindsExtend B C → Goes Went w (k C w)) → Goes Went w (unifying B l r k w)
  unfolding unifying
  unifying_goes B l r k w h = go (unify (graph w.lent) B l r) refl
    where
      go : (U : Unifies) → unify (graph w.lent) B l r ≡ U → Goes Went w (on_yes U k w)
      go (yes_with C) q = h C (unify_extends (graph w.lent) B l r C q)
      go no_way q = missed_goes w w.lent
      go too_deep q = missed_goes w w.lent

  on_made_goes : {A : Type 0} (In : A → Lent → Type 0) (N : Lent → Type 0) (m : Makes A) → Each In N EndsIn m
      → (u w : World Met) (k : A → World Met → Out Met) (g : World Met → Out Met)
      → ((a : A) (W : Lent) → In a W → Goes Went u (k a (lending w W))) → ((W : Lent) → N W → Goes Went u (g (lending w W))) → Goes Went u (on_made m k g w)
  unfolding Goes
  on_made_goes In N (made a W) h u w k g x y = x a W h
  on_made_goes In N (no_list W) h u w k g x y = y W h
  on_made_goes In N (no_room c W) h u w k g x y = h

  given_back_goes : (U : Lent) (w : World Met) (o : Out Met) → Goes Went w o → Goes Went w (nodes_returned U o)
  unfolding Goes
  given_back_goes U w (found v) x = subst (λ a. Went w a (lending v (with_nodes_of U v.lent))) (or-false true)
      (after w v _ true false x (stays v (with_nodes_of U v.lent)))
  given_back_goes U w (missed v) x = after w v _ false false x (stays v (with_nodes_of U v.lent))
  given_back_goes U w (ended c W) x = x

  -- on from every world
  abbrev From : (World Met → Out Met) → Type 0
  From k = (w : World Met) → Goes Went w (k w)

  lent_goes : (w : World Met) (W : Lent) (k : World Met → Out Met) → From k → Goes Went w (k (lending w W))
  lent_goes w W k h = goes_after w (lending w W) (stays w W) (k (lending w W)) (h (lending w W))

  module _ (k : Path → World Met → Out Met) (e : Path) where
    module _ (h : (n : ℕ) (C : Binds) → BindsExtend e.binds C → From (k (with_components e (n ∷ []) C))) where
      first_found_goes : (ts : List Try) → From (first_found Met meet P ts k e)
      unfolding first_found
      first_found_goes [] w = missed_goes w w.lent
      first_found_goes (t ∷ ts) w =
          or_else_goes w _ (unifying_goes e.binds t.left t.right _ w (λ C x. h t.component C x w))
          (first_found Met meet P ts k e) (first_found_goes ts)

      -- the tries over what was made, whose nodes are given back
      tried_goes : (w : World Met) (W : Lent) (ts : List Try) → Goes Went w (nodes_returned w.lent (first_found Met meet P ts k e (lending w W)))
      tried_goes w W ts = given_back_goes w.lent w _ (lent_goes w W (first_found Met meet P ts k e) (first_found_goes ts))

      narrower_goes : (l r : ℕ) → From (narrower Met meet P l r k e)
      narrower_goes l r w =
          on_made_goes Any Perhaps (strict_related false e.binds r w.lent) (ends_each _ (no_room_is_15_or_16 w.lent false e.binds r)) w w _ missed
          (λ ps W u. tried_goes w W (narrower_tries l 1 ps)) (λ W u. missed_goes w W)

      wider_goes : (l r : ℕ) → From (wider Met meet P l r k e)
      wider_goes l r w =
          on_made_goes Any Perhaps (strict_related true e.binds l w.lent)
          (ends_each _ (no_room_is_15_or_16 w.lent true e.binds l)) w w _ (narrower Met meet P l r k e)
          (λ ps W u. tried_goes w W (wider_tries r 1 ps)) (λ W u. lent_goes w W (narrower Met meet P l r k e) (narrower_goes l r))

      widening_goes : (l r : ℕ) → From (widening Met meet P l r k e)
      unfolding widening
      widening_goes l r w = or_else_goes w _ (unifying_goes e.binds l r _ w (λ C x. h 0 C x w)) (wider Met meet P l r k e) (wider_goes l r)

      literal_goes : (kind : LitKind) (p : ℕ) → From (literal Met meet P kind p k e)
      unfolding literal
      literal_goes kind p w = go (follow (graph w.lent) deep e.binds p)
        where
          at : (g : Option ℕ) → Goes Went w (at_sort Met meet P g k e w)
          at none = missed_goes w w.lent
          at (some g) = h g e.binds (extends_refl e.binds) w

          by : (s : Shape) → Goes Went w (literal_at Met meet P kind p s k e w)
          by (variable v) = first_found_goes (lit_tries kind p) w
          by (over (flat_head unit) ps) = missed_goes w w.lent
          by (over (flat_head (primitive s)) ps) = at (lit_component kind s)
          by (over (flat_head (def n)) ps) = missed_goes w w.lent
          by (over (flat_head (typevar n)) ps) = missed_goes w w.lent
          by (over (container_head o) ps) = missed_goes w w.lent
          by (over (function_head n) ps) = missed_goes w w.lent
          by (over (stray_head n) ps) = missed_goes w w.lent

          go : (o : Option ℕ) → Goes Went w (literal_end Met meet P kind p o k e w)
          go none = missed_goes w w.lent
          go (some q) = by (graph w.lent q)

    every_reading_goes : ((D : Binds) → BindsExtend e.binds D → From (k (with_binds e D)))
        → (rs : List Reading) (body node element : ℕ) (b : Bool) (u w : World Met) → Went u b w
        → Goes Went u (every_reading Met meet P rs body node element b k e w)
    unfolding every_reading
    every_reading_goes h [] body node element b u w x = says_goes u w b x
    every_reading_goes h (r ∷ rs) body node element b u w x =
        on_made_goes Any (λ W. ⊥) (intern_container r.op element w.lent) (each_container (λ W. ⊥) EndsIn Any
        r.op element w.lent (λ p W. tt) (inl refl)) u w _ missed
        (λ s W i.
        and_also_goes u (lending w W) b (subst (λ a. Went u a (lending w W)) (or-false b) (after u w (lending w W) b false x (stays w W))) _
        (unifying_goes e.binds body r.body _ (lending w W) (λ C x. unifying_goes C node s _ (lending w W)
        (λ D y. h D (extends_trans e.binds C D x y) (lending w W))))
        (λ a. every_reading Met meet P rs body node element a k e) (λ a v y. every_reading_goes h rs body node element a u v y))
        (λ W i. absurd i)

    every_overload_goes : (x p : ℕ) (os : List Overload) (i : ℕ) → ((j : ℕ) → j < i + length os → (C : Binds)
        → BindsExtend e.binds C → From (k (with_choice e x j C))) → (b : Bool) (u w : World Met) → Went u b w
        → Goes Went u (every_overload Met meet P x p os i b k e w)
    unfolding every_overload
    every_overload_goes x p [] i h b u w y = says_goes u w b y
    every_overload_goes x p (o ∷ os) i h b u w y =
        and_also_goes u w b y _ (unifying_goes e.binds p o.sort.0 _ w (λ C z. h i (omega arith) C z w))
        (λ a. every_overload Met meet P x p os (i + 1) a k e)
        (λ a v z. every_overload_goes x p os (i + 1) (λ j l. h j (omega (arith, l))) a u v z)

  sequence_goes : (ss : List ℕ) (t : ℕ) (k : Path → World Met → Out Met) (e : Path)
      → ((e' : Path) → Adds e (length ss) NoChoice e' → From (k e')) → From (sequence Met meet P ss t k e)
  unfolding sequence
  sequence_goes [] t k e h = h e (adds_nothing e NoChoice refl e.binds (extends_refl e.binds))
  sequence_goes (s ∷ ss) t k e h =
      widening_goes (sequence Met meet P ss t k) e
      (λ n C x.
      sequence_goes ss t k (with_components e (n ∷ []) C)
      (λ e' a. h e' (adds_after e _ e' 1 (length ss) _ NoChoice NoChoice NoChoice (adds_components e (n ∷ []) 1 refl C
      x) a (omega arith) (λ ks ls i j. ap₂ ◌++◌ i j))))
      s t

  joining_goes : (ss : List ℕ) (t : ℕ) (k : Path → World Met → Out Met) (e : Path)
      → ((e' : Path) → Adds e (length ss) NoChoice e' → From (k e')) → From (joining Met meet P ss t k e)
  unfolding joining
  joining_goes ss t k e h w =
      on_made_goes (AsMany (length ss)) Perhaps (join_of e.binds ss w.lent) (join_of_each e.binds ss w.lent) w w _ (sequence Met meet P ss t k e)
      (λ a W i. lent_goes w W
      (λ v. else_try (unifying e.binds t a.sort (λ C. k (with_components e a.components C)) v) (sequence Met meet P ss t k e))
      (λ v. or_else_goes v _ (unifying_goes e.binds t a.sort _ v (λ C x. h _ (adds_components e a.components
      (length ss) i C x) v)) (sequence Met meet P ss t k e) (sequence_goes ss t k e h)))
      (λ W u. lent_goes w W (sequence Met meet P ss t k e) (sequence_goes ss t k e h))

  disjunction_goes : (x : ExprId) (p : InferSortId) (run : Run) (k : Path → World Met → Out Met) (e : Path)
      → ((e' : Path) → Adds e 0 (Chooses (Disjunction x p run)) e' → From (k e'))
      → From (step Met meet P (Disjunction x p run) k e)
  unfolding step Chooses
  disjunction_goes x p run k e h w =
      every_overload_goes k e x.0 p.0 os 0
      (λ j l C y. h _ (adds_choices e (record { expr = x.0; position = j } ∷ []) (Chooses (Disjunction x p run))
      (j, omega (arith, l, length-take run.count (drop run.start P.overloads)), refl) C y))
      false w w (stays w w.lent)
    where
      os : List Overload
      os = take run.count (drop run.start P.overloads)

  step_goes : (c : Constraint) (k : Path → World Met → Out Met) (e : Path)
      → ((e' : Path) → Adds e (width_of P c) (Chooses c) e' → From (k e')) → From (step Met meet P c k e)
  unfolding step width_of Chooses
  step_goes (Sub l r) k e h = widening_goes k e (λ n C x. h _ (adds_components e (n ∷ []) 1 refl C x)) l.0 r.0
  step_goes (Lit p kind) k e h = literal_goes k e (λ n C x. h _ (adds_components e (n ∷ []) 1 refl C x)) kind p.0
  step_goes (Disjunction x p run) k e h = disjunction_goes x p run k e h
  step_goes (Comprehension body node element) k e h =
      λ w. every_reading_goes k e (λ D x. h _ (adds_nothing e NoChoice refl D x)) readings body.0 node.0 element.0 false w w (stays w w.lent)
  step_goes (Join run t) k e h = joining_goes (take run.count (drop run.start P.sources)) t.0 k e h

  unless_goes : (k : Path → World Met → Out Met) (e : Path) → From (k e) → From (unless_dominated Met meet P k e)
  unless_goes k e h w = go (dominated_by Met meet P e.measure w.best)
    where
      go : (b : Bool) → Goes Went w (cond b (missed w) (k e w))
      go true = missed_goes w w.lent
      go false = h w

  -- A leaf: the first, and then one smaller than the incumbent, equal or greater. Where not all of its sorts are made it is not met.
  module _ (e : Path) (w : World Met) where
    replace_goes : ((ss : List ℕ) (W : Lent) → Went w true (keeping Met meet P (lending w W) e
        (newcomer e ss))) → Goes Went w (replace Met meet P e w)
    unfolding Goes
    replace_goes h =
        on_made_goes (λ ss W. length ss ≡ length P.exprs) Perhaps (resolve_all (Is (record { 0 = P.default })) e.binds P.exprs w.lent)
        (one_sort_each (Is (record { 0 = P.default })) e.binds P.exprs w.lent) w w _ missed (λ ss W i. h ss W) (λ W i. missed_goes w W)

    pub leaf_goes : (w.best ≡ none → (ss : List ℕ) (W : Lent) → Went w true (keeping Met meet P (lending w W) e (newcomer e ss)))
        → ((c : Candidate) → w.best ≡ some c → compare e.measure c.measure ≡ smaller → (ss : List ℕ) (W : Lent)
        → Went w true (keeping Met meet P (lending w W) e (newcomer e ss)))
        → ((c : Candidate) → w.best ≡ some c → compare e.measure c.measure ≡ equal
        → Went w true (keeping Met meet P w e (marked_tied Met meet P c)))
        → ((c : Candidate) → w.best ≡ some c → compare e.measure c.measure ≡ greater
        → Went w true (keeping Met meet P w e c)) → Goes Went w (leaf Met meet P e w)
    unfolding leaf Goes
    leaf_goes first less same more = go w.best refl
      where
        by : (c : Candidate) → w.best ≡ some c → (r : Ranking) → compare e.measure c.measure ≡ r → Goes Went w (leaf_by Met meet P r c e w)
        by c q smaller i = replace_goes (less c q i)
        by c q equal i = same c q i
        by c q greater i = more c q i

        go : (b : Option Candidate) → w.best ≡ b → Goes Went w (leaf_over Met meet P b e w)
        go none q = replace_goes (first q)
        go (some c) q = by c q (compare e.measure c.measure) refl

  -- What holds of every leaf that the search reaches holds of the search.
  pub search_goes : (cs : List Constraint) (e : Path) → ((e' : Path) → Adds e (width P cs) (Choosing cs) e'
      → From (leaf Met meet P e')) → From (solve Met meet P cs e)
  unfolding solve width
  search_goes [] e h = unless_goes (leaf Met meet P) e (h e (adds_nothing e (Choosing []) none_to_choose e.binds (extends_refl e.binds)))
  search_goes (c ∷ cs) e h =
      unless_goes (step Met meet P c (solve Met meet P cs)) e
      (step_goes c (solve Met meet P cs) e
      (λ e' a. search_goes cs e' (λ e'' b. h e'' (adds_after e e' e'' (width_of P c) (width P cs) _ (Chooses c)
      (Choosing cs) (Choosing (c ∷ cs)) a b refl (λ ks ls x y. and_chooses c cs ks ls x y)))))
