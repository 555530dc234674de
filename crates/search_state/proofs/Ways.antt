-- The search's definition as its code goes: a widening by its tries, a literal by what stands at its place, two pairs of places made equal one after the
-- other, nodes given back in the answer; and what the tries of a widening and the container of a comprehension leave of the lists. By the outcomes of
-- each making. Assumes nothing.
use mathlib.Core.Path.{◌≡◌, refl, ap, sym, ◌∙◌, subst}
use mathlib.Core.Bool.{Bool, true, false}
use mathlib.Core.List.{List, [], ◌∷◌}
use mathlib.Core.Option.{Option, none, some}
use Prim.Native.Nat.{ℕ, ◌+◌, ◌<◌, ◌≤◌}
use Rattle.resolved_sort.specs.declared.ComplexSort.{ComplexSort}
use Rattle.resolved_sort.specs.Tree.{unit, primitive, def, typevar, container}
use Rattle.unification.specs.declared.InferSortId.{InferSortId}
use Rattle.unification.specs.declared.Lengths.{Lengths}
use Rattle.unification.specs.Term.{flat_head, container_head, function_head, stray_head, Shape, variable, over}
use Rattle.unification.specs.Nodes.{Binds}
use Rattle.unification.specs.Unify.{Unifies, yes_with, no_way, too_deep, and_then as after-yes, follow, deep, unify}
use Rattle.unification.specs.Acyclic.{first, later}
use Rattle.unification.specs.Making.{Lent, graph, Makes, made, no_list, no_room, ◌and-then◌, intern_container, strict_related}
use Rattle.unification.specs.Inner.Making.{lent}
use Rattle.unification.specs.Growing.{CheckedLent, PlacedIn, Grows, CheckedBinds}
use Rattle.unification.proofs.Grows.{grows_refl, placed_grown}
use Rattle.unification.proofs.BindsGrow.{binds_name_places}
use Rattle.unification.proofs.Outcomes.{Each, Any, each_container}
use Rattle.unification.proofs.MakingGrows.{MadeFrom, AllPlaced, IsSort}
use Rattle.unification.proofs.RelatedBinds.{no_list_is_free}
use Rattle.inference.specs.declared.LitKind.{LitKind}
use Rattle.inference.specs.Constraints.{Problem}
use Rattle.inference.specs.Search.{Path, Try, World, Out, missed, with_components, wider_tries, narrower_tries}
use Rattle.inference.specs.Search.{lit_component, lit_tries, on_yes, unifying, on_made, lending, nodes_returned, sort_in}
use Rattle.inference.specs.Search.{Going, first_found, narrower, wider, at_sort, literal_at, literal_end, literal}
use Rattle.inference.specs.Typing.{none_left, and_all}
use Rattle.inference.specs.Inner.Listed.{SortsOnly}
use Rattle.inference.proofs.MakingSorts.{MadeSorts, container_makes}
use Rattle.search_state.specs.declared.Sizes.{Sizes}
use Rattle.search_state.specs.Inner.States.{Answer}
use Rattle.search_state.specs.Inner.States.{Found, Missed, Full}
use Rattle.search_state.specs.declared.Pairs.TheVariants.{Two}
use Rattle.search_state.specs.declared.LitAt.{LitAt}
use Rattle.search_state.specs.declared.LitAt.TheVariants.{Number, Free, Other}
use Rattle.search_state.specs.Inner.Memory.{out_of}
use Rattle.search_state.specs.Inner.Leaves.{unify_pairs, where_no_list, widenings, lit_number, lit_shape, lit_end, lit_at, given_back_to}
use Rattle.unification.proofs.RelatedPlaced.{related_placed}
use Rattle.search_state.specs.Inner.Placed.{TriesPlaced}

-- nodes given back in the answer
pub given_back_in_answer : (ls : List ℕ) (z : Sizes) (ws ns sc : List ℕ) (r : Answer) (ws₀ ns₀ : List ℕ) (k : Lengths)
    → out_of ls z ws ns sc (given_back_to k r) ≡ nodes_returned (lent ws₀ ns₀ k) (out_of ls z ws ns sc r)
given_back_in_answer ls z ws ns sc (Found s) ws₀ ns₀ k = refl
given_back_in_answer ls z ws ns sc (Missed s) ws₀ ns₀ k = refl
given_back_in_answer ls z ws ns sc (Full c l) ws₀ ns₀ k = refl

-- the pairs of a try
module _ {Met : Type 0} (B : Binds) (l r : InferSortId) (w : World Met) where
  pub two_pairs : (p q : InferSortId) (k : Binds → World Met → Out Met)
      → unifying B l.0 r.0 (λ C. unifying C p.0 q.0 k) w ≡ on_yes (unify_pairs (graph w.lent)
      (Two l r p q) B) k w
  unfolding unifying unify_pairs
  two_pairs p q k = go (unify (graph w.lent) B l.0 r.0)
    where
      go : (U : Unifies) → on_yes U (λ C. unifying C p.0 q.0 k) w ≡ on_yes (after-yes U (λ C. unify (graph w.lent) C p.0 q.0)) k w
      go (yes_with C) = refl
      go no_way = refl
      go too_deep = refl

module _ (Met : Type 0) (meet : Path → Lent → Met → Met) (P : Problem) (k : Going Met meet P) (e : Path) (w : World Met) where
  -- a widening goes through its tries
  module _ (l r : ℕ) where
    abbrev pub tried : List Try → World Met → Out Met
    tried ts v = nodes_returned w.lent (first_found Met meet P ts k e v)

    by_narrower : (O : Makes (List ℕ))
        → on_made O (λ ps. tried (narrower_tries l 1 ps)) missed w ≡ on_made (O and-then (λ ps X. made (narrower_tries l 1 ps) X)) tried missed w
    by_narrower (made ps X) = refl
    by_narrower (no_list X) = refl
    by_narrower (no_room c X) = refl

    pub wider_by_widenings : CheckedLent w.lent → CheckedBinds w.lent e.binds
        → wider Met meet P l r k e w ≡ on_made (widenings e.binds l r w.lent) tried missed w
    unfolding widenings
    wider_by_widenings c b = go (strict_related true e.binds l w.lent) (λ U i. (no_list_is_free w.lent c e.binds b true l U i).1)
      where
        go : (O : Makes (List ℕ)) → ((U : Lent) → O ≡ no_list U → U ≡ w.lent)
            → on_made O (λ ps. tried (wider_tries r 1 ps)) (narrower Met meet P l r k e) w
            ≡ on_made (where_no_list (O and-then (λ ps X. made (wider_tries r 1 ps) X)) (λ U. strict_related false
            e.binds r U and-then (λ ps X. made (narrower_tries l 1 ps) X))) tried missed w
        go (made ps X) h = refl
        go (no_list U) h =
            ap (λ X. narrower Met meet P l r k e (lending w X)) (h U refl)
            ∙ (by_narrower (strict_related false e.binds r w.lent)
            ∙ ap (λ X. on_made (strict_related false e.binds r X and-then (λ ps Y. made (narrower_tries l 1 ps) Y)) tried missed w) (sym (h U refl)))
        go (no_room d X) h = refl

  -- a literal by what stands at its place
  module _ (kind : LitKind) (p : ℕ) where
    abbrev pub literal_by : LitAt → Out Met
    literal_by (Number g) = k (with_components e (g ∷ []) e.binds) w
    literal_by Free = first_found Met meet P (lit_tries kind p) k e w
    literal_by Other = missed w

    by_component : (o : Option ℕ) → at_sort Met meet P o k e w ≡ literal_by (lit_number o)
    by_component none = refl
    by_component (some g) = refl

    by_shape : (s : Shape) → literal_at Met meet P kind p s k e w ≡ literal_by (lit_shape kind s)
    by_shape (variable v) = refl
    by_shape (over (flat_head unit) ps) = refl
    by_shape (over (flat_head (primitive s)) ps) = by_component (lit_component kind s)
    by_shape (over (flat_head (def n)) ps) = refl
    by_shape (over (flat_head (typevar n)) ps) = refl
    by_shape (over (container_head o) ps) = refl
    by_shape (over (function_head n) ps) = refl
    by_shape (over (stray_head n) ps) = refl

    by_end : (o : Option ℕ) → literal_end Met meet P kind p o k e w ≡ literal_by (lit_end kind (graph w.lent) o)
    by_end none = refl
    by_end (some q) = by_shape (graph w.lent q)

    pub literal_by_what_stands : literal Met meet P kind p k e w ≡ literal_by (lit_at kind (graph w.lent) e.binds p)
    unfolding literal lit_at
    literal_by_what_stands = by_end (follow (graph w.lent) deep e.binds p)

wider_placed : (W : Lent) (r i : ℕ) (ps : List ℕ) → PlacedIn W r → AllPlaced W ps → TriesPlaced W (wider_tries r i ps)
wider_placed W r i [] x y = none_left
wider_placed W r i (p ∷ ps) x y = and_all _ _ (y p (first ps), x) (wider_placed W r (i + 1) ps x (λ q o. y q (later p ps o)))

narrower_placed : (W : Lent) (l i : ℕ) (ps : List ℕ) → PlacedIn W l → AllPlaced W ps → TriesPlaced W (narrower_tries l i ps)
narrower_placed W l i [] x y = none_left
narrower_placed W l i (p ∷ ps) x y = and_all _ _ (x, y p (first ps)) (narrower_placed W l (i + 1) ps x (λ q o. y q (later p ps o)))

-- The tries of a widening: the lists have grown, by nothing where there is no list, and the tries are of places.
module _ (W : Lent) (c : CheckedLent W) (six : 6 ≤ W.lengths.sorts) (B : Binds) (b : CheckedBinds W B) (l r : ℕ) (x : PlacedIn W l) (y : PlacedIn W r) where
  abbrev Leaves : Makes (List Try) → Type 0
  Leaves = Each (λ ts W'. Grows W W' × TriesPlaced W' ts) (λ W'. W' ≡ W) (λ d W'. Grows W W')

  listed : (up : Bool) (p : ℕ) → PlacedIn W p → (tries : List ℕ → List Try) → ((ps : List ℕ) (W' : Lent) → Grows W W'
      → AllPlaced W' ps → TriesPlaced W' (tries ps))
      → Leaves (strict_related up B p W and-then (λ ps X. made (tries ps) X))
  unfolding MadeFrom
  listed up p at tries h = go (strict_related up B p W) (related_placed W c six up B (binds_name_places W B b) p at) (λ U i. (no_list_is_free W c B b up p U i).1)
    where
      go : (O : Makes (List ℕ)) → MadeFrom AllPlaced W O → ((U : Lent) → O ≡ no_list U → U ≡ W) → Leaves (O and-then (λ ps X. made (tries ps) X))
      go (made ps W') m n = (m.0, h ps W' m.0 m.1)
      go (no_list W') m n = n W' refl
      go (no_room d W') m n = m

  widenings_leave : Leaves (widenings B l r W)
  unfolding widenings
  widenings_leave =
      go (strict_related true B l W and-then (λ ps X. made (wider_tries r 1 ps) X))
      (listed true l x (wider_tries r 1) (λ ps W' g a. wider_placed W' r 1 ps (placed_grown W c W' g r y) a))
    where
      go : (O : Makes (List Try)) → Leaves O → Leaves (where_no_list O (λ U. strict_related false B r U and-then (λ ps X. made (narrower_tries l 1 ps) X)))
      go (made ts W') m = m
      go (no_list W') m =
          subst (λ U. Leaves (strict_related false B r U and-then (λ ps X. made (narrower_tries l 1 ps) X))) (sym m)
          (listed false r y (narrower_tries l 1) (λ ps W'' g a. narrower_placed W'' l 1 ps (placed_grown W c W'' g l x) a))
      go (no_room d W') m = m

  pub tries_are_placed : (ts : List Try) (W' : Lent) → widenings B l r W ≡ made ts W' → Grows W W' × TriesPlaced W' ts
  tries_are_placed ts W' e = subst Leaves e widenings_leave

  pub no_tries_makes_nothing : (W' : Lent) → widenings B l r W ≡ no_list W' → W' ≡ W
  no_tries_makes_nothing W' e = subst Leaves e widenings_leave

  pub no_room_for_tries_grows : (d : ℕ) (W' : Lent) → widenings B l r W ≡ no_room d W' → Grows W W'
  no_room_for_tries_grows d W' e = subst Leaves e widenings_leave

-- The container of a comprehension: a sort of the list, or no room with the lists as they were.
module _ (W : Lent) (c : CheckedLent W) (o : ComplexSort) (s : ℕ) (l : s < W.lengths.sorts) where
  pub container_is_sort : (p : ℕ) (W' : Lent) → intern_container o s W ≡ made p W' → SortsOnly W W' × (p < W'.lengths.sorts)
  unfolding MadeSorts
  container_is_sort p W' e = let m = subst (MadeSorts (IsSort (container o (sort_in W s))) (Unit {0}) W) e (container_makes W c o s l) in (m.0, m.1.0)

  ends : Each Any (λ W'. ⊥) (λ d W'. (d ≡ 15) × (W' ≡ W)) (intern_container o s W)
  ends = each_container (λ W'. ⊥) (λ d W'. (d ≡ 15) × (W' ≡ W)) Any o s W (λ p W'. tt) (refl, refl)

  pub no_room_for_container_is_15 : (d : ℕ) (W' : Lent) → intern_container o s W ≡ no_room d W' → (d ≡ 15) × Grows W W'
  no_room_for_container_is_15 d W' e =
      let m = subst (Each Any (λ U. ⊥) (λ f U. (f ≡ 15) × (U ≡ W))) e ends in (m.0, subst (Grows W) (sym m.1) (grows_refl W c))
