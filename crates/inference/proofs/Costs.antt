-- What the definitions of the measure say, each read alone. The component of a widening is the number of steps from the one sort to the other, so it is
-- determined by the two, is 0 exactly for equal ones, and counts conversions of the language reference where the sort is no function: by the list of
-- wider sorts, nearest first. A literal's is its generality. Of a Join's sources each has its own component, in order: all heads of distances to the
-- least sort above all of them, or all components of widenings. Constraints cost one after another. Assumes nothing.
use mathlib.Core.Path.{◌≡◌, refl, sym, ap, subst, ◌∙◌}
use mathlib.Core.Bool.{Bool, true, false}
use mathlib.Core.List.{List, [], ◌∷◌, ◌++◌, append_assoc}
use mathlib.Core.Option.{Option, none, some}
use mathlib.Core.Logic.{◌⊎◌, inl, inr, ◌↔◌}
use Prim.Native.Nat.{ℕ, zero, suc}
use native.Mathlib.Omega.{arith}
use lib.ListN.{length, take, drop}
use Rattle.resolved_sort.specs.declared.Run.{Run}
use Rattle.resolved_sort.specs.declared.SortId.{SortId}
use Rattle.resolved_sort.specs.declared.Sort.{Sort}
use Rattle.resolved_sort.specs.Tree.{Tree, Trees, primitive, flat, function, level, same}
use Rattle.resolved_sort.specs.Order.{le, Steps, distance, map₁, materializable, is_function}
use Rattle.resolved_sort.specs.Exact.{total, exact, stopped}
use Rattle.resolved_sort.proofs.Numbers.{true_not_false}
use Rattle.resolved_sort.proofs.Same.{same_exactly}
use Rattle.resolved_sort.proofs.Bounds.{join_is_least}
use Rattle.resolved_sort.proofs.Distance.{distance_of_equal, distance_stops_once}
use Rattle.resolved_sort.proofs.Materializable.{materializable_refl}
use Rattle.resolved_sort.proofs.Reached.{no_confusion}
use Rattle.unification.specs.declared.InferSortId.{InferSortId}
use Rattle.unification.specs.Term.{Shape}
use Rattle.unification.specs.Related.{Member, first, later}
use Rattle.unification.specs.Reference.{Distant, Conversions, no_more}
use Rattle.unification.proofs.Wider.{nearest_first, related_exactly}
use Rattle.unification.proofs.WiderReference.{wider_by_conversions, function_by_range}
use Rattle.inference.specs.declared.ExprId.{ExprId}
use Rattle.inference.specs.declared.LitKind.{LitKind}
use Rattle.inference.specs.declared.LitKind.TheVariants.{Positive, Natural}
use Rattle.inference.specs.declared.Constraint.{Constraint}
use Rattle.inference.specs.declared.Constraint.TheVariants.{Sub, Lit, Disjunction, Comprehension, Join}
use Rattle.inference.specs.Constraints.{Problem}
use Rattle.inference.specs.Measure.{Components}
use Rattle.inference.specs.Search.{Choice, lit_component}
use Rattle.inference.specs.Typing.{Assignment, Has, admits, Meets}
use Rattle.inference.specs.Components.{Widened, equal_to, wider_by, where_there, joins, Heads, no_heads, and_head}
use Rattle.inference.specs.Components.{Sequence, no_source, and_source, Costs, sub_costs, lit_costs}
use Rattle.inference.specs.Components.{disjunction_costs, comprehension_costs}
use Rattle.inference.specs.Components.{agreed_costs, sequence_costs, Costing, nothing_costs, and_costs}
use Rattle.inference.proofs.Clauses.{one_sort}

-- Widenings
exact_of_equal : (s : Tree) → exact true s s ≡ some (record { head = 0; interior = 0 })
exact_of_equal s = go (exact true s s) (sym (distance_stops_once true s s) ∙ distance_of_equal true s)
  where
    go : (o : Option Steps) → map₁ stopped o ≡ some (record { head = 0; interior = 0 }) → o ≡ some (record { head = 0; interior = 0 })
    go none e = no_confusion (cc)
    go (some d) e =
        let z : stopped d ≡ record { head = 0; interior = 0 } = cc in
        let h : d.head ≡ 0 = omega (arith, ap (λ (x : Steps). x.head) z) in
        let i : d.interior ≡ 0 = omega (arith, ap (λ (x : Steps). x.interior) z) in
        λ j. some (record { head = h j; interior = i j })

one_distance : (s t : Tree) (m n : ℕ) → Distant true s t m → Distant true s t n → m ≡ n
one_distance s t m n d e = let x = d.1 in let y = e.1 in let z : d.0 ≡ e.0 = cc in sym d.2 ∙ (ap total z ∙ e.2)

no_steps_equal : (s t : Tree) → materializable s t ≡ true → Distant true s t 0 → s ≡ t
no_steps_equal s t m d = go (same s t) refl
  where
    go : (b : Bool) → same s t ≡ b → s ≡ t
    go true e = (same_exactly s t).0 e
    go false e =
        let r = (related_exactly true s t).1 (m, λ q. true_not_false (same s t) ((same_exactly s t).1 q) e) in
        let x = (nearest_first true s t r.0).0 r.1 in
        absurd (omega (arith, one_distance s t 0 (suc r.0) d x.1))

-- The component of a widening is the distance, head and interior, of the two sorts; and the first is materializable into the second.
pub component_is_the_distance : (s t : Tree) (n : ℕ) → Widened s t n ↔ ((materializable s t ≡ true) × Distant true s t n)
component_is_the_distance s t n = (to t n, from n)
  where
    to : (t : Tree) (n : ℕ) → Widened s t n → (materializable s t ≡ true) × Distant true s t n
    to _ _ equal_to = (materializable_refl s, (record { head = 0; interior = 0 }, exact_of_equal s, refl))
    to _ _ (wider_by t i m) = (nearest_first true s t i).0 m

    from : (n : ℕ) → (materializable s t ≡ true) × Distant true s t n → Widened s t n
    from zero h = subst (λ u. Widened s u 0) (no_steps_equal s t h.0 h.1) equal_to
    from (suc i) h = wider_by t i ((nearest_first true s t i).1 h)

pub one_component : (s t : Tree) (m n : ℕ) → Widened s t m → Widened s t n → m ≡ n
one_component s t m n v w = one_distance s t m n ((component_is_the_distance s t m).0 v).1 ((component_is_the_distance s t n).0 w).1

pub no_component_exactly_if_equal : (s t : Tree) (n : ℕ) → Widened s t n → (n ≡ 0) ↔ (s ≡ t)
no_component_exactly_if_equal s t n w =
    let x = (component_is_the_distance s t n).0 w in
    (λ e. no_steps_equal s t x.0 (subst (Distant true s t) e x.1), λ e. one_component s t n 0 w (subst (λ u. Widened s u 0) e equal_to))

-- of a sort that is no function it counts conversions of the language reference, of a function those of its range
pub component_counts_conversions : (s t : Tree) (n : ℕ) → is_function s ≡ false → Widened s t n ↔ Conversions n s t
component_counts_conversions s t n f = (to t n, from t n)
  where
    to : (t : Tree) (n : ℕ) → Widened s t n → Conversions n s t
    to _ _ equal_to = no_more
    to _ _ (wider_by t i m) = (wider_by_conversions s t i f).0 m

    from : (t : Tree) (n : ℕ) → Conversions n s t → Widened s t n
    from _ zero no_more = equal_to
    from t (suc i) c = wider_by t i ((wider_by_conversions s t i f).1 c)

pub component_of_a_function : (ss : Trees) (r t : Tree) (n : ℕ) → Widened (function ss r) t n ↔ ((u : Tree) × (t ≡ function ss u) × Widened r u n)
component_of_a_function ss r t n = (to t n, λ x. rw x.1 (from x.0 n x.2))
  where
    to : (t : Tree) (n : ℕ) → Widened (function ss r) t n → (u : Tree) × (t ≡ function ss u) × Widened r u n
    to _ _ equal_to = (r, refl, equal_to)
    to _ _ (wider_by t i m) = let x = (function_by_range true ss r t i).0 m in (x.0, x.1, wider_by x.0 i x.2)

    from : (u : Tree) (n : ℕ) → Widened r u n → Widened (function ss r) (function ss u) n
    from _ _ equal_to = equal_to
    from _ _ (wider_by u i m) = wider_by (function ss u) i ((function_by_range true ss r (function ss u) i).1 (u, refl, m))

-- Literals: the generality of a number sort is its level among them
pub literal_component_exactly : (kind : LitKind) (s : Sort) (g : ℕ) → (lit_component kind s ≡ some g) ↔ ((admits kind s ≡ true) × (g ≡ level (primitive s)))
unfolding lit_component level
literal_component_exactly Positive Sort.Bool g = (λ e. no_confusion cc, λ h. let z = h.0 in no_confusion cc)
literal_component_exactly Natural Sort.Bool g = (λ e. no_confusion cc, λ h. let z = h.0 in no_confusion cc)
literal_component_exactly Positive Sort.Pos g = (λ e. (refl, cc), λ h. ap some (sym h.1))
literal_component_exactly Natural Sort.Pos g = (λ e. no_confusion cc, λ h. let z = h.0 in no_confusion cc)
literal_component_exactly Positive Sort.Nat g = (λ e. (refl, cc), λ h. ap some (sym h.1))
literal_component_exactly Natural Sort.Nat g = (λ e. (refl, cc), λ h. ap some (sym h.1))
literal_component_exactly Positive Sort.Int g = (λ e. (refl, cc), λ h. ap some (sym h.1))
literal_component_exactly Natural Sort.Int g = (λ e. (refl, cc), λ h. ap some (sym h.1))
literal_component_exactly Positive Sort.Real g = (λ e. (refl, cc), λ h. ap some (sym h.1))
literal_component_exactly Natural Sort.Real g = (λ e. (refl, cc), λ h. ap some (sym h.1))

-- The join of sorts is the least above all of them.
joins_least : (t : Tree) (ss : List Tree) (u v : Tree) → joins t ss ≡ some u → le true t v ≡ true
    → ((s : Tree) (i : ℕ) → Member s i ss → le true s v ≡ true) → le true u v ≡ true
unfolding joins
joins_least t [] u v e b a = let z : t ≡ u = cc in rw z at b
joins_least t (s ∷ ss) u v e b a =
    let x = join_is_least t s v b (a s 0 first) in
    joins_least x.0 ss u v (sym (ap (λ o. where_there o (λ w. joins w ss)) x.1) ∙ e) x.2 (λ r i m. a r (suc i) (later m))

module _ (shape : ℕ → Shape) (look : ℕ → Tree) (P : Problem) (ch : List Choice) (σ : Assignment) where
  -- Sources, each with its component at its own position.
  heads_long : (t : Tree) (ps : List ℕ) (ss : List Tree) (ns : Components) → Heads shape σ t ps ss ns → length ns ≡ length ps
  heads_long t _ _ _ no_heads = refl
  heads_long t _ _ _ (and_head p s d ps ss ns h m e x) = ap suc (heads_long t ps ss ns x)

  heads_are_distances : (t : Tree) (ps : List ℕ) (ss : List Tree) (ns : Components) → Heads shape σ t ps ss ns → (p n i : ℕ) (s : Tree)
      → Member p i ps → Member n i ns → Has shape σ p s
      → (materializable s t ≡ true) × ((d : Steps) × (distance true s t ≡ some d) × (n ≡ d.head))
  heads_are_distances t _ _ _ no_heads p n i s x13 _ g = elim x13 [ ]
  heads_are_distances t _ _ _ (and_head _ r d ps ss ns h m e x) p _ _ s first first g =
      let q = one_sort shape look P σ p s r g h in rw q (m, (d, e, refl))
  heads_are_distances t _ _ _ (and_head _ r d ps ss ns h m e x) p n _ s (later a) (later b) g = heads_are_distances t ps ss ns x p n _ s a b g

  -- the sorts that are joined are those of the sources
  heads_sorts : (t : Tree) (ps : List ℕ) (ss : List Tree) (ns : Components) → Heads shape σ t ps ss ns → (s : Tree) (i : ℕ) → Member s i ss
      → (p : ℕ) × Member p i ps × Has shape σ p s
  heads_sorts t _ _ _ no_heads s i x5 = elim x5 [ ]
  heads_sorts t _ _ _ (and_head p _ d ps ss ns h m e x) s _ first = (p, first, h)
  heads_sorts t _ _ _ (and_head p _ d ps ss ns h m e x) s _ (later a) = let r = heads_sorts t ps ss ns x s _ a in (r.0, later r.1, r.2)

  sequence_long : (t : Tree) (ps : List ℕ) (ns : Components) → Sequence shape σ t ps ns → length ns ≡ length ps
  sequence_long t _ _ no_source = refl
  sequence_long t _ _ (and_source p s n ps ns h w x) = ap suc (sequence_long t ps ns x)

  sequence_widens : (t : Tree) (ps : List ℕ) (ns : Components) → Sequence shape σ t ps ns → (p n i : ℕ) (s : Tree)
      → Member p i ps → Member n i ns → Has shape σ p s → Widened s t n
  sequence_widens t _ _ no_source p n i s x10 _ g = elim x10 [ ]
  sequence_widens t _ _ (and_source _ r _ ps ns h w x) p n _ s first first g = let q = one_sort shape look P σ p s r g h in rw q w
  sequence_widens t _ _ (and_source _ r _ ps ns h w x) p n _ s (later a) (later b) g = sequence_widens t ps ns x p n _ s a b g

  -- A Sub costs one component, that of its widening.
  pub sub_costs_its_widening : (l r : InferSortId) (ns : Components) (s t : Tree) → Has shape σ l.0 s → Has shape σ r.0 t
      → Costs shape look P ch σ (Sub l r) ns → (n : ℕ) × (ns ≡ n ∷ []) × Widened s t n
  sub_costs_its_widening l r _ s t h g (sub_costs _ _ s' t' n h' g' w) =
      let p = one_sort shape look P σ l.0 s s' h h' in let q = one_sort shape look P σ r.0 t t' g g' in (n, refl, rw (p, q) w)

  -- A literal costs one, its generality: "component is generality 0 to 3".
  pub literal_costs_its_generality : (p : InferSortId) (kind : LitKind) (ns : Components) → Costs shape look P ch σ (Lit p kind) ns
      → ((kind ≡ Positive) × Has shape σ p.0 (flat (primitive Sort.Pos)) × (ns ≡ 0 ∷ []))
      ⊎ ((Has shape σ p.0 (flat (primitive Sort.Nat)) × (ns ≡ 1 ∷ []))
      ⊎ ((Has shape σ p.0 (flat (primitive Sort.Int)) × (ns ≡ 2 ∷ []))
      ⊎ (Has shape σ p.0 (flat (primitive Sort.Real)) × (ns ≡ 3 ∷ []))))
  unfolding lit_component
  literal_costs_its_generality p Positive _ (lit_costs _ _ Sort.Bool g h e) = no_confusion cc
  literal_costs_its_generality p Natural _ (lit_costs _ _ Sort.Bool g h e) = no_confusion cc
  literal_costs_its_generality p Positive _ (lit_costs _ _ Sort.Pos g h e) = inl (refl, h, cc)
  literal_costs_its_generality p Natural _ (lit_costs _ _ Sort.Pos g h e) = no_confusion cc
  literal_costs_its_generality p Positive _ (lit_costs _ _ Sort.Nat g h e) = inr (inl (h, cc))
  literal_costs_its_generality p Natural _ (lit_costs _ _ Sort.Nat g h e) = inr (inl (h, cc))
  literal_costs_its_generality p Positive _ (lit_costs _ _ Sort.Int g h e) = inr (inr (inl (h, cc)))
  literal_costs_its_generality p Natural _ (lit_costs _ _ Sort.Int g h e) = inr (inr (inl (h, cc)))
  literal_costs_its_generality p Positive _ (lit_costs _ _ Sort.Real g h e) = inr (inr (inr (h, cc)))
  literal_costs_its_generality p Natural _ (lit_costs _ _ Sort.Real g h e) = inr (inr (inr (h, cc)))

  -- Disjunctions and comprehensions are met and cost nothing.
  pub disjunction_costs_nothing : (x : ExprId) (p : InferSortId) (run : Run) (ns : Components) → Costs shape look P ch σ (Disjunction x p run) ns
      → (ns ≡ []) × Meets shape look P ch σ (Disjunction x p run)
  disjunction_costs_nothing x p run _ (disjunction_costs _ _ _ m) = (refl, m)

  pub comprehension_costs_nothing : (body node : InferSortId) (element : SortId) (ns : Components)
      → Costs shape look P ch σ (Comprehension body node element) ns → (ns ≡ []) × Meets shape look P ch σ (Comprehension body node element)
  comprehension_costs_nothing body node element _ (comprehension_costs _ _ _ m) = (refl, m)

  -- So what is no Join has one cost under an assignment.
  literal_cost : (p : InferSortId) (kind : LitKind) (s : Sort) (g : ℕ) (ns : Components) → Has shape σ p.0 (flat (primitive s))
      → lit_component kind s ≡ some g → Costs shape look P ch σ (Lit p kind) ns → ns ≡ g ∷ []
  literal_cost p kind s g _ h e (lit_costs _ _ s' g' h' e') =
      let q = one_sort shape look P σ p.0 (flat (primitive s)) (flat (primitive s')) h h' in
      let r : s ≡ s' = cc in
      let z : some g ≡ some g' = sym e ∙ (ap (lit_component kind) r ∙ e') in
      cc

  pub one_cost_unless_a_join : (c : Constraint) (ms ns : Components) → ((run : Run) (t : InferSortId) → c ≡ Join run t → ⊥)
      → Costs shape look P ch σ c ms → Costs shape look P ch σ c ns → ms ≡ ns
  one_cost_unless_a_join _ _ ns f (sub_costs l r s t n h g w) y =
      let z = sub_costs_its_widening l r ns s t h g y in
      ap (λ k. k ∷ []) (one_component s t n z.0 w z.2) ∙ sym z.1
  one_cost_unless_a_join _ _ ns f (lit_costs p kind s g h e) y = sym (literal_cost p kind s g ns h e y)
  one_cost_unless_a_join _ _ ns f (disjunction_costs x p run m) y = sym (disjunction_costs_nothing x p run ns y).0
  one_cost_unless_a_join _ _ ns f (comprehension_costs body node element m) y = sym (comprehension_costs_nothing body node element ns y).0
  one_cost_unless_a_join _ _ ns f (agreed_costs run t s u ss ks h x j) y = absurd (f run t refl)
  one_cost_unless_a_join _ _ ns f (sequence_costs run t u ks h x) y = absurd (f run t refl)

  -- A Join costs one for each source, in their order. Either each is the head of the distance of the source's sort, which is materializable into the
  -- target's, and the target's sort is the least that is equal to or above all of theirs; or each is the component of the source's widening.
  pub join_costs_one_for_each_source : (run : Run) (t : InferSortId) (ns : Components) (u : Tree) → Has shape σ t.0 u
      → Costs shape look P ch σ (Join run t) ns
      → (length ns ≡ length (take run.count (drop run.start P.sources)))
      × ((((p n i : ℕ) (s : Tree) → Member p i (take run.count (drop run.start P.sources)) → Member n i ns → Has shape σ p s
      → (materializable s u ≡ true) × ((d : Steps) × (distance true s u ≡ some d) × (n ≡ d.head)))
      × ((v : Tree) → ((p i : ℕ) (s : Tree) → Member p i (take run.count (drop run.start P.sources)) → Has shape σ p s → le true s v ≡ true)
      → le true u v ≡ true))
      ⊎ ((p n i : ℕ) (s : Tree) → Member p i (take run.count (drop run.start P.sources)) → Member n i ns → Has shape σ p s → Widened s u n))
  join_costs_one_for_each_source run t ns u h (agreed_costs _ _ s u' ss _ h' x j) =
      let ps = take run.count (drop run.start P.sources) in
      let q = one_sort shape look P σ t.0 u u' h h' in
      rw q (
        heads_long u' ps (s ∷ ss) ns x,
        inl (
          heads_are_distances u' ps (s ∷ ss) ns x,
          λ v b. let below : (r : Tree) (i : ℕ) → Member r i (s ∷ ss) → le true r v ≡ true = λ r i m. let z = heads_sorts u' ps (s ∷ ss) ns x r i m in b z.0 i r z.1 z.2 in
              joins_least s ss u' v j (below s 0 first) (λ r i m. below r (suc i) (later m)),
        ),
      )
  join_costs_one_for_each_source run t ns u h (sequence_costs _ _ u' _ h' x) =
      let ps = take run.count (drop run.start P.sources) in
      let q = one_sort shape look P σ t.0 u u' h h' in
      rw q (sequence_long u' ps ns x, inr (sequence_widens u' ps ns x))

  -- The components are those of the constraints, one after another; of no constraint there are none.
  pub no_constraint_costs_nothing : (ks : Components) → Costing shape look P ch σ [] ks → ks ≡ []
  no_constraint_costs_nothing _ nothing_costs = refl

  pub constraints_cost_in_turn : (cs : List Constraint) (c : Constraint) (ds : List Constraint) (ks : Components)
      → Costing shape look P ch σ (cs ++ (c ∷ ds)) ks
      → (ls ns ms : Components) × (ks ≡ ls ++ (ns ++ ms)) × Costing shape look P ch σ cs ls × Costs shape look P ch σ c ns × Costing shape look P ch σ ds ms
  constraints_cost_in_turn [] c ds _ (and_costs _ _ ns ms x y) = ([], ns, ms, refl, nothing_costs, x, y)
  constraints_cost_in_turn (b ∷ cs) c ds _ (and_costs _ _ ns ms x y) =
      let r = constraints_cost_in_turn cs c ds ms y in
      (ns ++ r.0, r.1, r.2, ap (λ ls. ns ++ ls) r.3 ∙ sym (append_assoc ns r.0 (r.1 ++ r.2)), and_costs b cs ns r.0 x r.4, r.5, r.6)
