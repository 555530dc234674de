-- A Disjunction, a Comprehension and a literal keep what holds all through a search, whichever alternative is taken: the places that an alternative
-- makes equal have the same sort under every assignment that respects the new bindings, and that sort is an overload's, a reading's or a number sort.
-- By what making two places equal leaves, one alternative after another; a container that was interned is a sort of the lists that have grown, and a
-- place whose end is a number sort has that sort. Assumes nothing.
use mathlib.Core.Path.{◌≡◌, refl, sym, subst, ◌∙◌, ap}
use mathlib.Core.Bool.{Bool, true, false}
use mathlib.Core.List.{List, [], ◌∷◌, ◌++◌}
use mathlib.Core.Option.{Option, none, some}
use Prim.Native.Nat.{ℕ, suc, ◌+◌, ◌<◌}
use native.Mathlib.Omega.{arith}
use native.Mathlib.Nat.{add-zero}
use lib.ListN.{length, get_or, take, drop, length-take}
use lib.Seq.{get_or-take, get_or-drop}
use Rattle.resolved_sort.specs.declared.Run.{Run}
use Rattle.resolved_sort.specs.declared.Sort.{Sort}
use Rattle.resolved_sort.specs.declared.ComplexSort.{ComplexSort}
use Rattle.resolved_sort.specs.Tree.{Flat, unit, primitive, def, typevar, Tree, flat, container}
use Rattle.resolved_sort.specs.Storage.{kind_flat}
use Rattle.resolved_sort.specs.Checks.{fixed_six}
use Rattle.unification.specs.declared.InferSortId.{InferSortId}
use Rattle.unification.specs.Term.{flat_head, Shape, over, term_of}
use Rattle.unification.specs.Nodes.{Binds}
use Rattle.unification.specs.Unify.{follow, deep}
use Rattle.unification.specs.Making.{Lent, graph, intern_container}
use Rattle.unification.specs.Exact.{shape_val}
use Rattle.unification.proofs.Rows.{ShapeFormed, variable_formed, flat_formed, container_formed, function_formed}
use Rattle.unification.proofs.Follow.{follow_names}
use Rattle.unification.specs.Growing.{CheckedLent, PlacedIn, term_in}
use Rattle.unification.proofs.Grows.{placed_grown}
use Rattle.unification.proofs.BindsGrow.{binds_name_places}
use Rattle.unification.proofs.MakingGrows.{IsSort}
use Rattle.unification.proofs.PlaceTerms.{placed_formed, sort_placed, term_by_shape, term_at_end, sort_term, primitive_placed, primitive_term}
use Rattle.unification.proofs.Assignments.{place_has_a_sort}
use Rattle.inference.specs.declared.ExprId.{ExprId}
use Rattle.inference.specs.declared.LitKind.{LitKind}
use Rattle.inference.specs.declared.LitKind.TheVariants.{Positive, Natural}
use Rattle.inference.specs.declared.Overload.{Overload}
use Rattle.inference.specs.declared.NameTarget.TheVariants.{Variable}
use Rattle.inference.specs.declared.Constraint.TheVariants.{Disjunction}
use Rattle.inference.specs.Constraints.{Problem}
use Rattle.inference.specs.Measure.{Components}
use Rattle.inference.specs.Search.{sort_in, Choice, Path, with_binds, with_components, with_choice, lit_component}
use Rattle.inference.specs.Search.{from_nat, lit_tries, Reading, readings, World, Out, missed, unifying, at_sort}
use Rattle.inference.specs.Search.{literal_at, literal_end, literal, every_reading, every_overload, step}
use Rattle.inference.specs.Names.{overload_in}
use Rattle.inference.specs.Typing.{Assignment, Has, All, none_left, and_all, ReadAs, as_set, as_bag, as_bag_of_pos}
use Rattle.inference.proofs.Invariant.{Claim, terms, Sound, FineBest, Leaves, Goes, same_sort}
use Rattle.inference.proofs.Invariant.{equal_have_one_sort, and_also_leaves, says_leaves, missed_leaves}
use Rattle.inference.proofs.Invariant.{unifying_leaves}
use Rattle.inference.proofs.MakingSorts.{container_makes, on_made_leaves}
use Rattle.inference.proofs.Tries.{Leads, first_found_leaves}

at_position : (R : Claim) (x i j : ℕ) → i ≡ j → (ch : List Choice) (ρ : Assignment) (ms : Components)
    → R (ch ++ (record { expr = x; position = i } ∷ [])) ρ ms → R (ch ++ (record { expr = x; position = j } ∷ [])) ρ ms
at_position R x i j e ch ρ ms h = subst (λ n. R (ch ++ (record { expr = x; position = n } ∷ [])) ρ ms) e h

module _
    (W₀ : Lent) (B₀ : Binds) (P : Problem) (c₀ : CheckedLent W₀) (six : fixed_six W₀.sorts W₀.lengths.sorts ≡ true)
    (Met : Type 0) (meet : Path → Lent → Met → Met) where
  -- two of the places given, made equal: they have a sort, the same
  given_leaves : (e : Path) (w : World Met) (Q : Claim) → Sound W₀ B₀ P w.lent e Q
      → FineBest W₀ B₀ P w.lent w.best → (l r : ℕ) → PlacedIn W₀ l → PlacedIn W₀ r
      → (ms : Components) (cs : List Choice) (R : Claim)
      → ((ρ : Assignment) (t : Tree) → Q e.choices ρ e.measure → Has (graph W₀) ρ l t → Has (graph W₀) ρ r t
      → R cs ρ ms) → (k : Binds → World Met → Out Met)
      → ((C : Binds) → Sound W₀ B₀ P w.lent (record { binds = C; measure = ms; choices = cs }) R → Leaves W₀ B₀ P Met w.lent (k C w))
      → Leaves W₀ B₀ P Met w.lent (unifying e.binds l r k w)
  given_leaves e w Q s f l r x y ms cs R h =
      let g = s.grown in
      unifying_leaves W₀ B₀ P Met e w Q s f l r (placed_grown W₀ c₀ w.lent g l x) (placed_grown W₀ c₀ w.lent g r y) ms cs R
      (λ ρ _ i q. let t = place_has_a_sort W₀ c₀ ρ l x in
      h ρ t.0 q t.1 (equal_have_one_sort W₀ c₀ w.lent g ρ l r t.0 x y i t.1))

  -- one of the places given and a primitive sort
  primitive_leaves : (e : Path) (w : World Met) (Q : Claim) → Sound W₀ B₀ P w.lent e Q
      → FineBest W₀ B₀ P w.lent w.best → (p : ℕ) → PlacedIn W₀ p → (s : Sort)
      → (ms : Components) (cs : List Choice) (R : Claim) → ((ρ : Assignment) → Q e.choices ρ e.measure
      → Has (graph W₀) ρ p (flat (primitive s)) → R cs ρ ms)
      → (k : Binds → World Met → Out Met)
      → ((C : Binds) → Sound W₀ B₀ P w.lent (record { binds = C; measure = ms; choices = cs }) R → Leaves W₀ B₀ P Met w.lent (k C w))
      → Leaves W₀ B₀ P Met w.lent (unifying e.binds p (kind_flat (primitive s)) k w)
  primitive_leaves e w Q S f p x s ms cs R h =
      given_leaves e w Q S f p (kind_flat (primitive s)) x (primitive_placed W₀ c₀ six s) ms cs R (λ ρ t q u v. h ρ q
      (u ∙ (sym v ∙ primitive_term W₀ c₀ six (terms ρ) s)))

  -- Every overload. The overload at position j of the list is at position i + j of the choice.
  module _ (x p : ℕ) (y : PlacedIn W₀ p) (Q R : Claim) (k : Path → World Met → Out Met) (on : Goes W₀ B₀ P Met R k) (d : Overload) where
    pub every_overload_goes : (os : List Overload) (i : ℕ) → ((j : ℕ) → j < length os → PlacedIn W₀ (get_or os j d).sort.0)
        → ((j : ℕ) → j < length os → (ch : List Choice) (ρ : Assignment) (ms : Components) (t : Tree) → Q ch ρ ms
        → Has (graph W₀) ρ p t → Has (graph W₀) ρ (get_or os j d).sort.0 t
        → R (ch ++ (record { expr = x; position = i + j } ∷ [])) ρ ms)
        → (b : Bool) → Goes W₀ B₀ P Met Q (every_overload Met meet P x p os i b k)
    unfolding every_overload
    every_overload_goes [] i a h b e w s f = says_leaves W₀ B₀ P Met b w s.grown.checked f
    every_overload_goes (o ∷ os) i a h b e w s f =
        and_also_leaves W₀ B₀ P Met e w Q s c₀ _ b (λ b. every_overload Met meet P x p os (i + 1) b k e)
        (given_leaves e w Q s f p o.sort.0 y (a 0 (omega arith)) e.measure (e.choices ++ (record { expr = x; position = i } ∷ [])) R
        (λ ρ t q u v. at_position R x (i + 0) i (add-zero i) e.choices ρ e.measure (h 0 (omega arith)
        e.choices ρ e.measure t q u v)) (λ C. k (with_choice e x i C))
        (λ C z. on (with_choice e x i C) w z f))
        (λ b v _ s' f'. every_overload_goes os (i + 1) (λ j l. a (suc j) (omega (arith, l)))
        (λ j l ch ρ ms t q u v. at_position R x (i + suc j) (i + 1 + j) (omega arith) ch ρ ms (h (suc j) (omega (arith, l)) ch ρ ms t q u v)) b e v s' f')

  pub disjunction_goes : (x : ExprId) (p : InferSortId) (run : Run) → PlacedIn W₀ p.0 → ((i : ℕ) → i < run.count
      → PlacedIn W₀ (overload_in P.overloads run i).sort.0) → (Q R : Claim)
      → ((ch : List Choice) (ρ : Assignment) (ms : Components) (i : ℕ) (t : Tree) → Q ch ρ ms → i < run.count → Has (graph W₀) ρ p.0 t
      → Has (graph W₀) ρ (overload_in P.overloads run i).sort.0 t → R (ch ++ (record { expr = x.0; position = i } ∷ [])) ρ ms)
      → (k : Path → World Met → Out Met) → Goes W₀ B₀ P Met R k → Goes W₀ B₀ P Met Q (step Met meet P (Disjunction x p run) k)
  unfolding step
  disjunction_goes x p run y a Q R h k on =
      every_overload_goes x.0 p.0 y Q R k on d os 0 (λ j l. subst (λ o. PlacedIn W₀ o.sort.0) (sym (same j (short j l))) (a j (short j l)))
      (λ j l ch ρ ms t q u v. at_position R x.0 j (0 + j) (omega arith) ch ρ ms
      (h ch ρ ms j t q (short j l) u (subst (λ o. Has (graph W₀) ρ o.sort.0 t) (same j (short j l)) v)))
      false
    where
      d : Overload
      d = record { target = Variable; sort = record { 0 = 0 } }

      os : List Overload
      os = take run.count (drop run.start P.overloads)

      short : (j : ℕ) → j < length os → j < run.count
      short j l = omega (arith, l, length-take run.count (drop run.start P.overloads))

      same : (j : ℕ) → j < run.count → get_or os j d ≡ overload_in P.overloads run j
      same j l = get_or-take run.count (drop run.start P.overloads) j d l ∙ get_or-drop run.start P.overloads j d

  -- Every reading: the body has the sort of the reading, and the node that of its container over the element.
  module _
      (body node element : ℕ) (x : PlacedIn W₀ body) (y : PlacedIn W₀ node) (l : element < W₀.lengths.sorts) (Q R : Claim)
      (h : (ch : List Choice) (ρ : Assignment) (ms : Components) (s t : Tree) → Q ch ρ ms → Has (graph W₀) ρ body s → Has (graph W₀) ρ node t
      → ReadAs (sort_in W₀ element) s t → R ch ρ ms) (k : Path → World Met → Out Met) (on : Goes W₀ B₀ P Met R k) where
    reading_goes : (s : Sort) (o : ComplexSort) → ReadAs (sort_in W₀ element) (flat (primitive s)) (container o (sort_in W₀ element))
        → (rs : List Reading) → ((b : Bool) → Goes W₀ B₀ P Met Q (every_reading Met meet P rs body node element b k)) → (b : Bool)
        → Goes W₀ B₀ P Met Q (every_reading Met meet P (record { body = kind_flat (primitive s); op = o } ∷ rs) body node element b k)
    unfolding every_reading
    reading_goes s o z rs ih b e w S f =
        let M : Claim = λ ch ρ ms. Q ch ρ ms × Has (graph W₀) ρ body (flat (primitive s)) in
        on_made_leaves W₀ B₀ P c₀ Met (IsSort (container o (sort_in w.lent element))) (Unit {0}) e w Q S f (intern_container o element w.lent)
        (container_makes w.lent S.grown.checked o element (omega (arith, l, S.grown.sorts))) _ missed
        (λ a v g S₁ f₁ i. and_also_leaves W₀ B₀ P Met e v Q S₁ c₀ _ b (λ b. every_reading Met meet P rs body node element b k e)
        (primitive_leaves e v Q S₁ f₁ body x s e.measure e.choices M (λ ρ q u. (q, u)) (λ C. unifying C node a (λ D. k (with_binds e D)))
        (λ C S₂. unifying_leaves W₀ B₀ P Met (with_binds e C) v M S₂ f₁ node a (placed_grown W₀ c₀ v.lent
        S₁.grown node y) (sort_placed v.lent S₁.grown.checked a i.0)
        e.measure e.choices R
        (λ ρ _ j m. h e.choices ρ e.measure (flat (primitive s)) (container o (sort_in W₀ element)) m.0 m.1
        ((same_sort W₀ c₀ v.lent S₁.grown ρ node (container o (sort_in W₀ element)) y).0
        (j ∙ (sort_term v.lent S₁.grown.checked (terms ρ) a i.0 ∙ ap term_of (i.1 ∙ ap (container o) (S.grown.looks element l)))))
        z) (λ D. k (with_binds e D)) (λ D S₃. on (with_binds e D) v S₃ f₁)))
        (λ b v' _ s' f'. ih b e v' s' f'))
        (λ v S₁ f₁. missed_leaves W₀ B₀ P Met v S₁.grown.checked f₁)

    pub comprehension_goes : Goes W₀ B₀ P Met Q (every_reading Met meet P readings body node element false k)
    unfolding every_reading kind_flat
    comprehension_goes =
        reading_goes Sort.Bool ComplexSort.Set as_set (drop 1 readings)
        (reading_goes Sort.Nat ComplexSort.Bag as_bag (drop 2 readings)
        (reading_goes Sort.Pos ComplexSort.Bag as_bag_of_pos []
        (λ b e w s f. says_leaves W₀ B₀ P Met b w s.grown.checked f)))
        false

  -- A literal: at a number sort the place has that sort, whatever the assignment; at a free place one number sort after another.
  module _
      (kind : LitKind) (p : ℕ) (x : PlacedIn W₀ p) (Q R : Claim)
      (h : (ch : List Choice) (ρ : Assignment) (ms : Components) (s : Sort) (g : ℕ) → Q ch ρ ms
      → Has (graph W₀) ρ p (flat (primitive s)) → lit_component kind s ≡ some g
      → R ch ρ (ms ++ (g ∷ []))) (k : Path → World Met → Out Met) (on : Goes W₀ B₀ P Met R k) where
    -- on a branch, by the end of the place
    module _ (e : Path) (w : World Met) (S : Sound W₀ B₀ P w.lent e Q) (f : FineBest W₀ B₀ P w.lent w.best) where
      abbrev W : Lent
      W = w.lent

      -- at a number sort that has a component for the kind
      sort_leads : (s : Sort) (g : ℕ) → lit_component kind s ≡ some g → Leads W e Q R (record { left = p; right = kind_flat (primitive s); component = g })
      sort_leads s g i =
          let y = primitive_placed W₀ c₀ six s in
          record {
            left = placed_grown W₀ c₀ W S.grown p x;
            right = placed_grown W₀ c₀ W S.grown (kind_flat (primitive s)) y;
            so =
                λ ρ _ j q. h e.choices ρ e.measure s g q
                (equal_have_one_sort W₀ c₀ W S.grown ρ (kind_flat (primitive s)) p (flat (primitive s)) y x (sym j) (primitive_term W₀ c₀ six (terms ρ) s)) i;
          }

      from_nat_lead : All (Leads W e Q R) (from_nat p)
      unfolding kind_flat lit_component
      from_nat_lead = and_all _ _ (sort_leads Sort.Nat 1 refl) (and_all _ _ (sort_leads Sort.Int 2 refl) (and_all _ _ (sort_leads Sort.Real 3 refl) none_left))

      tries_lead : (kind' : LitKind) → kind ≡ kind' → All (Leads W e Q R) (lit_tries kind' p)
      unfolding kind_flat lit_component
      tries_lead Positive i = and_all _ _ (sort_leads Sort.Pos 0 (ap (λ z. lit_component z Sort.Pos) i)) from_nat_lead
      tries_lead Natural i = from_nat_lead

      nothing_found : Leaves W₀ B₀ P Met W (missed w)
      nothing_found = missed_leaves W₀ B₀ P Met w S.grown.checked f

      module _ (q : ℕ) (i : follow (graph W) deep e.binds p ≡ some q) where
        at_sort_lem : (s : Sort) → graph W q ≡ over (flat_head (primitive s)) [] → (o : Option ℕ) → lit_component kind s ≡ o
            → Leaves W₀ B₀ P Met W (at_sort Met meet P o k e w)
        unfolding term_of
        at_sort_lem s j none l = nothing_found
        at_sort_lem s j (some g) l =
            let c = S.grown.checked in
            on (with_components e (g ∷ []) e.binds) w
            (record {
              grown = S.grown;
              binds = S.binds;
              refines = S.refines;
              costs = λ ρ r. h e.choices ρ e.measure s g (S.costs ρ r)
                  ((same_sort W₀ c₀ W S.grown ρ p (flat (primitive s)) x).0
                  (term_at_end W c e.binds (terms ρ) r deep p q i ∙ (term_by_shape W c (terms ρ) q ∙ ap (shape_val (terms ρ) (term_in W (terms ρ))) j)))
                  l;
            })
            f

        at_flat : (a : Flat) → graph W q ≡ over (flat_head a) [] → Leaves W₀ B₀ P Met W (literal_at Met meet P kind p (over (flat_head a) []) k e w)
        at_flat unit j = nothing_found
        at_flat (primitive s) j = at_sort_lem s j (lit_component kind s) refl
        at_flat (def n) j = nothing_found
        at_flat (typevar n) j = nothing_found

        at_shape : (s : Shape) → graph W q ≡ s → ShapeFormed s → Leaves W₀ B₀ P Met W (literal_at Met meet P kind p s k e w)
        at_shape _ j (variable_formed v) = first_found_leaves W₀ B₀ P c₀ Met meet e Q R k on (lit_tries kind p) w S f (tries_lead kind refl)
        at_shape _ j (flat_formed a) = at_flat a j
        at_shape _ j (container_formed o s) = nothing_found
        at_shape _ j (function_formed n xs r len few) = nothing_found

      at_end : (o : Option ℕ) → follow (graph W) deep e.binds p ≡ o → Leaves W₀ B₀ P Met W (literal_end Met meet P kind p o k e w)
      at_end none i = nothing_found
      at_end (some q) i =
          at_shape q i (graph W q) refl
          (placed_formed W S.grown.checked q (follow_names (graph W) e.binds (PlacedIn W) (binds_name_places W
          e.binds S.binds) deep p q (placed_grown W₀ c₀ W S.grown p x) i))

    pub literal_goes : Goes W₀ B₀ P Met Q (literal Met meet P kind p k)
    unfolding literal
    literal_goes e w S f = at_end e w S f (follow (graph w.lent) deep e.binds p) refl
