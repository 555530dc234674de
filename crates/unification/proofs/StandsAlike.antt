-- Places that stand for the same terms, each in its own lists under its own bindings. They do exactly if their values are instances of each other, that
-- is, equal up to names. Then they resolve alike, with a default and without; and both have a list of wider (narrower) sorts or neither has, with as many
-- places, which stand for the same sorts. By the most general solution, whose terms are the values. Assumes nothing.
use mathlib.Core.Path.{◌≡◌, refl, ap, sym, ◌∙◌}
use mathlib.Core.Bool.{Bool, true, false}
use mathlib.Core.List.{List, [], ◌∷◌}
use mathlib.Core.Logic.{◌↔◌}
use mathlib.Core.Option.{Option, none, some}
use Prim.Native.Nat.{ℕ, zero, suc, ◌<◌}
use native.Mathlib.Omega.{arith}
use lib.ListN.{length, get_or}
use Rattle.resolved_sort.specs.Tree.{unit, Tree, flat}
use Rattle.resolved_sort.specs.Interning.{Sorts}
use Rattle.resolved_sort.specs.Checks.{fixed_six}
use Rattle.resolved_sort.proofs.Numbers.{true_not_false}
use Rattle.unification.specs.Term.{flat_head, container_head, function_head, stray_head, Term, var, Shape, variable, over, term_of, substitute}
use Rattle.unification.specs.Nodes.{Binds, binding}
use Rattle.unification.specs.Unify.{deep}
use Rattle.unification.specs.Solutions.{value_bound, value_at, term_at, Respects}
use Rattle.unification.specs.Resolve.{value, resolve, resolve_or_default, general}
use Rattle.unification.specs.Related.{each}
use Rattle.unification.specs.FinalRange.{FreeEnd, free, bound_to, range}
use Rattle.unification.specs.Making.{Lent, graph, made, no_list, strict_related}
use Rattle.unification.proofs.Rank.{rank, Ranked, rank_var}
use Rattle.unification.proofs.Lists.{lower, scoped}
use Rattle.unification.proofs.Solved.{solution}
use Rattle.unification.proofs.Theorem.{deep_enough}
use Rattle.unification.proofs.Resolved.{value_eq, put_place, stands_free}
use Rattle.unification.proofs.RelatedEq.{function_parts, range_lower}
use Rattle.unification.specs.Growing.{CheckedLent, PlacedIn, CheckedBinds, term_in}
use Rattle.unification.proofs.Assignments.{place_has_a_sort, sorts_extend}
use Rattle.unification.proofs.MostGeneral.{general_respects, value_is_general}
use Rattle.unification.proofs.UpToNames.{Instance, SameButNames, instances_same_but_names, put_agrees}
use Rattle.unification.proofs.UpToNames.{put_twice, resolve_up_to_names, open_end, open_up_to_names}
use Rattle.unification.proofs.UpToNames.{open_at_part}
use Rattle.unification.proofs.MakingGrows.{made_grows}
use Rattle.unification.proofs.RelatedPlaces.{StandForRelated}
use Rattle.unification.proofs.RelatedBinds.{checked_ranks, no_list_is_free, free_is_no_list, related_makes}
use Rattle.unification.specs.Solutions.{Covers}

-- The final range of a place is free exactly if its value ends in a variable.
module _ (W : Lent) (c : CheckedLent W) (B : Binds) (b : CheckedBinds W B) where
  abbrev val : ℕ → Term
  val = value (graph W) B

  abbrev A : Ranked (graph W) deep B
  A = checked_ranks W c B b

  abbrev ρ : ℕ → ℕ
  ρ = rank (graph W) deep B

  value_at_lem : (p : ℕ) (s : Shape) → graph W p ≡ s → val p ≡ value_at B var val s
  value_at_lem p s i =
      value_eq W.sorts W.lengths.sorts W.lengths.entries W.nodes W.lengths.nodes
      W.lengths.arguments W.lengths.variables c B b p ∙ ap (value_at B var val) i

  free_is_open : (p : ℕ) → FreeEnd (graph W) B p → open_end (val p) ≡ true
  unfolding open_end
  free_is_open _ (free p u s i) = ap open_end (value_at_lem p (variable u) s ∙ ap (value_bound var u val) i)
  free_is_open _ (bound_to p u q s i h) = ap open_end (value_at_lem p (variable u) s ∙ ap (value_bound var u val) i) ∙ free_is_open q h
  free_is_open _ (range p k ps s h) =
      ap open_end (value_at_lem p (over (function_head k) ps) s) ∙ (open_at_part val k ps (omega (arith, function_parts _ p k ps s)) ∙ free_is_open (get_or ps k 0) h)

  open_is_free : (k p : ℕ) → ρ p < k → open_end (val p) ≡ true → FreeEnd (graph W) B p
  unfolding open_end
  open_is_free zero p l h = absurd (omega (arith, l))
  open_is_free (suc k) p l h = go (graph W p) refl (sym (ap open_end (value_at_lem p (graph W p) refl)) ∙ h) (open_is_free k)
    where
      ends : (u : ℕ) (o : Option ℕ) → graph W p ≡ variable u → binding B u ≡ o → open_end (value_bound var u val o) ≡ true
          → ((q : ℕ) → ρ q < k → open_end (val q) ≡ true → FreeEnd (graph W) B q) → FreeEnd (graph W) B p
      ends u none s i x ih = free p u s i
      ends u (some q) s i x ih = bound_to p u q s i (ih q (omega (arith, l, rank_var (graph W) deep B A p u q s i)) x)

      go : (s : Shape) → graph W p ≡ s → open_end (value_at B var val s) ≡ true → ((q : ℕ) → ρ q < k
          → open_end (val q) ≡ true → FreeEnd (graph W) B q) → FreeEnd (graph W) B p
      go (variable u) s x ih = ends u (binding B u) s refl x ih
      go (over (flat_head a) ps) s x ih = absurd (true_not_false false x refl)
      go (over (container_head o) ps) s x ih = absurd (true_not_false false x refl)
      go (over (function_head j) ps) s x ih =
          range p j ps s (ih (get_or ps j 0) (omega (arith, l, range_lower W B A p j ps s))
          (sym (open_at_part val j ps (omega (arith, function_parts _ p j ps s))) ∙ x))
      go (over (stray_head y) ps) s x ih = absurd (true_not_false false x refl)

  pub free_end_exactly : (p : ℕ) → FreeEnd (graph W) B p ↔ (open_end (val p) ≡ true)
  free_end_exactly p = (free_is_open p, open_is_free deep p (A.short p))

module _ (W : Lent) (c : CheckedLent W) (B : Binds) (b : CheckedBinds W B) (p : ℕ) (W' : Lent) (c' : CheckedLent W')
    (B' : Binds) (b' : CheckedBinds W' B') (p' : ℕ) where
  put_here : (σ : ℕ → Term) → Respects (graph W) B σ → substitute σ (value (graph W) B p) ≡ substitute σ (term_at (graph W) p)
  put_here σ r = put_place W.sorts W.lengths.sorts W.lengths.entries W.nodes W.lengths.nodes
      W.lengths.arguments W.lengths.variables c B b σ r p

  put_there : (σ : ℕ → Term) → Respects (graph W') B' σ → substitute σ (value (graph W') B' p') ≡ substitute σ (term_at (graph W') p')
  put_there σ r =
      put_place W'.sorts W'.lengths.sorts W'.lengths.entries W'.nodes W'.lengths.nodes
      W'.lengths.arguments W'.lengths.variables c' B' b' σ r p'

  to_instance : Covers (graph W) B p (graph W') B' p' → Instance (value (graph W) B p) (value (graph W') B' p')
  to_instance h =
      let x = h (general (graph W) B) (general_respects W c B b.numbered) in
      (x.0, value_is_general W c B b.numbered p ∙ (sym x.1.1 ∙ sym (put_there x.0 x.1.0)))

  from_instance : Instance (value (graph W) B p) (value (graph W') B' p') → Covers (graph W) B p (graph W') B' p'
  from_instance i σ r =
      let s = solution (graph W') 3072 (lower W'.sorts W'.lengths.sorts W'.lengths.entries W'.nodes
      W'.lengths.nodes W'.lengths.arguments W'.lengths.variables c')
      W'.lengths.variables (scoped W'.sorts W'.lengths.sorts W'.lengths.entries W'.nodes
      W'.lengths.nodes W'.lengths.arguments W'.lengths.variables c') deep
      (deep_enough W'.sorts W'.lengths.sorts W'.lengths.entries W'.nodes W'.lengths.nodes
      W'.lengths.arguments W'.lengths.variables c') B' b'.numbered
      (λ u. substitute σ (i.0 u)) in (
        s.0,
        (
          s.1.0,
          sym (put_there s.0 s.1.0)
              ∙ (put_agrees s.0 (λ u. substitute σ (i.0 u)) (value (graph W') B' p')
              (λ u h. s.1.1 u (stands_free (graph W') deep B' (checked_ranks W' c' B' b') u p' h).1)
              ∙ (sym (put_twice σ i.0 (value (graph W') B' p')) ∙ (ap (substitute σ) (sym i.1) ∙ put_here σ r))),
        ),
      )

  pub covers_exactly : Covers (graph W) B p (graph W') B' p' ↔ Instance (value (graph W) B p) (value (graph W') B' p')
  covers_exactly = (to_instance, from_instance)

pub length_each : {A D : Type 0} (f : A → D) (xs : List A) → length (each f xs) ≡ length xs
length_each f [] = refl
length_each f (x ∷ xs) = ap suc (length_each f xs)

module _
    (W : Lent) (c : CheckedLent W) (B : Binds) (b : CheckedBinds W B) (p : ℕ)
    (W' : Lent) (c' : CheckedLent W') (B' : Binds) (b' : CheckedBinds W' B') (p' : ℕ)
    (x : Covers (graph W) B p (graph W') B' p') (y : Covers (graph W') B' p' (graph W) B p) where
  pub values_same_but_names : SameButNames (value (graph W) B p) (value (graph W') B' p')
  values_same_but_names =
      let i = (covers_exactly W c B b p W' c' B' b' p').0 x in
      let j = (covers_exactly W' c' B' b' p' W c B b p).0 y in
      instances_same_but_names i.0 j.0 (value (graph W) B p) (value (graph W') B' p') i.1 j.1

  -- resolve, and resolve_or_default, from the same list of sorts
  pub resolve_alike : (S : Sorts) → resolve (graph W) B p S ≡ resolve (graph W') B' p' S
  resolve_alike S = resolve_up_to_names none (value (graph W) B p) (value (graph W') B' p') values_same_but_names S

  pub resolve_or_default_alike : (t : Tree) (S : Sorts) → resolve_or_default (graph W) B p t S ≡ resolve_or_default (graph W') B' p' t S
  resolve_or_default_alike t S = resolve_up_to_names (some t) (value (graph W) B p) (value (graph W') B' p') values_same_but_names S

  -- whether there is a list of wider or narrower sorts
  pub no_list_alike : (up : Bool) (U : Lent) → strict_related up B p W ≡ no_list U → strict_related up B' p' W' ≡ no_list W'
  no_list_alike up U i =
      let f = (free_end_exactly W c B b p).0 (no_list_is_free W c B b up p U i).0 in
      free_is_no_list W' c' B' b' up p' ((free_end_exactly W' c' B' b' p').1
      (sym (open_up_to_names (value (graph W) B p) (value (graph W') B' p') values_same_but_names) ∙ f))

  -- and what its places stand for
  module _ (six : fixed_six W.sorts W.lengths.sorts ≡ true) (i : PlacedIn W p) (six' : fixed_six W'.sorts
      W'.lengths.sorts ≡ true) (i' : PlacedIn W' p') (up : Bool)
      (qs : List ℕ) (U : Lent) (h : strict_related up B p W ≡ made qs U) (qs' : List ℕ) (U' : Lent) (h' : strict_related up B' p' W' ≡ made qs' U') where
    pub places_alike : (σ σ' : ℕ → Term) → Respects (graph W) B σ → Respects (graph W') B' σ' → (t : Tree)
        → substitute σ (term_at (graph W) p) ≡ term_of t → substitute σ' (term_at (graph W') p') ≡ term_of t
        → each (term_in U σ) qs ≡ each (term_in U' σ') qs'
    places_alike σ σ' r r' t f f' =
        let a = made_grows (StandForRelated up B W p) W U qs (strict_related up B p W) (related_makes W c B b up p six i) h in
        let a' = made_grows (StandForRelated up B' W' p') W' U' qs' (strict_related up B' p' W') (related_makes W' c' B' b' up p' six' i') h' in
        a.1.1 σ r t f ∙ sym (a'.1.1 σ' r' t f')

    pub as_many_places : length qs ≡ length qs'
    as_many_places =
        let s = sorts_extend W c B b (λ u. flat unit) in
        let t = place_has_a_sort W c s.0 p i in
        let z = x (λ u. term_of (s.0 u)) s.1.0 in
        sym (length_each (term_in U (λ u. term_of (s.0 u))) qs)
        ∙ (ap length (places_alike (λ u. term_of (s.0 u)) z.0 s.1.0 z.1.0 t.0 t.1 (z.1.1 ∙ t.1)) ∙ length_each (term_in U' z.0) qs')
