-- Widenings keep what holds all through a search, by tries: the places are equal; or the right side is the i-th of the places that stand for the wider
-- sorts of the left side; or the left side is the i-th narrower sort of the right, which then is the i-th wider sort of the left. A Join's sources go
-- one after another, each leaving the claim that whatever the rest adds is what is wanted. Assumes nothing.
use mathlib.Core.Path.{◌≡◌, refl, sym, subst, ◌∙◌}
use mathlib.Core.Bool.{Bool, true, false}
use mathlib.Core.List.{List, [], ◌∷◌, ◌++◌, append_assoc, append-nil}
use Prim.Native.Nat.{ℕ, suc, ◌+◌}
use native.Mathlib.Omega.{arith}
use Rattle.resolved_sort.specs.Tree.{Tree}
use Rattle.resolved_sort.specs.Checks.{fixed_six}
use Rattle.unification.specs.Term.{term_of}
use Rattle.unification.specs.Nodes.{Binds}
use Rattle.unification.specs.Acyclic.{One, first as at_first, later as at_later}
use Rattle.unification.specs.Solutions.{Respects}
use Rattle.unification.specs.Related.{related, Member, first, later}
use Rattle.unification.specs.Making.{Lent, graph, Makes, made, no_list, no_room, strict_related}
use Rattle.unification.proofs.Lists.{term_injective}
use Rattle.unification.specs.Growing.{CheckedLent, PlacedIn, Grows, term_in}
use Rattle.unification.proofs.Grows.{grows_trans, placed_grown, respects_grown}
use Rattle.unification.proofs.BindsGrow.{binds_name_places}
use Rattle.unification.proofs.MakingGrows.{MadeFrom, made_grows}
use Rattle.unification.proofs.Wider.{member_each, each_member, narrower_is_wider}
use Rattle.unification.proofs.RelatedPlaces.{StandForRelated}
use Rattle.unification.proofs.RelatedBinds.{no_list_is_free, related_makes}
use Rattle.unification.proofs.Assignments.{place_has_a_sort}
use Rattle.inference.specs.Constraints.{Problem}
use Rattle.inference.specs.Measure.{Components}
use Rattle.inference.specs.Search.{Choice, Path, Try, World, missed, lending, on_made, nodes_returned}
use Rattle.inference.specs.Search.{wider_tries, narrower_tries, Going, first_found, wider, narrower, widening}
use Rattle.inference.specs.Search.{sequence}
use Rattle.inference.specs.Typing.{Assignment, Has, All, none_left, and_all}
use Rattle.inference.specs.Components.{Widened, equal_to, wider_by, Sequence, no_source, and_source}
use Rattle.inference.proofs.Tries.{Leads, try_leaves, first_found_leaves}
use Rattle.inference.proofs.Invariant.{Claim, terms, Sound, FineBest, Leaves, Goes, same_sort}
use Rattle.inference.proofs.Invariant.{equal_have_one_sort, or_else_leaves, missed_leaves, given_back_leaves}
use Rattle.inference.proofs.Invariant.{sound_grown, fine_grown, weaker_goes}

-- the tries of a list of places: one for each place, with its position in the component
wider_each : (In : Try → Type 0) (r i : ℕ) (ps : List ℕ) → ((j p n : ℕ) → Member p j ps → n ≡ i + j
    → In (record { left = p; right = r; component = n })) → All In (wider_tries r i ps)
wider_each In r i [] h = none_left
wider_each In r i (p ∷ ps) h = and_all _ _ (h 0 p i first (omega arith)) (wider_each In r (i + 1) ps (λ j q n m e. h (suc j) q n (later m) (omega (arith, e))))

narrower_each : (In : Try → Type 0) (l i : ℕ) (ps : List ℕ) → ((j p n : ℕ) → Member p j ps → n ≡ i + j
    → In (record { left = l; right = p; component = n })) → All In (narrower_tries l i ps)
narrower_each In l i [] h = none_left
narrower_each In l i (p ∷ ps) h = and_all _ _ (h 0 p i first (omega arith)) (narrower_each In l (i + 1) ps
    (λ j q n m e. h (suc j) q n (later m) (omega (arith, e))))

member_is_one : {p j : ℕ} {ps : List ℕ} → Member p j ps → One p ps
member_is_one first = at_first _
member_is_one (later m) = at_later _ _ (member_is_one m)

module _ (W₀ : Lent) (B₀ : Binds) (P : Problem) (c₀ : CheckedLent W₀) (Met : Type 0) (meet : Path → Lent → Met → Met) where
  -- The i-th of the places listed as wider (or narrower) than p stands for the i-th sort wider (narrower) than that of p.
  module _ (e : Path) (Q : Claim) (W : Lent) (s : Sound W₀ B₀ P W e Q) (up : Bool) (p : ℕ) (x : PlacedIn W₀ p)
      (qs : List ℕ) (W' : Lent) (g : Grows W W') (a : StandForRelated up e.binds W p W' qs) where
    related_sort : (ρ : Assignment) → Respects (graph W') e.binds (terms ρ) → (j q : ℕ) → Member q j qs
        → (t u : Tree) × (Has (graph W₀) ρ p t × Has (graph W') ρ q u × Member u j (related up t))
    related_sort ρ r j q m =
        let t = place_has_a_sort W₀ c₀ ρ p x in
        let before = (respects_grown W s.grown.checked W' g e.binds (binds_name_places W e.binds s.binds) (terms ρ)).1 r in
        let same = a.1 (terms ρ) before t.0 ((same_sort W₀ c₀ W s.grown ρ p t.0 x).1 t.1) in
        let u = each_member term_of (term_in W' (terms ρ) q) j (related up t.0)
        (subst (Member (term_in W' (terms ρ) q) j) same (member_each (term_in W' (terms ρ)) m)) in
        (t.0, u.0, (t.1, u.1, u.2))

  module _ (six : fixed_six W₀.sorts W₀.lengths.sorts ≡ true) where
    module _ (l r : ℕ) (x : PlacedIn W₀ l) (y : PlacedIn W₀ r) (Q R : Claim)
        (h : (ch : List Choice) (ρ : Assignment) (ms : Components) (s t : Tree) (n : ℕ) → Q ch ρ ms
        → Has (graph W₀) ρ l s → Has (graph W₀) ρ r t → Widened s t n → R ch ρ (ms ++ (n ∷ [])))
        (k : Going Met meet P) (goes : Goes W₀ B₀ P Met R k) (e : Path) where
      module _ (W : Lent) (s : Sound W₀ B₀ P W e Q) where
        equal_leads : Leads W e Q R (record { left = l; right = r; component = 0 })
        equal_leads =
            record {
              left = placed_grown W₀ c₀ W s.grown l x;
              right = placed_grown W₀ c₀ W s.grown r y;
              so =
                  λ ρ _ q z. let t = place_has_a_sort W₀ c₀ ρ l x in
                  h e.choices ρ e.measure t.0 t.0 0 z t.1 (equal_have_one_sort W₀ c₀ W s.grown ρ l r t.0 x y q t.1) equal_to;
            }

        module _ (ps : List ℕ) (W' : Lent) (g : Grows W W') where
          all_grown : Grows W₀ W'
          all_grown = grows_trans W₀ c₀ W W' s.grown g

          wider_lead : StandForRelated true e.binds W l W' ps → All (Leads W' e Q R) (wider_tries r 1 ps)
          wider_lead a =
              wider_each (Leads W' e Q R) r 1 ps
              (λ j p n m i. record {
                left = a.0 p (member_is_one m);
                right = placed_grown W₀ c₀ W' all_grown r y;
                so =
                    λ ρ v q z. let b = related_sort e Q W s true l x ps W' g a ρ v j p m in
                    h e.choices ρ e.measure b.0 b.1 n z b.2.0 ((same_sort W₀ c₀ W' all_grown ρ r b.1 y).0 (sym q ∙ b.2.1))
                    (subst (Widened b.0 b.1) (omega (arith, i)) (wider_by b.1 j b.2.2));
              })

          narrower_lead : StandForRelated false e.binds W r W' ps → All (Leads W' e Q R) (narrower_tries l 1 ps)
          narrower_lead a =
              narrower_each (Leads W' e Q R) l 1 ps
              (λ j p n m i. record {
                left = placed_grown W₀ c₀ W' all_grown l x;
                right = a.0 p (member_is_one m);
                so =
                    λ ρ v q z. let b = related_sort e Q W s false r y ps W' g a ρ v j p m in
                    h e.choices ρ e.measure b.1 b.0 n z ((same_sort W₀ c₀ W' all_grown ρ l b.1 x).0 (q ∙ b.2.1)) b.2.0
                    (subst (Widened b.1 b.0) (omega (arith, i)) (wider_by b.0 j (narrower_is_wider b.1 b.0 j b.2.2)));
              })

      module _ (w : World Met) (s : Sound W₀ B₀ P w.lent e Q) (f : FineBest W₀ B₀ P w.lent w.best) where
        -- the tries of a list, with nodes given back; or, where there is none and so nothing was made, what else
        listed_leaves : (up : Bool) (p : ℕ) → PlacedIn W₀ p → (tries : List ℕ → List Try)
            → ((ps : List ℕ) (W' : Lent) → Grows w.lent W' → StandForRelated up e.binds w.lent p W' ps → All (Leads W' e Q R) (tries ps))
            → (else : Going Met meet P) → Leaves W₀ B₀ P Met w.lent (else e w)
            → Leaves W₀ B₀ P Met w.lent
            (on_made (strict_related up e.binds p w.lent) (λ ps v. nodes_returned w.lent (first_found Met meet P (tries ps) k e v)) (else e) w)
        unfolding Leaves MadeFrom
        listed_leaves up p at tries lead else o =
            go (strict_related up e.binds p w.lent) refl
            (related_makes w.lent s.grown.checked e.binds s.binds up p (s.grown.fixed six) (placed_grown W₀ c₀ w.lent s.grown p at))
          where
            go : (O : Makes (List ℕ)) → strict_related up e.binds p w.lent ≡ O → MadeFrom (StandForRelated up e.binds w.lent p) w.lent O
                → Leaves W₀ B₀ P Met w.lent (on_made O (λ ps v. nodes_returned w.lent (first_found Met meet P (tries ps) k e v)) (else e) w)
            go (made ps W') i m =
                let g = made_grows (StandForRelated up e.binds w.lent p) w.lent W' ps (made ps W') m refl in
                given_back_leaves W₀ B₀ P Met w.lent s.grown.checked W' g.0 (first_found Met meet P (tries ps) k e (lending w W'))
                (first_found_leaves W₀ B₀ P c₀ Met meet e Q R k goes (tries ps) (lending w W') (sound_grown W₀ B₀ P
                w.lent W' e Q c₀ s g.0) (fine_grown W₀ B₀ P w.lent W' g.0 w.best f)
                (lead ps W' g.0 g.1))
            go (no_list W') i m =
                subst (λ U. Leaves W₀ B₀ P Met w.lent (else e (lending w U)))
                (sym (no_list_is_free w.lent s.grown.checked e.binds s.binds up p W' i).1) o
            go (no_room b W') i m = m

        narrower_leaves : Leaves W₀ B₀ P Met w.lent (narrower Met meet P l r k e w)
        narrower_leaves = listed_leaves false r y (narrower_tries l 1) (narrower_lead w.lent s) (λ e. missed)
            (missed_leaves W₀ B₀ P Met w s.grown.checked f)

        wider_leaves : Leaves W₀ B₀ P Met w.lent (wider Met meet P l r k e w)
        wider_leaves = listed_leaves true l x (wider_tries r 1) (wider_lead w.lent s) (narrower Met meet P l r k) narrower_leaves

    -- From Q to R by a widening, where R holds of whatever is widened so.
    pub widening_goes : (l r : ℕ) → PlacedIn W₀ l → PlacedIn W₀ r → (Q R : Claim)
        → ((ch : List Choice) (ρ : Assignment) (ms : Components) (s t : Tree) (n : ℕ) → Q ch ρ ms
        → Has (graph W₀) ρ l s → Has (graph W₀) ρ r t → Widened s t n → R ch ρ (ms ++ (n ∷ [])))
        → (k : Going Met meet P) → Goes W₀ B₀ P Met R k → Goes W₀ B₀ P Met Q (widening Met meet P l r k)
    unfolding widening
    widening_goes l r x y Q R h k g e w s f =
        or_else_leaves W₀ B₀ P Met e w Q s c₀ _ (wider Met meet P l r k e)
        (try_leaves W₀ B₀ P c₀ Met meet e Q R k g w s f (record { left = l; right = r; component = 0 }) (equal_leads l r x y Q R h k g e w.lent s))
        (λ v _ s' f'. wider_leaves l r x y Q R h k g e v s' f')

    -- whatever the sources add, R holds with it
    abbrev Adding : ℕ → Claim → List ℕ → Claim
    Adding t R ss ch ρ ms = (u : Tree) (ns : Components) → Has (graph W₀) ρ t u → Sequence (graph W₀) ρ u ss ns → R ch ρ (ms ++ ns)

    sources_go : (ss : List ℕ) (t : ℕ) → All (PlacedIn W₀) ss → PlacedIn W₀ t → (R : Claim) (k : Going Met meet P)
        → Goes W₀ B₀ P Met R k → Goes W₀ B₀ P Met (Adding t R ss) (sequence Met meet P ss t k)
    unfolding sequence
    sources_go [] t none_left y R k g =
        weaker_goes W₀ B₀ P Met (Adding t R []) R (λ ch ρ ms h. let u = place_has_a_sort W₀ c₀ ρ t y in subst (R ch ρ)
        (append-nil ms) (h u.0 [] u.1 no_source)) k g
    sources_go (p ∷ ss) t (and_all _ _ x xs) y R k g =
        widening_goes p t x y (Adding t R (p ∷ ss)) (Adding t R ss)
        (λ ch ρ ms s v n h i j d u ns z rest. let a : v ≡ u = term_injective v u (sym j ∙ z) in
        subst (R ch ρ) (sym (append_assoc ms (n ∷ []) ns)) (h u (n ∷ ns) z (and_source p s n ss ns i (subst (λ b. Widened s b n) a d) rest)))
        (sequence Met meet P ss t k) (sources_go ss t xs y R k g)

    -- From Q to R by a Join's sources one after another, where R holds with whatever they add.
    pub sequence_goes : (ss : List ℕ) (t : ℕ) → All (PlacedIn W₀) ss → PlacedIn W₀ t → (Q R : Claim)
        → ((ch : List Choice) (ρ : Assignment) (ms : Components) (u : Tree) (ns : Components) → Q ch ρ ms
        → Has (graph W₀) ρ t u → Sequence (graph W₀) ρ u ss ns → R ch ρ (ms ++ ns))
        → (k : Going Met meet P) → Goes W₀ B₀ P Met R k → Goes W₀ B₀ P Met Q (sequence Met meet P ss t k)
    sequence_goes ss t xs y Q R h k g =
        weaker_goes W₀ B₀ P Met Q (Adding t R ss) (λ ch ρ ms q u ns. h ch ρ ms u ns q) (sequence Met meet P ss t k) (sources_go ss t xs y R k g)
