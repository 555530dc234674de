-- What resolving places and joining sorts leave of the lent lists: only sorts were made, and what is answered stands for what was asked, under every
-- assignment that respects the bindings. One call after another, by the growth of lists. So what goes on with what was made goes on soundly. Assumes
-- nothing.
use mathlib.Core.Path.{◌≡◌, refl, sym, subst, ap, ◌∙◌}
use mathlib.Core.Bool.{Bool, true, false, cond, and-eq-true_iff}
use mathlib.Core.List.{List, [], ◌∷◌}
use mathlib.Core.Option.{none, some}
use Prim.Native.Nat.{ℕ, ◌<◌, ◌≤◌}
use native.Mathlib.Omega.{arith}
use Rattle.resolved_sort.specs.Entries.{Joined}
use Rattle.resolved_sort.specs.Entries.{At, Nothing as NotThere, Full}
use Rattle.resolved_sort.specs.declared.ComplexSort.{ComplexSort}
use Rattle.resolved_sort.specs.Tree.{Tree, container}
use Rattle.resolved_sort.specs.Order.{join, Steps, distance, materializable}
use Rattle.resolved_sort.specs.Rows.{AllBelow}
use Rattle.resolved_sort.specs.Entries.{Stored}
use Rattle.resolved_sort.specs.Bounds.{bound_at, intern_at}
use Rattle.resolved_sort.proofs.RowTrees.{weaken_all}
use Rattle.resolved_sort.proofs.Distance.{distance_exists_exactly}
use Rattle.resolved_sort.proofs.Materializable.{materializable_below}
use Rattle.unification.specs.Default.{Default}
use Rattle.std.specs.Prelude.{Some as Is, None as Nothing}
use Rattle.unification.specs.Term.{Term, term_of, substitute}
use Rattle.unification.specs.Nodes.{Binds}
use Rattle.unification.specs.Related.{each}
use Rattle.unification.specs.Resolve.{value, DefaultBelow, term_resolved}
use Rattle.unification.specs.Making.{Lent, graph, Makes, made, no_list, no_room, ◌and-then◌, with_sorts, intern_container}
use Rattle.unification.specs.Growing.{CheckedLent, PlacedIn, Grows, CheckedBinds}
use Rattle.unification.proofs.Grows.{placed_grown, term_grown, respects_grown}
use Rattle.unification.proofs.BindsGrow.{binds_name_places, checked_binds_grown}
use Rattle.unification.proofs.MakingGrows.{MadeFrom, IsSort, container_grows}
use Rattle.unification.proofs.SortsLeft.{SortWith, Leaves as LeavesSorts}
use Rattle.unification.proofs.ResolveAnswers.{FreeHave, AlwaysStandsFor, ReachesFree, resolve_leaves}
use Rattle.unification.proofs.BoundAnswers.{bound_leaves}
use Rattle.inference.specs.Constraints.{Problem}
use Rattle.inference.specs.Search.{Path, World, Out, lending, on_made, makes_sort, resolve_in, join_in, resolve_all}
use Rattle.inference.specs.Search.{Agreed, join_all, sort_in, head_steps, all_into, agreed_by, agreed, join_of}
use Rattle.inference.specs.Measure.{Components}
use Rattle.inference.specs.Typing.{All, and_all}
use Rattle.inference.specs.Components.{where_there, joins}
use Rattle.inference.proofs.Invariant.{Claim, sorts_only_refl, sorts_only_trans, Sound, FineBest, Leaves, leaves_from, sound_grown, fine_grown}
use Rattle.inference.specs.Inner.Listed.{SortsOnly}

-- only sorts were made, and what is made is so; none only if N; no room is 15
unfoldable pub MadeSorts : {A : Type 0} → (Lent → A → Type 0) → Type 0 → Lent → Makes A → Type 0
MadeSorts In N W (made a W') = SortsOnly W W' × In W' a
MadeSorts In N W (no_list W') = SortsOnly W W' × N
MadeSorts In N W (no_room c W') = SortsOnly W W' × (c ≡ 15)

-- one after the other
pub sorts_then : {A B : Type 0} (In : Lent → A → Type 0) (On : Lent → B → Type 0) (N : Type 0) (W : Lent)
    → CheckedLent W → (O : Makes A) (f : A → Lent → Makes B) → MadeSorts In N W O
    → ((a : A) (W' : Lent) → SortsOnly W W' → In W' a → MadeSorts On N W' (f a W')) → MadeSorts On N W (O and-then f)
unfolding MadeSorts
sorts_then In On N W c (made a W') f h k = after (f a W') (k a W' h.0 h.1)
  where
    after : (Q : Makes _) → MadeSorts On N W' Q → MadeSorts On N W Q
    after (made b W'') x = (sorts_only_trans W W' W'' c h.0 x.0, x.1)
    after (no_list W'') x = (sorts_only_trans W W' W'' c h.0 x.0, x.1)
    after (no_room d W'') x = (sorts_only_trans W W' W'' c h.0 x.0, x.1)
sorts_then In On N W c (no_list W') f h k = h
sorts_then In On N W c (no_room d W') f h k = h

sorts_so : {A : Type 0} (In On : Lent → A → Type 0) (N : Type 0) (W : Lent) (O : Makes A) → MadeSorts In N W O
    → ((a : A) (W' : Lent) → SortsOnly W W' → In W' a → On W' a) → MadeSorts On N W O
unfolding MadeSorts
sorts_so In On N W (made a W') h k = (h.0, k a W' h.0 h.1)
sorts_so In On N W (no_list W') h k = h
sorts_so In On N W (no_room d W') h k = h

-- none, whatever the reason
some_none : {A : Type 0} (In : Lent → A → Type 0) (N : Type 0) (W : Lent) (O : Makes A) → MadeSorts In N W O → MadeSorts In (Unit {0}) W O
unfolding MadeSorts
some_none In N W (made a W') h = h
some_none In N W (no_list W') h = (h.0, tt)
some_none In N W (no_room d W') h = h

-- a call that makes sorts, by what it leaves
makes_sort_lem : (T : Tree → Type 0) (N : Type 0) (W : Lent) (r : Stored) (j : Joined) → LeavesSorts T N W r.words j
    → MadeSorts (SortWith T) N W (makes_sort W r j)
unfolding LeavesSorts MadeSorts
makes_sort_lem T N W r (At id k) h = (record { grows = h.0; nodes = refl; arguments = refl }, h.1)
makes_sort_lem T N W r (NotThere k) h = (record { grows = h.0; nodes = refl; arguments = refl }, h.1)
makes_sort_lem T N W r Full h = (record { grows = h.0; nodes = refl; arguments = refl }, refl)

-- a container that is interned
pub container_makes : (W : Lent) → CheckedLent W → (o : ComplexSort) (s : ℕ) → s < W.lengths.sorts
    → MadeSorts (IsSort (container o (sort_in W s))) (Unit {0}) W (intern_container o s W)
unfolding MadeSorts MadeFrom intern_container
container_makes W c o s l = go (intern_at W.sorts W.lengths.sorts W.lengths.entries (container o (sort_in W s))) (container_grows W c o s l)
  where
    by : (r : Stored) (j : Joined) → MadeFrom (IsSort (container o (sort_in W s))) W (with_sorts W r j)
        → MadeSorts (IsSort (container o (sort_in W s))) (Unit {0}) W (with_sorts W r j)
    by r (At id k) m = (record { grows = m.0; nodes = refl; arguments = refl }, m.1)
    by r (NotThere k) m = (record { grows = m; nodes = refl; arguments = refl }, tt)
    by r Full m = (record { grows = m; nodes = refl; arguments = refl }, refl)

    go : (r : Stored) → MadeFrom (IsSort (container o (sort_in W s))) W (with_sorts W r r.answer)
        → MadeSorts (IsSort (container o (sort_in W s))) (Unit {0}) W (with_sorts W r r.answer)
    go r = by r r.answer

-- there is no default
abbrev pub NoDefault : Default → Type 0
NoDefault (Is d) = ⊥
NoDefault Nothing = Unit {0}

module _ (W : Lent) (c : CheckedLent W) where
  pub join_makes : (a b : ℕ) → a < W.lengths.sorts → b < W.lengths.sorts
      → MadeSorts (SortWith (λ u. join (sort_in W a) (sort_in W b) ≡ some u)) (Unit {0}) W (join_in a b W)
  unfolding join_in
  join_makes a b x y =
      some_none (SortWith (λ u. join (sort_in W a) (sort_in W b) ≡ some u)) (join (sort_in W a) (sort_in W b) ≡ none) W _
      (makes_sort_lem (λ u. join (sort_in W a) (sort_in W b) ≡ some u) (join (sort_in W a) (sort_in W b) ≡ none) W
      (bound_at true W.sorts W.lengths.sorts W.lengths.entries a b) _ (bound_leaves W c true a b x y))

  module _ (B : Binds) (b : CheckedBinds W B) where
    pub resolve_makes : (x : Default) → DefaultBelow W.lengths.sorts x → (p : ℕ) → PlacedIn W p
        → MadeSorts (SortWith (AlwaysStandsFor W B x p)) (NoDefault x) W (resolve_in x B p W)
    unfolding resolve_in
    resolve_makes x l p i = without x (makes_sort_lem (AlwaysStandsFor W B x p) (ReachesFree W B x p) W
        (term_resolved W.sorts W.lengths x (value (graph W) B p)) _ (resolve_leaves W c B b p i x l))
      where
        without : (y : Default) → MadeSorts (SortWith (AlwaysStandsFor W B x p)) (ReachesFree W B y p) W
            (resolve_in x B p W) → MadeSorts (SortWith (AlwaysStandsFor W B x p)) (NoDefault y) W (resolve_in x B p W)
        without (Is d) h = h
        without Nothing h = some_none (SortWith (AlwaysStandsFor W B x p)) (ReachesFree W B Nothing p) W (resolve_in x B p W) h

-- the sorts of numbers in lists that grew
pub looks_grown : (W W' : Lent) → Grows W W' → (ss : List ℕ) → AllBelow W.lengths.sorts ss → each (sort_in W') ss ≡ each (sort_in W) ss
unfolding AllBelow
looks_grown W W' g [] a = refl
looks_grown W W' g (s ∷ ss) a = let x = g.looks s a.0 in let y = looks_grown W W' g ss a.1 in cc

-- The join of a sort with others, one after another.
pub joins_make : (bs : List ℕ) (W : Lent) → CheckedLent W → (a : ℕ) → a < W.lengths.sorts → AllBelow W.lengths.sorts bs
    → MadeSorts (SortWith (λ u. joins (sort_in W a) (each (sort_in W) bs) ≡ some u)) (Unit {0}) W (join_all a bs W)
unfolding MadeSorts join_all joins AllBelow
joins_make [] W c a x y = (sorts_only_refl W c, (x, refl))
joins_make (b ∷ bs) W c a x y =
    sorts_then (SortWith (λ u. join (sort_in W a) (sort_in W b) ≡ some u))
    (SortWith (λ u. joins (sort_in W a) (each (sort_in W) (b ∷ bs)) ≡ some u)) (Unit {0}) W c (join_in a b W)
    (λ j W'. join_all j bs W')
    (join_makes W c a b x y.0)
    (λ j W' g h.
    let z : each (sort_in W') bs ≡ each (sort_in W) bs = looks_grown W W' g.grows bs y.1 in
    sorts_so (SortWith (λ u. joins (sort_in W' j) (each (sort_in W') bs) ≡ some u))
    (SortWith (λ u. joins (sort_in W a) (each (sort_in W) (b ∷ bs)) ≡ some u)) (Unit {0}) W' (join_all j bs W')
    (joins_make bs W' g.grows.checked j h.0 (weaken_all W.lengths.sorts W'.lengths.sorts bs g.grows.sorts y.1))
    (λ i W'' g' h'. (h'.0, ap (λ o. where_there o (λ u. joins u (each (sort_in W) bs))) h.1 ∙ (ap (joins (sort_in W' j)) (sym z) ∙ h'.1))))

-- Each of the places of W stands for the sort of its number in W', whatever the assignment is.
pub data StandAll (W : Lent) (B : Binds) (x : Default) (W' : Lent) : List ℕ → List ℕ → Type 0 where
  all_stand : StandAll W B x W' [] []
  and_stands : (p s : ℕ) (ps ss : List ℕ) → s < W'.lengths.sorts → AlwaysStandsFor W B x p (sort_in W' s)
      → StandAll W B x W' ps ss → StandAll W B x W' (p ∷ ps) (s ∷ ss)

pub stand_below : (W : Lent) (B : Binds) (x : Default) (W' : Lent) (ps ss : List ℕ) → StandAll W B x W' ps ss → AllBelow W'.lengths.sorts ss
unfolding AllBelow
stand_below W B x W' _ _ all_stand = tt
stand_below W B x W' _ _ (and_stands p s ps ss l f t) = (l, stand_below W B x W' ps ss t)

stand_grown : (W : Lent) (B : Binds) (x : Default) (W' W'' : Lent) → Grows W' W'' → (ps ss : List ℕ) → StandAll W B x W' ps ss → StandAll W B x W'' ps ss
stand_grown W B x W' W'' g _ _ all_stand = all_stand
stand_grown W B x W' W'' g _ _ (and_stands p s ps ss l f t) =
    and_stands p s ps ss (omega (arith, l, g.sorts)) (λ σ r h. f σ r h ∙ ap term_of (sym (g.looks s l))) (stand_grown W B x W' W'' g ps ss t)

-- what stands for a sort in lists that grew did so before
free_grown : (W W' : Lent) (B : Binds) (x : Default) → DefaultBelow W.lengths.sorts x → Grows W W' → (σ : ℕ → Term) → FreeHave W B x σ → FreeHave W' B x σ
free_grown W W' B (Is d) l g σ h = λ u e. h u e ∙ ap term_of (sym (g.looks d.0 l))
free_grown W W' B Nothing l g σ h = tt

default_grown : (x : Default) (n m : ℕ) → n ≤ m → DefaultBelow n x → DefaultBelow m x
default_grown (Is d) n m l h = omega (arith, l, h)
default_grown Nothing n m l h = tt

module _ (W : Lent) (c : CheckedLent W) (B : Binds) (b : CheckedBinds W B) (x : Default) (l : DefaultBelow W.lengths.sorts x) where
  stands_before : (W' : Lent) → Grows W W' → (p : ℕ) → PlacedIn W p → (t : Tree) → AlwaysStandsFor W' B x p t → AlwaysStandsFor W B x p t
  stands_before W' g p i t f σ r h =
      ap (substitute σ) (sym (term_grown W c W' g p i)) ∙ f σ ((respects_grown W c W' g B (binds_name_places W B b) σ).0 r) (free_grown W W' B x l g σ h)

  pub resolve_all_makes : (ps : List ℕ) → All (PlacedIn W) ps → (W₁ : Lent) → SortsOnly W W₁
      → MadeSorts (λ W' ss. StandAll W B x W' ps ss) (NoDefault x) W₁ (resolve_all x B ps W₁)
  unfolding resolve_all MadeSorts
  resolve_all_makes [] i W₁ g = (sorts_only_refl W₁ g.grows.checked, all_stand)
  resolve_all_makes (p ∷ ps) (and_all _ _ i is) W₁ g =
      sorts_then (SortWith (AlwaysStandsFor W₁ B x p)) (λ W' ss. StandAll W B x W' (p ∷ ps) ss) (NoDefault x) W₁ g.grows.checked (resolve_in x B p W₁) _
      (resolve_makes W₁ g.grows.checked B (checked_binds_grown W W₁ B c b g.grows) x
      (default_grown x W.lengths.sorts W₁.lengths.sorts g.grows.sorts l) p (placed_grown W c W₁
      g.grows p i))
      (λ s W₂ h f.
      let gh : SortsOnly W W₂ = sorts_only_trans W W₁ W₂ c g h in
      sorts_then (λ W' ss. StandAll W B x W' ps ss) (λ W' ss. StandAll W B x W' (p ∷ ps) ss) (NoDefault x) W₂
      h.grows.checked (resolve_all x B ps W₂) _ (resolve_all_makes ps is W₂ gh)
      (λ ss W₃ k t. (
        sorts_only_refl W₃ k.grows.checked,
        and_stands p s ps ss (omega (arith, f.0, k.grows.sorts)) (stands_before W₁ g.grows p i (sort_in W₃ s)
            (λ σ r y. f.1 σ r y ∙ ap term_of (sym (k.grows.looks s f.0)))) t,
      )))

-- Sorts that are each materializable into t, with their head distances.
pub data HeadsAre (t : Tree) : List Tree → Components → Type 0 where
  no_heads : HeadsAre t [] []
  and_head_is : (s : Tree) (d : Steps) (ss : List Tree) (ns : Components) → materializable s t ≡ true
      → distance true s t ≡ some d → HeadsAre t ss ns → HeadsAre t (s ∷ ss) (d.head ∷ ns)

abbrev pub JoinsTo : List Tree → Tree → Type 0
JoinsTo [] u = ⊥
JoinsTo (s ∷ ss) u = joins s ss ≡ some u

-- the join of sorts, into which each of them is materializable
pub record IsAgreed (ts : List Tree) (W : Lent) (a : Agreed) : Type 0 where
  pub number : a.sort < W.lengths.sorts
  pub joined : JoinsTo ts (sort_in W a.sort)
  pub heads : HeadsAre (sort_in W a.sort) ts a.components

heads_are : (W : Lent) (j : ℕ) (ss : List ℕ) → all_into W j ss ≡ true → HeadsAre (sort_in W j) (each (sort_in W) ss)
    (each (λ s. head_steps (distance true (sort_in W s) (sort_in W j))) ss)
heads_are W j [] f = no_heads
heads_are W j (s ∷ ss) f =
    let x = (and-eq-true_iff (materializable (sort_in W s) (sort_in W j)) (all_into W j ss)).0 f in
    let d = (distance_exists_exactly true (sort_in W s) (sort_in W j)).1 (materializable_below (sort_in W s) (sort_in W j) x.0) in
    subst (λ o. HeadsAre (sort_in W j) (each (sort_in W) (s ∷ ss)) (head_steps o ∷ each
    (λ s. head_steps (distance true (sort_in W s) (sort_in W j))) ss)) (sym d.1)
    (and_head_is (sort_in W s) d.0 (each (sort_in W) ss)
    (each (λ s. head_steps (distance true (sort_in W s) (sort_in W j))) ss) x.0 d.1 (heads_are W j ss x.1))

pub agreed_makes : (ss : List ℕ) (W : Lent) → CheckedLent W → AllBelow W.lengths.sorts ss
    → MadeSorts (IsAgreed (each (sort_in W) ss)) (Unit {0}) W (agreed ss W)
unfolding agreed MadeSorts AllBelow
agreed_makes [] W c a = (sorts_only_refl W c, tt)
agreed_makes (s ∷ ss) W c a =
    sorts_then (SortWith (λ u. joins (sort_in W s) (each (sort_in W) ss) ≡ some u))
    (IsAgreed (each (sort_in W) (s ∷ ss))) (Unit {0}) W c (join_all s ss W) (λ j W'. agreed_by W' (s ∷ ss) j)
    (joins_make ss W c s a.0 a.1)
    (λ j W' g h. by W' g j h (all_into W' j (s ∷ ss)) refl)
  where
    by : (W' : Lent) → SortsOnly W W' → (j : ℕ) → SortWith (λ u. joins (sort_in W s) (each (sort_in W) ss) ≡ some u) W' j → (q : Bool) → all_into W' j (s ∷ ss) ≡ q
        → MadeSorts (IsAgreed (each (sort_in W) (s ∷ ss))) (Unit {0}) W'
        (cond q (made (record {
          sort = j;
          components = each (λ s. head_steps (distance true (sort_in W' s)
              (sort_in W' j))) (s ∷ ss);
        }) W') (no_list W'))
    by W' g j h true f = (
      sorts_only_refl W' g.grows.checked,
      record {
        number = h.0;
        joined = h.1;
        heads = subst (λ ts. HeadsAre (sort_in W' j) ts
            (each (λ s. head_steps (distance true (sort_in W' s) (sort_in W' j))) (s ∷ ss))) (looks_grown W W' g.grows
            (s ∷ ss) a) (heads_are W' j (s ∷ ss) f);
      },
    )
    by W' g j h false f = (sorts_only_refl W' g.grows.checked, tt)

-- The sources of a Join: each stands for a sort, and these agree.
pub record Agree (W : Lent) (B : Binds) (ps : List ℕ) (W' : Lent) (a : Agreed) : Type 0 where
  pub lists : Lent
  pub sorts : List ℕ
  pub stand : StandAll W B Nothing lists ps sorts
  pub agreed : IsAgreed (each (sort_in lists) sorts) W' a

pub join_of_makes : (W : Lent) (c : CheckedLent W) (B : Binds) (b : CheckedBinds W B) (ps : List ℕ)
    → All (PlacedIn W) ps → MadeSorts (Agree W B ps) (Unit {0}) W (join_of B ps W)
unfolding join_of
join_of_makes W c B b ps i =
    sorts_then (λ W' ss. StandAll W B Nothing W' ps ss) (Agree W B ps) (Unit {0}) W c (resolve_all Nothing B ps W)
    agreed (resolve_all_makes W c B b Nothing tt ps i W (sorts_only_refl W c))
    (λ ss W' g t.
    sorts_so (IsAgreed (each (sort_in W') ss)) (Agree W B ps) (Unit {0}) W' (agreed ss W') (agreed_makes ss W'
    g.grows.checked (stand_below W B Nothing W' ps ss t))
    (λ a W'' h q. record { lists = W'; sorts = ss; stand = t; agreed = q }))

-- On with what was made, where only sorts were.
module _ (W₀ : Lent) (B₀ : Binds) (P : Problem) (c₀ : CheckedLent W₀) (Met : Type 0) where
  pub on_made_leaves : {A : Type 0} (In : Lent → A → Type 0) (N : Type 0) (e : Path) (w : World Met) (Q : Claim)
      → Sound W₀ B₀ P w.lent e Q → FineBest W₀ B₀ P w.lent w.best
      → (O : Makes A) → MadeSorts In N w.lent O → (k : A → World Met → Out Met) (f : World Met → Out Met)
      → ((a : A) (v : World Met) → Grows w.lent v.lent → Sound W₀ B₀ P v.lent e Q
      → FineBest W₀ B₀ P v.lent v.best → In v.lent a → Leaves W₀ B₀ P Met v.lent (k a v))
      → ((v : World Met) → Sound W₀ B₀ P v.lent e Q → FineBest W₀ B₀ P v.lent v.best
      → Leaves W₀ B₀ P Met v.lent (f v)) → Leaves W₀ B₀ P Met w.lent (on_made O k f w)
  unfolding MadeSorts Leaves
  on_made_leaves In N e w Q s b (made a W') m k f x y =
      leaves_from W₀ B₀ P Met w.lent s.grown.checked W' m.0 (k a (lending w W'))
      (x a (lending w W') m.0.grows (sound_grown W₀ B₀ P w.lent W' e Q c₀ s m.0.grows) (fine_grown W₀ B₀ P
      w.lent W' m.0.grows w.best b) m.1)
  on_made_leaves In N e w Q s b (no_list W') m k f x y =
      leaves_from W₀ B₀ P Met w.lent s.grown.checked W' m.0 (f (lending w W'))
      (y (lending w W') (sound_grown W₀ B₀ P w.lent W' e Q c₀ s m.0.grows) (fine_grown W₀ B₀ P w.lent W' m.0.grows w.best b))
  on_made_leaves In N e w Q s b (no_room c W') m k f x y = m.0.grows
