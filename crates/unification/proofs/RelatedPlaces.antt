-- The places that strict_related_sorts answers stand for the sorts strictly wider (or narrower) than what the place stands for, in the same order. By
-- induction on the depth and the shape at the end of the place: the fixed sorts have their kinds as numbers; a container is interned or made over the
-- same part; functions are made over the places that the range answers. Assumes nothing.
use mathlib.Core.Path.{◌≡◌, refl, ap, ap₂, sym, ◌∙◌, subst}
use mathlib.Core.Bool.{Bool, true, false}
use mathlib.Core.List.{List, [], ◌∷◌, ◌++◌}
use mathlib.Core.Option.{Option, none, some}
use Prim.Native.Nat.{ℕ, zero, suc, ◌<◌, ◌≤◌}
use native.Mathlib.Omega.{arith}
use lib.ListN.{length}
use lib.Seq.{get_or_at, take_at}
use Rattle.resolved_sort.specs.declared.Sort.{Sort}
use Rattle.resolved_sort.specs.declared.ComplexSort.{ComplexSort}
use Rattle.resolved_sort.specs.Tree.{Flat, unit, primitive, def, typevar, Tree, flat, container, function, Trees, no_args, arg, arity}
use Rattle.resolved_sort.specs.Interning.{look}
use Rattle.resolved_sort.specs.Storage.{kind_flat, kind_op, trees}
use Rattle.resolved_sort.specs.Checks.{fixed_six}
use Rattle.resolved_sort.proofs.Reached.{no_confusion}
use Rattle.unification.specs.Term.{flat_head, container_head, function_head, Term, app, Terms, no_part, part, Shape, over, term_of, terms_of, substitute}
use Rattle.unification.specs.Nodes.{is_sort, Binds, binds_of}
use Rattle.unification.specs.Unify.{follow, deep}
use Rattle.unification.specs.Acyclic.{One, first, later}
use Rattle.unification.specs.Solutions.{terms_at, term_at, Respects}
use Rattle.unification.specs.Related.{related_numbers, related_container, each, over_part, related}
use Rattle.unification.specs.Making.{Lent, graph, Makes, made, ◌and-then◌, push_node, intern_container, only}
use Rattle.unification.specs.Making.{related_over, push_functions, related_places, related_shape, related_end}
use Rattle.unification.specs.Making.{related_to, strict_related}
use Rattle.unification.specs.Exact.{shape_val}
use Rattle.unification.proofs.Parts.{none_of, one_of_one, one_last, one_front}
use Rattle.unification.proofs.Rows.{ShapeFormed, variable_formed, flat_formed, container_formed, function_formed}
use Rattle.unification.proofs.Follow.{follow_names}
use Rattle.unification.specs.Growing.{Names, CheckedLent, ReadyLent, PlacedIn, Grows, term_in}
use Rattle.unification.proofs.Grows.{ready_names, parts_placed, grows_refl, grows_trans, placed_grown, term_grown}
use Rattle.unification.proofs.NodesGrow.{container_row}
use Rattle.unification.proofs.MakingGrows.{MadeFrom, made_then, made_so, made_grows, AllPlaced, HasShape}
use Rattle.unification.proofs.MakingGrows.{push_grows, IsSort, container_grows, Functions, no_function}
use Rattle.unification.proofs.MakingGrows.{one_function, functions_grow}
use Rattle.unification.proofs.PlaceTerms.{sort_placed, placed_formed, sort_part_below, term_by_shape}
use Rattle.unification.proofs.PlaceTerms.{term_at_end, sort_term, primitive_placed, primitive_term}

-- the sort of a term with a known head
flat_tree : (a : Flat) (us : Terms) (t : Tree) → app (flat_head a) us ≡ term_of t → t ≡ flat a
unfolding term_of
flat_tree a us (flat b) e = let z : b ≡ a = cc in ap flat z
flat_tree a us (container o t) e = no_confusion (cc)
flat_tree a us (function ts r) e = no_confusion (cc)

container_tree : (o : ComplexSort) (x : Term) (t : Tree) → app (container_head o) (part x no_part) ≡ term_of t → (u : Tree) × (t ≡ container o u) × (x ≡ term_of u)
unfolding term_of
container_tree o x (flat b) e = no_confusion (cc)
container_tree o x (container p u) e = let z : p ≡ o = cc in let y : x ≡ term_of u = cc in (u, ap (λ q. container q u) z, y)
container_tree o x (function ts r) e = no_confusion (cc)

function_tree : (n : ℕ) (us : Terms) (t : Tree) → app (function_head n) us ≡ term_of t
    → (ts : Trees) × (u : Tree) × (t ≡ function ts u) × (arity ts ≡ n) × (us ≡ terms_of ts (part (term_of u) no_part))
unfolding term_of
function_tree n us (flat b) e = no_confusion (cc)
function_tree n us (container p u) e = no_confusion (cc)
function_tree n us (function ts u) e = let z : arity ts ≡ n = cc in let y : us ≡ terms_of ts (part (term_of u) no_part) = cc in (ts, u, refl, z, y)

-- Arguments and a range: what the range stands for, and that another range may be put in its place.
parts_split : (val : ℕ → Term) (xs : List ℕ) (r : ℕ) (ts : Trees) (x : Term) → arity ts ≡ length xs → terms_at val (xs ++ (r ∷ [])) ≡ terms_of ts (part x no_part)
    → (val r ≡ x) × ((new : ℕ → Term) (q : ℕ) (y : Term) → ((z : ℕ) → One z xs → new z ≡ val z) → new q ≡ y
    → terms_at new (xs ++ (q ∷ [])) ≡ terms_of ts (part y no_part))
unfolding terms_of arity
parts_split val [] r no_args x l e = (let z : val r ≡ x = cc in z, λ new q y h f. ap (λ u. part u no_part) f)
parts_split val [] r (arg t ts) x l e = absurd (omega (arith, l))
parts_split val (a ∷ xs) r no_args x l e = absurd (omega (arith, l))
parts_split val (a ∷ xs) r (arg t ts) x l e =
    let i : val a ≡ term_of t = cc in
    let j : terms_at val (xs ++ (r ∷ [])) ≡ terms_of ts (part x no_part) = cc in
    let k = parts_split val xs r ts x (omega (arith, l)) j in
    (k.0, λ new q y h f. ap₂ part (h a (first xs) ∙ i) (k.1 new q y (λ z o. h z (later a xs o)) f))

-- the primitive sorts among the answers
module _ (W : Lent) (c : CheckedLent W) (six : fixed_six W.sorts W.lengths.sorts ≡ true) where
  numbers_placed : (rs : List Sort) → AllPlaced W (each (λ r. kind_flat (primitive r)) rs)
  numbers_placed [] q o = elim o [ ]
  numbers_placed (r ∷ rs) _ (first _) = primitive_placed W c six r
  numbers_placed (r ∷ rs) q (later _ _ o) = numbers_placed rs q o

  numbers_terms : (σ : ℕ → Term) (rs : List Sort) → each (term_in W σ) (each (λ r. kind_flat (primitive r)) rs) ≡ each term_of (each (λ r. flat (primitive r)) rs)
  numbers_terms σ [] = refl
  numbers_terms σ (r ∷ rs) = ap₂ ◌∷◌ (primitive_term W c six σ r) (numbers_terms σ rs)

  flat_placed : (up : Bool) (a : Flat) → AllPlaced W (related_places up a)
  flat_placed up unit q o = none_of q [] o refl
  flat_placed up (primitive s) q o = numbers_placed (related_numbers up s) q o
  flat_placed up (def n) q o = none_of q [] o refl
  flat_placed up (typevar n) q o = none_of q [] o refl

  flat_terms : (up : Bool) (a : Flat) (σ : ℕ → Term) → each (term_in W σ) (related_places up a) ≡ each term_of (related up (flat a))
  unfolding related
  flat_terms up unit σ = refl
  flat_terms up (primitive s) σ = numbers_terms σ (related_numbers up s)
  flat_terms up (def n) σ = refl
  flat_terms up (typevar n) σ = refl

one_placed : (W : Lent) (p : ℕ) → PlacedIn W p → AllPlaced W (p ∷ [])
one_placed W p x q o = subst (PlacedIn W) (sym (one_of_one q p (p ∷ []) o refl)) x

functions_placed : (W : Lent) (xs rs ps : List ℕ) → Functions W xs rs ps → AllPlaced W ps
functions_placed W xs _ _ no_function q o = none_of q [] o refl
functions_placed W xs _ _ (one_function r p rs ps x s f) _ (first _) = x
functions_placed W xs _ _ (one_function r p rs ps x s f) q (later _ _ o) = functions_placed W xs rs ps f q o

-- functions over ranges stand for the functions over what the ranges stand for
module _ (W W₁ W₂ : Lent) (c : CheckedLent W) (g : Grows W W₁) (h : Grows W₁ W₂) (σ : ℕ → Term) (xs : List ℕ)
    (x : AllPlaced W xs) (ts : Trees) (l : arity ts ≡ length xs)
    (other : (new : ℕ → Term) (q : ℕ) (y : Term) → ((z : ℕ) → One z xs → new z ≡ term_in W σ z) → new q ≡ y
    → terms_at new (xs ++ (q ∷ [])) ≡ terms_of ts (part y no_part)) where
  functions_terms : (rs ps : List ℕ) → AllPlaced W₁ rs → Functions W₂ xs rs ps → (us : List Tree) → each (term_in W₁ σ) rs ≡ each term_of us
      → each (term_in W₂ σ) ps ≡ each term_of (each (function ts) us)
  unfolding term_of
  functions_terms _ _ y no_function [] e = refl
  functions_terms _ _ y no_function (u ∷ us) e = no_confusion (cc)
  functions_terms _ _ y (one_function r p rs ps z s f) [] e = no_confusion (cc)
  functions_terms _ _ y (one_function r p rs ps z s f) (u ∷ us) e =
      let i : term_in W₁ σ r ≡ term_of u = cc in
      let j : each (term_in W₁ σ) rs ≡ each term_of us = cc in
      let a = other (term_in W₂ σ) r (term_of u) (λ q o. ap (substitute σ) (term_grown W c W₂ (grows_trans W c W₁ W₂ g
      h) q (x q o))) (ap (substitute σ) (term_grown W₁ g.checked W₂ h r (y r (first rs))) ∙ i) in
      ap₂ ◌∷◌ (term_by_shape W₂ h.checked σ p ∙ (ap (shape_val σ (term_in W₂ σ)) s ∙ ap₂ (λ n us. app (function_head n) us) (sym l) a))
      (functions_terms rs ps (λ q o. y q (later r rs o)) f us j)

-- All the places are places, and stand for the sorts related to whatever p stands for.
abbrev pub StandForRelated : Bool → Binds → Lent → ℕ → Lent → List ℕ → Type 0
StandForRelated up B W p W' qs =
    AllPlaced W' qs × ((σ : ℕ → Term) → Respects (graph W) B σ → (t : Tree) → term_in W σ p ≡ term_of t → each (term_in W' σ) qs ≡ each term_of (related up t))

module _ (W : Lent) (c : CheckedLent W) (six : fixed_six W.sorts W.lengths.sorts ≡ true) (up : Bool) (B : Binds) (b : Names (PlacedIn W) B) where
  abbrev pub Answer : ℕ → Lent → List ℕ → Type 0
  Answer = StandForRelated up B W

  -- by the shape at the end
  module _ (q : ℕ) (x : PlacedIn W q) where
    at_flat : (a : Flat) → graph W q ≡ over (flat_head a) [] → Answer q W (related_places up a)
    at_flat a s = (
      flat_placed W c six up a,
      λ σ r t e. let i = flat_tree a no_part t (sym (ap (shape_val σ (term_in W σ)) s) ∙ (sym (term_by_shape W c σ q) ∙ e)) in
          flat_terms W c six up a σ ∙ ap (λ u. each term_of (related up u)) (sym i),
    )

    module _ (o : ComplexSort) (s : ℕ) (f : graph W q ≡ over (container_head o) (s ∷ [])) where
      part_term : (σ : ℕ → Term) (t : Tree) → term_in W σ q ≡ term_of t → (u : Tree) × (t ≡ container o u) × (term_in W σ s ≡ term_of u)
      part_term σ t e = container_tree o (term_in W σ s) t (sym (ap (shape_val σ (term_in W σ)) f) ∙ (sym (term_by_shape W c σ q) ∙ e))

      -- where p stands for the container of o over what s stands for
      container_answer : (y : Option ComplexSort) → related_container up o ≡ y → (W' : Lent) (qs : List ℕ) → AllPlaced W' qs
          → ((σ : ℕ → Term) (u : Tree) → term_in W σ s ≡ term_of u → each (term_in W' σ) qs ≡ each term_of (over_part y u)) → Answer q W' qs
      unfolding related
      container_answer y i W' qs p h = (
        p,
        λ σ r t e. let z = part_term σ t e in
            h σ z.0 z.2 ∙ (ap (λ w. each term_of (over_part w z.0)) (sym i) ∙ ap (λ w. each term_of (related up w)) (sym z.1)),
      )

      at_container : (y : Option ComplexSort) → related_container up o ≡ y → (sort : Bool) → is_sort q ≡ sort → MadeFrom (Answer q) W (related_over y sort s W)
      unfolding MadeFrom term_of
      at_container none i sort j = (grows_refl W c, container_answer none i W [] (λ z o. none_of z [] o refl) (λ σ u e. refl))
      at_container (some p) i true j =
          let l : s < W.lengths.sorts = sort_part_below W c q s (container_head o) (s ∷ []) j x f (first []) in
          made_then (IsSort (container p (look (trees W.sorts W.lengths.sorts) s))) (Answer q) W c
          (intern_container p s W) only (container_grows W c p s l)
          (λ a W₁ g h. (
            grows_refl W₁ g.checked,
            container_answer (some p) i W₁ (a ∷ []) (one_placed W₁ a (sort_placed W₁ g.checked a h.0))
                (λ σ u e. ap (λ w. w ∷ []) (sort_term W₁ g.checked σ a h.0 ∙ (ap term_of h.1 ∙ ap
                (λ w. app (container_head p) (part w no_part)) (sym (sort_term W c σ s l) ∙ e)))),
          ))
      at_container (some p) i false j =
          made_then (HasShape (over (container_head p) (s ∷ []))) (Answer q) W c (push_node (record { kind = kind_op p; part = s; args = [] }) W) only
          (push_grows W c (record { kind = kind_op p; part = s; args = [] }) (over (container_head p) (s ∷ []))
          (container_row p s (parts_placed W c q s (container_head o) (s ∷ []) x f (first []))))
          (λ a W₁ g h. (
            grows_refl W₁ g.checked,
            container_answer (some p) i W₁ (a ∷ []) (one_placed W₁ a h.0)
                (λ σ u e. ap (λ w. w ∷ [])
                (term_by_shape W₁ g.checked σ a ∙ (ap (shape_val σ (term_in W₁ σ)) h.1
                ∙ ap (λ w. app (container_head p) (part w no_part)) (ap (substitute σ) (term_grown W c W₁ g s
                (parts_placed W c q s (container_head o) (s ∷ []) x f (first []))) ∙ e)))),
          ))

    at_function : (n : ℕ) (xs : List ℕ) (r : ℕ) → length xs ≡ n → n ≤ 16 → graph W q ≡ over (function_head n)
        (xs ++ (r ∷ [])) → (O : Makes (List ℕ)) → MadeFrom (Answer r) W O
        → MadeFrom (Answer q) W (O and-then (push_functions xs))
    unfolding related
    at_function n xs r len few f O ih =
        let y : AllPlaced W xs = λ z o. parts_placed W c q z (function_head n) (xs ++ (r ∷ [])) x f (one_front z xs (r ∷ []) o) in
        made_then (Answer r) (Answer q) W c O (push_functions xs) ih
        (λ rs W₁ g h. made_so (λ W' ps. Functions W' xs rs ps) (Answer q) W₁ (push_functions xs rs W₁)
        (functions_grow W₁ g.checked xs (omega (arith, len, few)) (λ z o. placed_grown W c W₁ g z (y z o)) rs h.0)
        (λ ps W₂ k a. (
          functions_placed W₂ xs rs ps a,
          λ σ R t e.
              let i = function_tree n (terms_at (term_in W σ) (xs ++ (r ∷ []))) t (sym (ap (shape_val σ (term_in W σ)) f) ∙ (sym (term_by_shape W c σ q) ∙ e)) in
              let l : arity i.0 ≡ length xs = i.3 ∙ sym len in
              let j = parts_split (term_in W σ) xs r i.0 (term_of i.1) l i.4 in
              functions_terms W W₁ W₂ c g k σ xs y i.0 l j.1 rs ps h.0 a (related up i.1)
              (h.1 σ R i.1 j.0) ∙ ap (λ u. each term_of (related up u)) (sym i.2),
        )))

  pub related_made : (k p : ℕ) → PlacedIn W p → MadeFrom (Answer p) W (related_to up B k p W)
  unfolding MadeFrom related_to
  related_made zero p x = grows_refl W c
  related_made (suc k) p x = ends (follow (graph W) deep B p) refl (related_made k)
    where
      shapes : (q : ℕ) → PlacedIn W q → (s : Shape) → graph W q ≡ s → ShapeFormed s → ((r : ℕ) → PlacedIn W r → MadeFrom (Answer r) W (related_to up B k r W))
          → MadeFrom (Answer q) W (related_shape up (related_to up B k) (is_sort q) s W)
      shapes q y _ f (variable_formed v) ih = grows_refl W c
      shapes q y _ f (flat_formed a) ih = (grows_refl W c, at_flat q y a f)
      shapes q y _ f (container_formed o s) ih = at_container q y o s f (related_container up o) refl (is_sort q) refl
      shapes q y _ f (function_formed n xs r len few) ih =
          rw (get_or_at xs r [] 0 n len, take_at xs (r ∷ []) n len)
          (at_function q y n xs r len few f (related_to up B k r W) (ih r (parts_placed W c q r (function_head n) (xs ++ (r ∷ [])) y f (one_last xs r))))

      ends : (o : Option ℕ) → follow (graph W) deep B p ≡ o → ((r : ℕ) → PlacedIn W r
          → MadeFrom (Answer r) W (related_to up B k r W)) → MadeFrom (Answer p) W (related_end up (related_to up B k) o
          W)
      ends none f ih = grows_refl W c
      ends (some q) f ih =
          let y = follow_names (graph W) B (PlacedIn W) b deep p q x f in
          made_so (Answer q) (Answer p) W (related_shape up (related_to up B k) (is_sort q) (graph W q) W) (shapes q y (graph W q) refl (placed_formed W c q y) ih)
          (λ qs W' g h. (h.0, λ σ r t e. h.1 σ r t (sym (term_at_end W c B σ r deep p q f) ∙ e)))

-- Whatever strict_related_sorts answers at a place of lists that are ready, with the six fixed sorts: the lists have grown; and the places that it
-- answers stand for the sorts strictly wider (narrower) than what the place stands for, nearest first.
module _ (W : Lent) (bs : List ℕ) (ready : ReadyLent W bs) (six : fixed_six W.sorts W.lengths.sorts ≡ true) (up : Bool) (p : ℕ) (x : PlacedIn W p) where
  pub strict_related_made : MadeFrom (StandForRelated up (binds_of bs W.lengths.variables) W p) W (strict_related up (binds_of bs W.lengths.variables) p W)
  unfolding strict_related
  strict_related_made = related_made W ready.nodes six up (binds_of bs W.lengths.variables) (ready_names W bs ready) deep p x

  pub strict_related_places : (qs : List ℕ) (W' : Lent) → strict_related up (binds_of bs W.lengths.variables) p W ≡ made qs W'
      → Grows W W' × AllPlaced W' qs
      × ((σ : ℕ → Term) → Respects (graph W) (binds_of bs W.lengths.variables) σ → (t : Tree) → substitute σ (term_at (graph W) p) ≡ term_of t
      → each (λ q. substitute σ (term_at (graph W') q)) qs ≡ each term_of (related up t))
  strict_related_places qs W' e =
      let h = made_grows (StandForRelated up (binds_of bs W.lengths.variables) W p) W W' qs
      (strict_related up (binds_of bs W.lengths.variables) p W) strict_related_made e in
      (h.0, h.1.0, h.1.1)
