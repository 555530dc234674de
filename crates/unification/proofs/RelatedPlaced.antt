-- Whatever strict_related_sorts answers at a place of checked lists with at least six sorts, the lists have grown and the places that it answers are
-- places; what they stand for is not looked at. By induction on the depth and the shape at the end of the place. Assumes nothing.
use mathlib.Core.Path.{◌≡◌, refl, sym, subst}
use mathlib.Core.Bool.{Bool, true, false}
use mathlib.Core.List.{List, [], ◌∷◌, ◌++◌}
use mathlib.Core.Option.{Option, none, some}
use Prim.Native.Nat.{ℕ, zero, suc, ◌<◌, ◌≤◌}
use native.Mathlib.Omega.{arith}
use lib.ListN.{length}
use lib.Seq.{get_or_at, take_at}
use Rattle.resolved_sort.specs.declared.Sort.{Sort}
use Rattle.resolved_sort.specs.declared.ComplexSort.{ComplexSort}
use Rattle.resolved_sort.specs.Tree.{Flat, unit, primitive, def, typevar, container}
use Rattle.resolved_sort.specs.Interning.{look}
use Rattle.resolved_sort.specs.Storage.{kind_flat, kind_op, trees}
use Rattle.unification.specs.Term.{container_head, function_head, Shape, over}
use Rattle.unification.specs.Nodes.{is_sort, Binds}
use Rattle.unification.specs.Unify.{follow, deep}
use Rattle.unification.specs.Acyclic.{first, later}
use Rattle.unification.specs.Related.{related_numbers, related_container, each}
use Rattle.unification.specs.Making.{Lent, graph, Makes, ◌and-then◌, push_node, intern_container, only, related_over}
use Rattle.unification.specs.Making.{push_functions, related_places, related_shape, related_end, related_to}
use Rattle.unification.specs.Making.{strict_related}
use Rattle.unification.proofs.Parts.{none_of, one_of_one, one_last, one_front}
use Rattle.unification.proofs.Rows.{ShapeFormed, variable_formed, flat_formed, container_formed, function_formed}
use Rattle.unification.proofs.Follow.{follow_names}
use Rattle.unification.specs.Growing.{Names, CheckedLent, PlacedIn}
use Rattle.unification.proofs.Grows.{parts_placed, grows_refl, placed_grown}
use Rattle.unification.proofs.NodesGrow.{container_row}
use Rattle.unification.proofs.MakingGrows.{MadeFrom, made_then, made_so, AllPlaced, HasShape, push_grows, IsSort}
use Rattle.unification.proofs.MakingGrows.{container_grows, Functions, no_function, one_function, functions_grow}
use Rattle.unification.proofs.PlaceTerms.{sort_placed, placed_formed, sort_part_below}

primitive_fixed : (s : Sort) → kind_flat (primitive s) < 6
unfolding kind_flat
primitive_fixed Sort.Bool = omega arith
primitive_fixed Sort.Pos = omega arith
primitive_fixed Sort.Nat = omega arith
primitive_fixed Sort.Int = omega arith
primitive_fixed Sort.Real = omega arith

one_placed : (W : Lent) (p : ℕ) → PlacedIn W p → AllPlaced W (p ∷ [])
one_placed W p x q o = subst (PlacedIn W) (sym (one_of_one q p (p ∷ []) o refl)) x

functions_placed : (W : Lent) (xs rs ps : List ℕ) → Functions W xs rs ps → AllPlaced W ps
functions_placed W xs _ _ no_function q o = none_of q [] o refl
functions_placed W xs _ _ (one_function r p rs ps x s f) _ (first _) = x
functions_placed W xs _ _ (one_function r p rs ps x s f) q (later _ _ o) = functions_placed W xs rs ps f q o

module _ (W : Lent) (c : CheckedLent W) (six : 6 ≤ W.lengths.sorts) (up : Bool) where
  numbers_placed : (rs : List Sort) → AllPlaced W (each (λ r. kind_flat (primitive r)) rs)
  numbers_placed [] q x' = elim x' [ ]
  numbers_placed (r ∷ rs) _ (first _) = sort_placed W c (kind_flat (primitive r)) (omega (arith, primitive_fixed r, six))
  numbers_placed (r ∷ rs) q (later _ _ o) = numbers_placed rs q o

  flat_placed : (a : Flat) → AllPlaced W (related_places up a)
  flat_placed unit q o = none_of q [] o refl
  flat_placed (primitive s) q o = numbers_placed (related_numbers up s) q o
  flat_placed (def n) q o = none_of q [] o refl
  flat_placed (typevar n) q o = none_of q [] o refl

  -- by the shape at the end
  module _ (q : ℕ) (x : PlacedIn W q) where
    at_container : (o : ComplexSort) (s : ℕ) → graph W q ≡ over (container_head o) (s ∷ [])
        → (y : Option ComplexSort) (sort : Bool) → is_sort q ≡ sort → MadeFrom AllPlaced W (related_over y sort s W)
    unfolding MadeFrom
    at_container o s f none sort j = (grows_refl W c, λ z i. none_of z [] i refl)
    at_container o s f (some p) true j =
        let l : s < W.lengths.sorts = sort_part_below W c q s (container_head o) (s ∷ []) j x f (first []) in
        made_then (IsSort (container p (look (trees W.sorts W.lengths.sorts) s))) AllPlaced W c (intern_container p s W) only (container_grows W c p s l)
        (λ a W₁ g h. (grows_refl W₁ g.checked, one_placed W₁ a (sort_placed W₁ g.checked a h.0)))
    at_container o s f (some p) false j =
        made_then (HasShape (over (container_head p) (s ∷ []))) AllPlaced W c (push_node (record { kind = kind_op p; part = s; args = [] }) W) only
        (push_grows W c (record { kind = kind_op p; part = s; args = [] }) (over (container_head p) (s ∷ []))
        (container_row p s (parts_placed W c q s (container_head o) (s ∷ []) x f (first []))))
        (λ a W₁ g h. (grows_refl W₁ g.checked, one_placed W₁ a h.0))

    at_function : (n : ℕ) (xs : List ℕ) (r : ℕ) → length xs ≡ n → n ≤ 16 → graph W q ≡ over (function_head n)
        (xs ++ (r ∷ [])) → (O : Makes (List ℕ)) → MadeFrom AllPlaced W O
        → MadeFrom AllPlaced W (O and-then (push_functions xs))
    at_function n xs r len few f O ih =
        made_then AllPlaced AllPlaced W c O (push_functions xs) ih
        (λ rs W₁ g h. made_so (λ W' ps. Functions W' xs rs ps) AllPlaced W₁ (push_functions xs rs W₁)
        (functions_grow W₁ g.checked xs (omega (arith, len, few))
        (λ z o. placed_grown W c W₁ g z (parts_placed W c q z (function_head n) (xs ++ (r ∷ [])) x f (one_front z xs (r ∷ []) o))) rs h)
        (λ ps W₂ k a. functions_placed W₂ xs rs ps a))

  module _ (B : Binds) (b : Names (PlacedIn W) B) where
    placed_to : (k p : ℕ) → PlacedIn W p → MadeFrom AllPlaced W (related_to up B k p W)
    unfolding MadeFrom related_to
    placed_to zero p x = grows_refl W c
    placed_to (suc k) p x = ends (follow (graph W) deep B p) refl (placed_to k)
      where
        shapes : (q : ℕ) → PlacedIn W q → (s : Shape) → graph W q ≡ s → ShapeFormed s → ((r : ℕ) → PlacedIn W r → MadeFrom AllPlaced W (related_to up B k r W))
            → MadeFrom AllPlaced W (related_shape up (related_to up B k) (is_sort q) s W)
        shapes q y _ f (variable_formed v) ih = grows_refl W c
        shapes q y _ f (flat_formed a) ih = (grows_refl W c, flat_placed a)
        shapes q y _ f (container_formed o s) ih = at_container q y o s f (related_container up o) (is_sort q) refl
        shapes q y _ f (function_formed n xs r len few) ih =
            rw (get_or_at xs r [] 0 n len, take_at xs (r ∷ []) n len)
            (at_function q y n xs r len few f (related_to up B k r W) (ih r (parts_placed W c q r (function_head n) (xs ++ (r ∷ [])) y f (one_last xs r))))

        ends : (o : Option ℕ) → follow (graph W) deep B p ≡ o → ((r : ℕ) → PlacedIn W r
            → MadeFrom AllPlaced W (related_to up B k r W)) → MadeFrom AllPlaced W (related_end up (related_to up B k) o
            W)
        ends none f ih = grows_refl W c
        ends (some q) f ih = let y = follow_names (graph W) B (PlacedIn W) b deep p q x f in shapes q y (graph W q) refl (placed_formed W c q y) ih

    pub related_placed : (p : ℕ) → PlacedIn W p → MadeFrom AllPlaced W (strict_related up B p W)
    unfolding strict_related
    related_placed p x = placed_to deep p x
