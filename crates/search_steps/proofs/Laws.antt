-- The definitions of the steps, as the code meets them. Assumes nothing.
use mathlib.Core.Path.{◌≡◌, refl, ap, sym, ◌∙◌, subst}
use mathlib.Core.Bool.{Bool, true, false}
use mathlib.Core.List.{List, [], ◌∷◌}
use Prim.Native.Nat.{ℕ, zero, suc, ◌+◌, ◌≤◌}
use native.Mathlib.Omega.{arith}
use lib.ListN.{get_or, length, take}
use Rattle.resolved_sort.specs.declared.ComplexSort.{ComplexSort}
use Rattle.resolved_sort.specs.declared.SortId.{SortId}
use Rattle.resolved_sort.specs.declared.Counts.{Counts}
use Rattle.resolved_sort.specs.Tree.{container}
use Rattle.resolved_sort.specs.Interning.{look}
use Rattle.resolved_sort.specs.Storage.{trees}
use Rattle.resolved_sort.specs.Entries.{Stored}
use Rattle.resolved_sort.specs.Rows.{Checked, interned_at}
use Rattle.resolved_sort.specs.Bounds.{intern_at}
use Rattle.unification.specs.declared.InferSortId.{InferSortId}
use Rattle.unification.specs.declared.Lengths.{Lengths}
use Rattle.unification.specs.declared.Full.{Full}
use Rattle.unification.specs.declared.Full.TheVariants.{Sorts, Nodes}
use Rattle.std.specs.Prelude.{Option, Some, None, Result, Ok, Err, IsErr, IsErrAnd}
use Rattle.resolved_sort.specs.declared.NoRoom.{NoRoom}
use Rattle.unification.specs.Nodes.{Binds, binds_of}
use Rattle.unification.specs.Checked.{Ready, Placed}
use Rattle.unification.specs.Making.{Lent, Makes, made, no_room, ◌and-then◌, with_sorts, intern_container, strict_related}
use Rattle.unification.specs.Inner.Making.{lent}
use Rattle.unification.specs.Resolve.{with_counts}
use Rattle.unification.proofs.NoList.{no_list_makes_nothing}
use Rattle.related_sorts.specs.declared.listing.Listed.{Listed}
use Rattle.related_sorts.specs.Listed.{places}
use Rattle.related_sorts.specs.Inner.Outcome.{listed, no_room_in}
use Rattle.related_sorts.proofs.Numbers.{three_numbers}
use Rattle.related_sorts.specs.Inner.Ranges.{SixThere}
use Rattle.related_sorts.proofs.Laws.{full_unchanged}
use Rattle.inference.specs.Constraints.{rows_from}
use Rattle.inference.specs.Search.{Try, wider_tries, narrower_tries}
use Rattle.search_state.specs.declared.Pairs.TheVariants.{One}
use Rattle.search_state.specs.declared.Tries.{Tries}
use Rattle.search_state.specs.Inner.Leaves.{place_at, try_at, tries_from}
use Rattle.search_state.specs.Inner.Leaves.{where_no_list, widenings, code_of, FindsWidenings}
use Rattle.search_steps.specs.Inner.Steps.{pairs_of, InternsContainer, tries_against, ListedTries}

-- the j-th try
module _ (t : Tries) (j : ℕ) where
  pub place_on_left : t.up ≡ true → (p : InferSortId) → p.0 ≡ place_at t j → One p t.other ≡ pairs_of (try_at t j)
  unfolding try_at
  place_on_left e p f = ap (λ (q : ℕ). One (record { 0 = q }) t.other) f ∙ rw e

  pub place_on_right : t.up ≡ false → (p : InferSortId) → p.0 ≡ place_at t j → One t.other p ≡ pairs_of (try_at t j)
  unfolding try_at
  place_on_right e p f = ap (λ (q : ℕ). One t.other (record { 0 = q })) f ∙ rw e

  pub component_of_try : t.first + j ≡ (try_at t j).component
  unfolding try_at
  component_of_try = go t.up refl
    where
      go : (b : Bool) → t.up ≡ b → t.first + j ≡ (try_at t j).component
      go true e = rw e
      go false e = rw e

-- a container that is interned, with counts K then
module _ (o : ComplexSort) (s : ℕ) (ws : List ℕ) (k : Lengths) (c : Counts) (ec : c ≡ record { sorts = k.sorts; entries = k.entries }) where
  module _ (ws₁ : List ℕ) (K : Counts) (r : Result SortId NoRoom)
      (er : interned_at ws₁ K r ≡ intern_at ws c.sorts c.entries (container o (look (trees ws c.sorts) s))) where
    interned : interned_at ws₁ K r ≡ intern_at ws k.sorts k.entries (container o (look (trees ws k.sorts) s))
    interned = er ∙ ap (λ (y : Counts). intern_at ws y.sorts y.entries (container o (look (trees ws y.sorts) s))) ec

    by : (x : Result SortId NoRoom) → r ≡ x → (ns : List ℕ)
        → with_sorts (lent ws ns k) (interned_at ws₁ K x) (interned_at ws₁ K x).answer ≡ intern_container o s (lent ws ns k)
    unfolding intern_container
    by x e ns = ap (λ (y : Stored). with_sorts (lent ws ns k) y y.answer) (ap (interned_at ws₁ K) (sym e) ∙ interned)

    pub container_found : (id : SortId) → r ≡ Ok id → (k' : Lengths) → k' ≡ with_counts k K → InternsContainer o s ws k ws₁ k' (Ok id)
    unfolding InternsContainer
    container_found id x k' e ns = ap (λ (l : Lengths). made id.0 (lent ws₁ ns l)) e ∙ by (Ok id) x ns

    pub no_room_for_container : Checked ws k.sorts k.entries → (x : NoRoom) → r ≡ Err x → (y : NoRoom) → InternsContainer o s ws k ws₁ k (Err y)
    unfolding InternsContainer
    no_room_for_container ck x e y ns =
        ap (λ (ys : List ℕ). no_room 15 (lent ys ns k)) (full_unchanged ws k.sorts k.entries ck
        (container o (look (trees ws k.sorts) s)) ws₁ (ap (interned_at ws₁ K) (sym e) ∙ interned))
        ∙ by (Err x) e ns

-- the words that the interner held are the search's
pub container_moved : (us vs : List ℕ) → vs ≡ us → (o : ComplexSort) (s : ℕ) (ws : List ℕ) (k k' : Lengths) (r : Result SortId NoRoom)
    → InternsContainer o s ws k us k' r → InternsContainer o s ws k vs k' r
container_moved us vs e o s ws k k' r = subst (λ (xs : List ℕ). InternsContainer o s ws k xs k' r) (sym e)

-- an error that is passed on, whatever it says
pub any_error : {A E : Type 0} (r : Result A E) (P : E → Type 0) → IsErr r × IsErrAnd r P → (Q : Result A E → Type 0) → ((x : E) → Q (Err x)) → Q r
any_error (Ok a) P h Q q = absurd h.1
any_error (Err x) P h Q q = q x

-- four places of these numbers
abbrev pub four_of : ℕ → ℕ → ℕ → ℕ → List InferSortId
four_of a b c d = record { 0 = a } ∷ record { 0 = b } ∷ record { 0 = c } ∷ record { 0 = d } ∷ []

-- the tries of a list of three places at most, one direction as the other
abbrev tries_over : ℕ → ℕ → ℕ → ℕ → InferSortId → Bool → Tries
tries_over a b c n o up = record { ids = four_of a b c 0; count = n; other = o; up = up; first = 1 }

tries_against_lem : (up : Bool) (o : InferSortId) (a b c n : ℕ) → n ≤ 3 → tries_from (tries_over a b c n o up) 0 ≡ tries_against up o.0 1 (take n (a ∷ b ∷ c ∷ []))
unfolding rows_from try_at
tries_against_lem true o a b c zero l = refl
tries_against_lem true o a b c (suc zero) l = refl
tries_against_lem true o a b c (suc (suc zero)) l = refl
tries_against_lem true o a b c (suc (suc (suc zero))) l = refl
tries_against_lem false o a b c zero l = refl
tries_against_lem false o a b c (suc zero) l = refl
tries_against_lem false o a b c (suc (suc zero)) l = refl
tries_against_lem false o a b c (suc (suc (suc zero))) l = refl
tries_against_lem up o a b c (suc (suc (suc (suc n)))) l = absurd (omega (arith, l))

abbrev pub nth : List InferSortId → ℕ → ℕ
nth ps i = (get_or ps i (record { 0 = 0 })).0

pub tries_listed : (up : Bool) (o : InferSortId) (l : Listed) → length l.ids ≡ 3 → l.count ≤ 3
    → ListedTries up o.0 (places l) (tries_over (nth l.ids 0) (nth l.ids 1) (nth l.ids 2) l.count o up)
tries_listed up o l e n =
    record {
      says = tries_against_lem up o (nth l.ids 0) (nth l.ids 1) (nth l.ids 2) l.count n
          ∙ ap (tries_against up o.0 1) (three_numbers l.ids e l.count);
      few = omega (arith, n);
      first = refl;
    }

-- the room that ended, by its number
same_code : (f : Full) → code_of f ≡ no_room_in f
same_code Sorts = refl
same_code Nodes = refl

-- The tries of a widening: what the left side lists, as tries; where it has no list nothing was made, and the right side is asked.
module _ (ws ns bs : List ℕ) (k : Lengths) (q : Ready ws ns bs k) (l r : ℕ) (ws₁ ns₁ : List ℕ) (k₁ : Lengths)
    (a : Result (Option Listed) Full)
    (h : listed a (lent ws₁ ns₁ k₁) ≡ strict_related true (binds_of bs k.variables) l (lent ws ns k)) where
  abbrev W : Lent
  W = lent ws ns k

  abbrev X : Lent
  X = lent ws₁ ns₁ k₁

  abbrev B : Binds
  B = binds_of bs k.variables

  abbrev as_wider : Makes (List ℕ) → Makes (List Try)
  as_wider O = O and-then (λ ps U. made (wider_tries r 1 ps) U)

  abbrev as_narrower : Makes (List ℕ) → Makes (List Try)
  as_narrower O = O and-then (λ ps U. made (narrower_tries l 1 ps) U)

  abbrev of_right : Lent → Makes (List Try)
  of_right U = as_narrower (strict_related false B r U)

  from_left : (y : Result (Option Listed) Full) → a ≡ y → where_no_list (as_wider (listed y X)) of_right ≡ widenings B l r W
  unfolding widenings
  from_left y e = ap (λ O. where_no_list (as_wider O) of_right) (ap (λ (z : Result (Option Listed) Full). listed z X) (sym e) ∙ h)

  pub wider_tried : (p : Listed) → a ≡ Ok (Some p) → (t : Tries) → ListedTries true r (places p) t
      → FindsWidenings ws₁ ns₁ k₁ (Ok (Some t)) (widenings B l r W)
  wider_tried p e t i = record { says = ap (λ ts. made ts X) i.says ∙ from_left (Ok (Some p)) e; few = (i.few, i.first) }

  pub wider_no_room : (f : Full) → a ≡ Err f → FindsWidenings ws₁ ns₁ k₁ (Err f) (widenings B l r W)
  wider_no_room f e = record { says = ap (λ (c : ℕ). no_room c X) (same_code f) ∙ from_left (Err f) e; few = tt }

  module _ (e : a ≡ Ok None) where
    nothing_made : X ≡ W
    nothing_made =
        no_list_makes_nothing W bs q true l X (sym (ap (λ (z : Result (Option Listed) Full). listed z X) (sym e) ∙ h))

    pub right_asked : Placed k r → SixThere k → Ready ws₁ ns₁ bs k₁ × Placed k₁ r × SixThere k₁
    right_asked i six = (
      subst (λ (U : Lent). Ready U.sorts U.nodes bs U.lengths) (sym nothing_made) q,
      subst (λ (U : Lent). Placed U.lengths r) (sym nothing_made) i,
      subst (λ (U : Lent). SixThere U.lengths) (sym nothing_made) six,
    )

    module _ (ws₂ ns₂ : List ℕ) (k₂ : Lengths) (b : Result (Option Listed) Full)
        (h₂ : listed b (lent ws₂ ns₂ k₂) ≡ strict_related false (binds_of bs k₁.variables) r X) where
      abbrev Y : Lent
      Y = lent ws₂ ns₂ k₂

      from_right : (y : Result (Option Listed) Full) → b ≡ y → as_narrower (listed y Y) ≡ widenings B l r W
      from_right y d =
          ap as_narrower (ap (λ (z : Result (Option Listed) Full). listed z Y) (sym d) ∙ h₂)
          ∙ (ap (λ (n : ℕ). as_narrower (strict_related false (binds_of bs n) r X)) (ap (λ (U : Lent). U.lengths.variables) nothing_made)
          ∙ from_left (Ok None) e)

      pub narrower_tried : (p : Listed) → b ≡ Ok (Some p) → (t : Tries) → ListedTries false l (places p) t
          → FindsWidenings ws₂ ns₂ k₂ (Ok (Some t)) (widenings B l r W)
      narrower_tried p d t i = record { says = ap (λ ts. made ts Y) i.says ∙ from_right (Ok (Some p)) d; few = (i.few, i.first) }

      pub none_narrower : b ≡ Ok None → FindsWidenings ws₂ ns₂ k₂ (Ok None) (widenings B l r W)
      none_narrower d = record { says = from_right (Ok None) d; few = tt }

      pub narrower_no_room : (f : Full) → b ≡ Err f → FindsWidenings ws₂ ns₂ k₂ (Err f) (widenings B l r W)
      narrower_no_room f d = record { says = ap (λ (c : ℕ). no_room c Y) (same_code f) ∙ from_right (Err f) d; few = tt }
