-- The wider and narrower lists against the language reference, and what the places listed stand for. The wider list of a sort that converts begins
-- with what it converts to and goes on with that sort's own list, and a sort that is no function and does not convert has none; so the i-th is as many
-- conversions away as the list was gone down, i + 1. Downward the same, by the sort that converts to it. Assumes nothing.
use mathlib.Core.Path.{◌≡◌, refl, sym, subst}
use mathlib.Core.Bool.{Bool, true, false, false≢true}
use mathlib.Core.List.{List, [], ◌∷◌}
use mathlib.Core.Logic.{◌↔◌, ◌≢◌, ◌⊎◌, inl, inr}
use Prim.Native.Nat.{ℕ, zero, suc}
use native.Mathlib.Omega.{arith}
use Rattle.resolved_sort.specs.declared.Sort.{Sort}
use Rattle.resolved_sort.specs.declared.ComplexSort.{ComplexSort}
use Rattle.resolved_sort.specs.Tree.{unit, primitive, def, typevar, Tree, flat, container, function, Trees}
use Rattle.resolved_sort.specs.Checks.{fixed_six}
use Rattle.resolved_sort.specs.Reference.{Converts, pos_to_nat, nat_to_int, int_to_real, fset_to_set, fbag_to_bag, Widens, stays, then}
use Rattle.resolved_sort.specs.Order.{is_function}
use Rattle.unification.specs.Term.{Term, term_of, substitute}
use Rattle.unification.specs.Nodes.{binds_of}
use Rattle.unification.specs.Solutions.{term_at, Respects}
use Rattle.unification.specs.Related.{related_numbers, related_container, each, related, Member, first, later}
use Rattle.unification.specs.Making.{Lent, graph, made, strict_related}
use Rattle.unification.specs.Growing.{ReadyLent, PlacedIn}
use Rattle.unification.specs.Reference.{reaches, Distant, Conversions, no_more, and_then, ListsRelated}
use Rattle.unification.proofs.Wider.{member_each, each_member, nearest_first, related_exactly}
use Rattle.unification.proofs.RelatedPlaces.{strict_related_places}

pub widens_counted : (s t : Tree) → Widens s t ↔ ((k : ℕ) × Conversions k s t)
widens_counted s t = (count, λ x. forget x.1)
  where
    count : {s t : Tree} → Widens s t → (k : ℕ) × Conversions k s t
    count stays = (zero, no_more)
    count (then w c) = let x = count w in (suc x.0, and_then x.1 c)

    forget : {k : ℕ} {s t : Tree} → Conversions k s t → Widens s t
    forget no_more = stays
    forget (and_then x c) = then (forget x) c

before : {k : ℕ} {s t u : Tree} → Converts s t → Conversions k t u → Conversions (suc k) s u
before c no_more = and_then no_more c
before c (and_then x d) = and_then (before c x) d

first_conversion : (k : ℕ) {s u : Tree} → Conversions (suc k) s u → (t : Tree) × Converts s t × Conversions k t u
first_conversion zero (and_then no_more c) = (_, c, no_more)
first_conversion (suc k) (and_then x c) = let y = first_conversion k x in (y.0, y.1, and_then y.2 c)

-- a sort's list begins with the next sort, and goes on with that sort's list
wider_of : {t u : Tree} → Converts t u → related true t ≡ u ∷ related true u
unfolding related related_numbers related_container
wider_of pos_to_nat = refl
wider_of nat_to_int = refl
wider_of int_to_real = refl
wider_of (fset_to_set s) = refl
wider_of (fbag_to_bag s) = refl

narrower_of : {t u : Tree} → Converts t u → related false u ≡ t ∷ related false t
unfolding related related_numbers related_container
narrower_of pos_to_nat = refl
narrower_of nat_to_int = refl
narrower_of int_to_real = refl
narrower_of (fset_to_set s) = refl
narrower_of (fbag_to_bag s) = refl

converts_flat : {t u : Tree} → Converts t u → (is_function t ≡ false) × (is_function u ≡ false)
converts_flat pos_to_nat = (refl, refl)
converts_flat nat_to_int = (refl, refl)
converts_flat int_to_real = (refl, refl)
converts_flat (fset_to_set s) = (refl, refl)
converts_flat (fbag_to_bag s) = (refl, refl)

-- or there is none
widest : (t : Tree) → is_function t ≡ false → (related true t ≡ []) ⊎ ((u : Tree) × Converts t u)
unfolding related related_numbers related_container
widest (flat unit) f = inl refl
widest (flat (primitive Sort.Bool)) f = inl refl
widest (flat (primitive Sort.Pos)) f = inr (_, pos_to_nat)
widest (flat (primitive Sort.Nat)) f = inr (_, nat_to_int)
widest (flat (primitive Sort.Int)) f = inr (_, int_to_real)
widest (flat (primitive Sort.Real)) f = inl refl
widest (flat (def n)) f = inl refl
widest (flat (typevar n)) f = inl refl
widest (container ComplexSort.List s) f = inl refl
widest (container ComplexSort.Set s) f = inl refl
widest (container ComplexSort.FSet s) f = inr (_, fset_to_set s)
widest (container ComplexSort.Bag s) f = inl refl
widest (container ComplexSort.FBag s) f = inr (_, fbag_to_bag s)
widest (function ss r) f = absurd (false≢true (sym f))

narrowest : (t : Tree) → is_function t ≡ false → (related false t ≡ []) ⊎ ((u : Tree) × Converts u t)
unfolding related related_numbers related_container
narrowest (flat unit) f = inl refl
narrowest (flat (primitive Sort.Bool)) f = inl refl
narrowest (flat (primitive Sort.Pos)) f = inl refl
narrowest (flat (primitive Sort.Nat)) f = inr (_, pos_to_nat)
narrowest (flat (primitive Sort.Int)) f = inr (_, nat_to_int)
narrowest (flat (primitive Sort.Real)) f = inr (_, int_to_real)
narrowest (flat (def n)) f = inl refl
narrowest (flat (typevar n)) f = inl refl
narrowest (container ComplexSort.List s) f = inl refl
narrowest (container ComplexSort.Set s) f = inr (_, fset_to_set s)
narrowest (container ComplexSort.FSet s) f = inl refl
narrowest (container ComplexSort.Bag s) f = inr (_, fbag_to_bag s)
narrowest (container ComplexSort.FBag s) f = inl refl
narrowest (function ss r) f = absurd (false≢true (sym f))

not_in_none : {A : Type 0} (u : Tree) (i : ℕ) (xs : List Tree) → xs ≡ [] → Member u i xs → A
not_in_none {A = A} u i [] e x'' = elim x'' [ ]
not_in_none u _ (x ∷ xs) e first = absurd (let z : ◌≡◌ {A = ℕ} 0 1 = cc in omega arith)
not_in_none u _ (x ∷ xs) e (later h) = absurd (let z : ◌≡◌ {A = ℕ} 0 1 = cc in omega arith)

-- what stands first in a list, and what stands later
at_first : {u x : Tree} {xs : List Tree} → Member u zero (x ∷ xs) → u ≡ x
at_first first = refl

at_later : {u x : Tree} {i : ℕ} {xs : List Tree} → Member u (suc i) (x ∷ xs) → Member u i xs
at_later (later h) = h

-- upward
module _ (u : Tree) where
  wider_converts : (i : ℕ) (t : Tree) → is_function t ≡ false → Member u i (related true t) → Conversions (suc i) t u
  wider_converts zero t f h = go (widest t f)
    where
      go : (related true t ≡ []) ⊎ ((w : Tree) × Converts t w) → Conversions 1 t u
      go (inl e) = not_in_none u zero (related true t) e h
      go (inr x) = rw (at_first (rw (wider_of x.1) at h)) (and_then no_more x.1)
  wider_converts (suc i) t f h = go (widest t f) (wider_converts i)
    where
      go : (related true t ≡ []) ⊎ ((w : Tree) × Converts t w) → ((w : Tree) → is_function w ≡ false
          → Member u i (related true w) → Conversions (suc i) w u) → Conversions (suc (suc i)) t u
      go (inl e) ih = not_in_none u (suc i) (related true t) e h
      go (inr x) ih = before x.1 (ih x.0 (converts_flat x.1).1 (at_later (rw (wider_of x.1) at h)))

  converts_wider : (i : ℕ) (t : Tree) → Conversions (suc i) t u → Member u i (related true t)
  converts_wider zero t (and_then no_more c) = rw (wider_of c) first
  converts_wider (suc i) t x = let y = first_conversion (suc i) x in rw (wider_of y.1) (later (converts_wider i y.0 y.2))

  -- downward
  narrower_converts : (i : ℕ) (t : Tree) → is_function t ≡ false → Member u i (related false t) → Conversions (suc i) u t
  narrower_converts zero t f h = go (narrowest t f)
    where
      go : (related false t ≡ []) ⊎ ((w : Tree) × Converts w t) → Conversions 1 u t
      go (inl e) = not_in_none u zero (related false t) e h
      go (inr x) = rw (at_first (rw (narrower_of x.1) at h)) (and_then no_more x.1)
  narrower_converts (suc i) t f h = go (narrowest t f) (narrower_converts i)
    where
      go : (related false t ≡ []) ⊎ ((w : Tree) × Converts w t) → ((w : Tree) → is_function w ≡ false
          → Member u i (related false w) → Conversions (suc i) u w) → Conversions (suc (suc i)) u t
      go (inl e) ih = not_in_none u (suc i) (related false t) e h
      go (inr x) ih = and_then (ih x.0 (converts_flat x.1).0 (at_later (rw (narrower_of x.1) at h))) x.1

  converts_narrower : (i : ℕ) (t : Tree) → Conversions (suc i) u t → Member u i (related false t)
  converts_narrower zero t (and_then no_more c) = rw (narrower_of c) first
  converts_narrower (suc i) t (and_then {t = w} x c) = rw (narrower_of c) (later (converts_narrower i w x))

-- The lists of a sort that is no function: the i-th wider one is i + 1 conversions of the reference away, and the i-th narrower one converts to the
-- sort by i + 1; nothing else is listed. A function's lists are those of its range, over the same arguments.
pub wider_by_conversions : (t u : Tree) (i : ℕ) → is_function t ≡ false → Member u i (related true t) ↔ Conversions (suc i) t u
wider_by_conversions t u i f = (wider_converts u i t f, converts_wider u i t)

pub narrower_by_conversions : (t u : Tree) (i : ℕ) → is_function t ≡ false → Member u i (related false t) ↔ Conversions (suc i) u t
narrower_by_conversions t u i f = (narrower_converts u i t f, converts_narrower u i t)

pub function_by_range : (up : Bool) (ss : Trees) (r u : Tree) (i : ℕ) → Member u i (related up (function ss r)) ↔
    ((w : Tree) × (u ≡ function ss w) × Member w i (related up r))
unfolding related
function_by_range up ss r u i = (λ h. each_member (function ss) u i (related up r) h, λ x. rw x.1 (member_each (function ss) x.2))

lists_related : (up : Bool) (stands : ℕ → Term) (t : Tree) (qs : List ℕ) → each stands qs ≡ each term_of (related up t) → ListsRelated up stands t qs
lists_related up stands t qs e = record { sound = sound; complete = complete }
  where
    sound : (q i : ℕ) → Member q i qs → (u : Tree) × (stands q ≡ term_of u) × (reaches up t u ≡ true) × (t ≢ u) × Distant up t u (suc i)
    sound q i h =
        let x = each_member term_of (stands q) i (related up t) (subst (Member (stands q) i) e (member_each stands h)) in
        let y = (nearest_first up t x.0 i).0 x.2 in
        (x.0, x.1, y.0, ((related_exactly up t x.0).0 (i, x.2)).1, y.1)

    complete : (u : Tree) → reaches up t u ≡ true → t ≢ u → (i : ℕ) × (q : ℕ) × Member q i qs × (stands q ≡ term_of u) × Distant up t u (suc i)
    complete u r d =
        let x = (related_exactly up t u).1 (r, d) in
        let y = each_member stands (term_of u) x.0 qs (subst (Member (term_of u) x.0) (sym e) (member_each term_of x.1)) in
        (x.0, y.0, y.2, sym y.1, ((nearest_first up t u x.0).0 x.1).1)

pub strict_related_exactly : (W : Lent) (bs : List ℕ) → ReadyLent W bs → fixed_six W.sorts W.lengths.sorts ≡
    true → (up : Bool) (p : ℕ) → PlacedIn W p → (qs : List ℕ) (W' : Lent)
    → strict_related up (binds_of bs W.lengths.variables) p W ≡ made qs W' → (σ : ℕ → Term) → Respects (graph W) (binds_of bs W.lengths.variables) σ
    → (t : Tree) → substitute σ (term_at (graph W) p) ≡ term_of t → ListsRelated up (λ q. substitute σ (term_at (graph W') q)) t qs
strict_related_exactly W bs ready six up p x qs W' e σ r t s =
    lists_related up (λ q. substitute σ (term_at (graph W') q)) t qs ((strict_related_places W bs ready six up p x qs W' e).2 σ r t s)
