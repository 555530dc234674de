-- The sorts listed as strictly wider (or narrower) than a sort are exactly those that are materializable in that direction, nearest first. Steps in a
-- direction are a relation with a rule for each kind of sort. Of the list of a head three tables are read: its i-th sort is i + 1 steps away; downward
-- it is as long as the level; and where a sort is the i-th narrower one of another, that is the i-th wider one of it. As family and level determine a
-- head, whatever is i + 1 steps away is the i-th. Assumes nothing.
use mathlib.Core.Path.{◌≡◌, refl, ap, sym, ◌∙◌, subst}
use mathlib.Core.Bool.{Bool, true, false, not}
use mathlib.Core.List.{List, [], ◌∷◌}
use mathlib.Core.Option.{some, Option, none}
use mathlib.Core.Logic.{◌↔◌, ◌≢◌}
use Prim.Native.Nat.{ℕ, zero, suc, ◌+◌, ◌-◌, ◌<◌, ◌≤◌, min}
use native.Mathlib.Omega.{arith}
use lib.ListN.{length}
use Rattle.resolved_sort.specs.declared.Sort.{Sort}
use Rattle.resolved_sort.specs.declared.ComplexSort.{ComplexSort}
use Rattle.resolved_sort.specs.Tree.{Flat, unit, primitive, def, typevar, Tree, flat, container, function, Trees, family, level, family_op, level_op}
use Rattle.resolved_sort.specs.Order.{le_flat, le_op, Steps, apart, map₁, most_steps}
use Rattle.resolved_sort.specs.Exact.{total, exact, exacts, stopped}
use Rattle.resolved_sort.proofs.Heads.{le_head, Reaches, head_exactly, head_flips, flat_injective, op_injective}
use Rattle.resolved_sort.proofs.Materializable.{Materializes, number, operator, range, materializable_exactly}
use Rattle.resolved_sort.proofs.Distance.{distance_of_equal, distances_of_equal, distance_stops_once, distances_stop_once}
use Rattle.resolved_sort.proofs.Reached.{no_confusion}
use Rattle.unification.specs.Related.{related_numbers, related_container, each, related, Member, first, later}
use Rattle.unification.specs.Reference.{reaches, Distant}

member_below : {A : Type 0} (xs : List A) (i : ℕ) → i < length xs → (x : A) × Member x i xs
member_below [] i l = absurd (omega (arith, l))
member_below (x ∷ xs) zero l = (x, first)
member_below (x ∷ xs) (suc i) l = let r = member_below xs i (omega (arith, l)) in (r.0, later r.1)

pub member_each : {A B : Type 0} (f : A → B) {x : A} {i : ℕ} {xs : List A} → Member x i xs → Member (f x) i (each f xs)
member_each f first = first
member_each f (later h) = later (member_each f h)

pub each_member : {A B : Type 0} (f : A → B) (u : B) (i : ℕ) (xs : List A) → Member u i (each f xs) → (x : A) × (u ≡ f x) × Member x i xs
each_member {A = A} {B = B} f u i [] x' = elim x' [ ]
each_member f u i (x ∷ xs) first = (x, refl, first)
each_member f u i (x ∷ xs) (later h) = let r = each_member f u _ xs h in (r.0, r.1, later r.2)

-- u is k steps from t in the direction
data Away (up : Bool) : Tree → Tree → ℕ → Type 0 where
  flats : (a b : Flat) (k : ℕ) → le_flat up a b ≡ true → apart up (level a) (level b) ≡ k → Away up (flat a) (flat b) k
  containers : (o p : ComplexSort) (s : Tree) (k : ℕ) → le_op up o p ≡ true → apart up (level_op o) (level_op p) ≡ k → Away up (container o s) (container p s) k
  functions : (ss : Trees) (r u : Tree) (k : ℕ) → Away up r u k → Away up (function ss r) (function ss u) k

-- Heads, once for flat sorts and for operators: put makes the sort of a head.
module _ {A : Type 0} (family level : A → ℕ) (injective : (a b : A) → family a ≡ family b → level a ≡ level b → a ≡ b) (put : A → Tree) where
  -- what is read off the tables of Related
  record Tables : Type 0 where
    fits : (up : Bool) (a : A) (u : Tree) (i : ℕ) → Member u i (related up (put a))
        → (b : A) × (u ≡ put b) × (le_head family level up a b ≡ true) × (apart up (level a) (level b) ≡ suc i)
    enough : (b : A) → level b ≤ length (related false (put b))
    turned : (a b : A) (i : ℕ) → Member (put a) i (related false (put b)) → Member (put b) i (related true (put a))

  module _ (T : Tables) where
    narrower : (a b : A) (i : ℕ) → le_head family level false b a ≡ true → apart false (level b) (level a) ≡ suc i → Member (put a) i (related false (put b))
    narrower a b i h e =
        let r = member_below (related false (put b)) i (omega (arith, T.enough b, e)) in
        let f = T.fits false b r.0 i r.1 in
        let x = (head_exactly family level false b a).0 h in
        let y = (head_exactly family level false b f.0).0 f.2 in
        let z : f.0 ≡ a = injective f.0 a (sym y.0 ∙ x.0) (omega (arith, x.1, y.1, e, f.3)) in
        subst (λ u. Member u i (related false (put b))) (f.1 ∙ ap put z) r.1

    wider : (up : Bool) (a b : A) (i : ℕ) → le_head family level up a b ≡ true → apart up (level a) (level b) ≡ suc i → Member (put b) i (related up (put a))
    wider true a b i h e = T.turned a b i (narrower a b i (sym (head_flips family level true a b) ∙ h) e)
    wider false a b i h e = narrower b a i h e

flat_tables : Tables family level flat_injective flat
unfolding related related_numbers family level
flat_tables = record { fits = fits; enough = enough; turned = turned }
  where
    fits : (up : Bool) (a : Flat) (u : Tree) (i : ℕ) → Member u i (related up (flat a))
        → (b : Flat) × (u ≡ flat b) × (le_flat up a b ≡ true) × (apart up (level a) (level b) ≡ suc i)
    fits false unit u i x'' = elim x'' [ ]
    fits false (primitive Sort.Bool) u i x5 = elim x5 [ ]
    fits false (primitive Sort.Pos) u i x6 = elim x6 [ ]
    fits false (primitive Sort.Nat) u _ (later {i = i} x15) = elim x15 [ ]
    fits false (primitive Sort.Int) u _ (later (later {i = i} x24)) = elim x24 [ ]
    fits false (primitive Sort.Real) u _ (later (later (later {i = i} x33))) = elim x33 [ ]
    fits false (def _) u i x5 = elim x5 [ ]
    fits false (typevar _) u i x6 = elim x6 [ ]
    fits true unit u i x3 = elim x3 [ ]
    fits true (primitive Sort.Bool) u i x6 = elim x6 [ ]
    fits true (primitive Sort.Pos) u _ (later (later (later {i = i} x31))) = elim x31 [ ]
    fits true (primitive Sort.Nat) u _ (later (later {i = i} x24)) = elim x24 [ ]
    fits true (primitive Sort.Int) u _ (later {i = i} x17) = elim x17 [ ]
    fits true (primitive Sort.Real) u i x10 = elim x10 [ ]
    fits true (def _) u i x6 = elim x6 [ ]
    fits true (typevar _) u i x7 = elim x7 [ ]
    fits true (primitive Sort.Pos) _ _ first = (primitive Sort.Nat, refl, refl, refl)
    fits true (primitive Sort.Pos) _ _ (later first) = (primitive Sort.Int, refl, refl, refl)
    fits true (primitive Sort.Pos) _ _ (later (later first)) = (primitive Sort.Real, refl, refl, refl)
    fits true (primitive Sort.Nat) _ _ first = (primitive Sort.Int, refl, refl, refl)
    fits true (primitive Sort.Nat) _ _ (later first) = (primitive Sort.Real, refl, refl, refl)
    fits true (primitive Sort.Int) _ _ first = (primitive Sort.Real, refl, refl, refl)
    fits false (primitive Sort.Nat) _ _ first = (primitive Sort.Pos, refl, refl, refl)
    fits false (primitive Sort.Int) _ _ first = (primitive Sort.Nat, refl, refl, refl)
    fits false (primitive Sort.Int) _ _ (later first) = (primitive Sort.Pos, refl, refl, refl)
    fits false (primitive Sort.Real) _ _ first = (primitive Sort.Int, refl, refl, refl)
    fits false (primitive Sort.Real) _ _ (later first) = (primitive Sort.Nat, refl, refl, refl)
    fits false (primitive Sort.Real) _ _ (later (later first)) = (primitive Sort.Pos, refl, refl, refl)

    enough : (b : Flat) → level b ≤ length (related false (flat b))
    enough unit = omega arith
    enough (primitive Sort.Bool) = omega arith
    enough (primitive Sort.Pos) = omega arith
    enough (primitive Sort.Nat) = omega arith
    enough (primitive Sort.Int) = omega arith
    enough (primitive Sort.Real) = omega arith
    enough (def n) = omega arith
    enough (typevar n) = omega arith

    turned : (a b : Flat) (i : ℕ) → Member (flat a) i (related false (flat b)) → Member (flat b) i (related true (flat a))
    turned a unit i x' = elim x' [ ]
    turned a (primitive Sort.Bool) i x4 = elim x4 [ ]
    turned a (primitive Sort.Pos) i x5 = elim x5 [ ]
    turned a (primitive Sort.Nat) _ (later {i = i} x14) = elim x14 [ ]
    turned a (primitive Sort.Int) _ (later (later {i = i} x23)) = elim x23 [ ]
    turned a (primitive Sort.Real) _ (later (later (later {i = i} x32))) = elim x32 [ ]
    turned a (def _) i x4 = elim x4 [ ]
    turned a (typevar _) i x5 = elim x5 [ ]
    turned _ (primitive Sort.Nat) _ first = first
    turned _ (primitive Sort.Int) _ first = first
    turned _ (primitive Sort.Int) _ (later first) = later first
    turned _ (primitive Sort.Real) _ first = first
    turned _ (primitive Sort.Real) _ (later first) = later first
    turned _ (primitive Sort.Real) _ (later (later first)) = later (later first)

operator_tables : (s : Tree) → Tables family_op level_op op_injective (λ o. container o s)
unfolding related related_container family_op level_op
operator_tables s = record { fits = fits; enough = enough; turned = turned }
  where
    fits : (up : Bool) (o : ComplexSort) (u : Tree) (i : ℕ) → Member u i (related up (container o s))
        → (p : ComplexSort) × (u ≡ container p s) × (le_op up o p ≡ true) × (apart up (level_op o) (level_op p) ≡ suc i)
    fits false ComplexSort.List u i x'' = elim x'' [ ]
    fits false ComplexSort.Set u _ (later {i = i} x11) = elim x11 [ ]
    fits false ComplexSort.FSet u i x4 = elim x4 [ ]
    fits false ComplexSort.Bag u _ (later {i = i} x13) = elim x13 [ ]
    fits false ComplexSort.FBag u i x6 = elim x6 [ ]
    fits true ComplexSort.List u i x3 = elim x3 [ ]
    fits true ComplexSort.Set u i x4 = elim x4 [ ]
    fits true ComplexSort.FSet u _ (later {i = i} x13) = elim x13 [ ]
    fits true ComplexSort.Bag u i x6 = elim x6 [ ]
    fits true ComplexSort.FBag u _ (later {i = i} x15) = elim x15 [ ]
    fits true ComplexSort.FSet _ _ first = (ComplexSort.Set, refl, refl, refl)
    fits true ComplexSort.FBag _ _ first = (ComplexSort.Bag, refl, refl, refl)
    fits false ComplexSort.Set _ _ first = (ComplexSort.FSet, refl, refl, refl)
    fits false ComplexSort.Bag _ _ first = (ComplexSort.FBag, refl, refl, refl)

    enough : (p : ComplexSort) → level_op p ≤ length (related false (container p s))
    enough ComplexSort.List = omega arith
    enough ComplexSort.Set = omega arith
    enough ComplexSort.FSet = omega arith
    enough ComplexSort.Bag = omega arith
    enough ComplexSort.FBag = omega arith

    -- a list of one operator q over s, which q's own list leads back from
    turned_one : (q p : ComplexSort) → Member (container p s) zero (related true (container q s))
        → (o : ComplexSort) (u : Tree) (i : ℕ) → u ≡ container o s → Member u i (container q s ∷ []) → Member (container p s) i (related true (container o s))
    turned_one q p back o _ _ e first =
        let h : q ≡ o = cc in subst (λ (r : ComplexSort). Member (container p s) zero (related true (container r s))) h back
    turned_one q p back o u _ e (later h) = elim h [ ]

    turned : (o p : ComplexSort) (i : ℕ) → Member (container o s) i (related false (container p s)) → Member (container p s) i (related true (container o s))
    turned o ComplexSort.List i x' = elim x' [ ]
    turned o ComplexSort.FSet i x3 = elim x3 [ ]
    turned o ComplexSort.FBag i x5 = elim x5 [ ]
    turned o ComplexSort.Set i h = turned_one ComplexSort.FSet ComplexSort.Set first o (container o s) i refl h
    turned o ComplexSort.Bag i h = turned_one ComplexSort.FBag ComplexSort.Bag first o (container o s) i refl h

-- The i-th is i + 1 steps away, and what is i + 1 steps away is the i-th.
member_away : (up : Bool) (t u : Tree) (i : ℕ) → Member u i (related up t) → Away up t u (suc i)
unfolding related
member_away up (flat a) u i h = let r = flat_tables.fits up a u i h in rw r.1 (flats a r.0 (suc i) r.2 r.3)
member_away up (container o s) u i h = let r = (operator_tables s).fits up o u i h in rw r.1 (containers o r.0 s (suc i) r.2 r.3)
member_away up (function ss t) u i h = let r = each_member (function ss) u i (related up t) h in rw r.1
    (functions ss t r.0 (suc i) (member_away up t r.0 i r.2))

away_member : (up : Bool) (t u : Tree) (i : ℕ) → Away up t u (suc i) → Member u i (related up t)
unfolding related
away_member up _ _ i (flats a b _ h e) = wider family level flat_injective flat flat_tables up a b i h e
away_member up _ _ i (containers o p s _ h e) = wider family_op level_op op_injective (λ o. container o s) (operator_tables s) up o p i h e
away_member up _ _ i (functions ss r u _ h) = member_each (function ss) (away_member up r u i h)

-- Steps in a direction, and materializable.
materializes_away : {s t : Tree} → Materializes s t → ((k : ℕ) × Away true s t k) × ((k : ℕ) × Away false t s k)
materializes_away (number {a} {b} h) = (
  (level b - level a, flats a b _ h refl),
  (level b - level a, flats b a _ (head_flips family level false b a ∙ h) refl),
)
materializes_away (operator {o} {p} {s} h) = (
  (level_op p - level_op o, containers o p s _ h refl),
  (level_op p - level_op o, containers p o s _ (head_flips family_op level_op false p o ∙ h) refl),
)
materializes_away (range {ss} {r} {u} m) =
    let x = materializes_away m in
    ((x.0.0, functions ss r u _ x.0.1), (x.1.0, functions ss u r _ x.1.1))

away_wider : {t u : Tree} {k : ℕ} → Away true t u k → Materializes t u
away_wider (flats a b _ h e) = number h
away_wider (containers o p s _ h e) = operator h
away_wider (functions ss r u _ h) = range (away_wider h)

-- the same steps, seen from the other end
away_turned : {t u : Tree} {k : ℕ} → Away false t u k → Away true u t k
away_turned (flats a b k h e) = flats b a k (sym (head_flips family level false a b) ∙ h) e
away_turned (containers o p s k h e) = containers p o s k (sym (head_flips family_op level_op false o p) ∙ h) e
away_turned (functions ss r u k h) = functions ss u r k (away_turned h)

away_exactly : (up : Bool) (t u : Tree) → (reaches up t u ≡ true) ↔ ((k : ℕ) × Away up t u k)
away_exactly true t u = (λ e. (materializes_away ((materializable_exactly t u).0 e)).0, λ r. (materializable_exactly t u).1 (away_wider r.1))
away_exactly false t u = (λ e. (materializes_away ((materializable_exactly u t).0 e)).1, λ r. (materializable_exactly u t).1 (away_wider (away_turned r.1)))

-- No steps: the sort itself.
no_steps : (up : Bool) (l m : ℕ) → Reaches up l m → apart up l m ≡ 0 → l ≡ m
no_steps true l m h e = omega (arith, h, e)
no_steps false l m h e = omega (arith, h, e)

none_away : (up : Bool) (t u : Tree) → Away up t u zero → t ≡ u
none_away up _ _ (flats a b _ h e) = let x = (head_exactly family level up a b).0 h in ap flat (flat_injective a b x.0 (no_steps up _ _ x.1 e))
none_away up _ _ (containers o p s _ h e) =
    let x = (head_exactly family_op level_op up o p).0 h in ap (λ o. container o s) (op_injective o p x.0 (no_steps up _ _ x.1 e))
none_away up _ _ (functions ss r u _ h) = ap (function ss) (none_away up r u h)

-- Steps, and the distance without stopping.
exact_of_equal : (up : Bool) (s : Tree) → exact up s s ≡ some (record { head = 0; interior = 0 })
exact_of_equal up s = go (exact up s s) (sym (distance_stops_once up s s) ∙ distance_of_equal up s)
  where
    go : (o : Option Steps) → map₁ stopped o ≡ some (record { head = 0; interior = 0 }) → o ≡ some (record { head = 0; interior = 0 })
    go none e = no_confusion (cc)
    go (some d) e =
        let z : stopped d ≡ record { head = 0; interior = 0 } = cc in
        let h : d.head ≡ 0 = omega (arith, ap (λ (x : Steps). x.head) z) in
        let i : d.interior ≡ 0 = omega (arith, ap (λ (x : Steps). x.interior) z) in
        λ j. some (record { head = h j; interior = i j })

exacts_of_equal : (up : Bool) (ss : Trees) → exacts up ss ss ≡ some 0
exacts_of_equal up ss = go (exacts up ss ss) (sym (distances_stop_once up ss ss) ∙ distances_of_equal up ss)
  where
    go : (o : Option ℕ) → map₁ (min most_steps) o ≡ some 0 → o ≡ some 0
    go none e = no_confusion (cc)
    go (some n) e = let z : min most_steps n ≡ 0 = cc in ap some (omega (arith, z))

away_distant : (up : Bool) (t u : Tree) (k : ℕ) → Away up t u k → Distant up t u k
unfolding exact
away_distant up _ _ k (flats a b _ h e) = (record { head = apart up (level a) (level b); interior = 0 }, rw h, omega (arith, e))
away_distant up _ _ k (containers o p s _ h e) = (
  record { head = apart up (level_op o) (level_op p); interior = 0 },
  rw (h, exact_of_equal up s),
  omega (arith, e),
)
away_distant up _ _ k (functions ss r u _ h) =
    let x = away_distant up r u k h in
    (record { head = 0; interior = 0 + total x.0 }, rw (exacts_of_equal (not up) ss, x.1), omega (arith, x.2))

one_distance : (up : Bool) (t u : Tree) (j k : ℕ) → Distant up t u j → Distant up t u k → j ≡ k
one_distance up t u j k d e = let x = d.1 in let y = e.1 in let z : d.0 ≡ e.0 = cc in sym d.2 ∙ (ap total z ∙ e.2)

-- Nearest first: the i-th are exactly those that are i + 1 steps away.
pub nearest_first : (up : Bool) (t u : Tree) (i : ℕ) → Member u i (related up t) ↔ ((reaches up t u ≡ true) × Distant up t u (suc i))
nearest_first up t u i = (λ h. let a = member_away up t u i h in ((away_exactly up t u).1 (suc i, a), away_distant up t u (suc i) a), back)
  where
    back : (reaches up t u ≡ true) × Distant up t u (suc i) → Member u i (related up t)
    back h =
        let a = (away_exactly up t u).0 h.0 in
        away_member up t u i (subst (Away up t u) (one_distance up t u a.0 (suc i) (away_distant up t u a.0 a.1) h.1) a.1)

-- Where a sort is the i-th narrower one of another, that is the i-th wider one of it.
pub narrower_is_wider : (s t : Tree) (i : ℕ) → Member s i (related false t) → Member t i (related true s)
narrower_is_wider s t i h = away_member true s t i (away_turned (member_away false t s i h))

-- The list holds exactly what is materializable in the direction, except the sort itself.
pub related_exactly : (up : Bool) (t u : Tree) → ((i : ℕ) × Member u i (related up t)) ↔ ((reaches up t u ≡ true) × (t ≢ u))
related_exactly up t u = (
  λ h. let x = (nearest_first up t u h.0).0 h.1 in (x.0, other h.0 x.1),
  λ h.
      let a = (away_exactly up t u).0 h.0 in listed h.1 a.0 a.1,
)
  where
    other : (i : ℕ) → Distant up t u (suc i) → t ≢ u
    other i d e =
        let x = one_distance up t t (suc i) 0 (subst (λ v. Distant up t v (suc i)) (sym e) d) (record { head = 0; interior = 0 }, exact_of_equal up t, refl) in
        omega (arith, x)

    listed : t ≢ u → (k : ℕ) → Away up t u k → (i : ℕ) × Member u i (related up t)
    listed n zero a = absurd (n (none_away up t u a))
    listed n (suc i) a = (i, away_member up t u i a)
