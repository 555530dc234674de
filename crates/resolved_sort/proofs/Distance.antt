-- A distance exists exactly where the first sort is equal to or below the second, is (0, 0) exactly between equal sorts, and is the
-- exact distance stopped once: stopping at each level equals stopping the whole sum. Exact distances add up. By the clauses of
-- `distance`; levels are at most 3, so a head never stops. Assumes nothing.
use mathlib.Core.Path.{◌≡◌, refl, ap, ap₂, ◌∙◌}
use mathlib.Core.Bool.{Bool, true, false, not, ◌&&◌, and-true, false≢true}
use mathlib.Core.Option.{Option, none, some}
use mathlib.Core.Logic.{◌↔◌}
use Prim.Native.Nat.{ℕ, ◌+◌, min, ◌≤◌}
use native.Mathlib.Omega.{arith}
use Rattle.resolved_sort.specs.declared.Sort.{Sort}
use Rattle.resolved_sort.specs.declared.ComplexSort.{ComplexSort}
use Rattle.resolved_sort.specs.Tree.{Flat, unit, primitive, def, typevar, Tree, flat, container, function}
use Rattle.resolved_sort.specs.Tree.{Trees, no_args, arg, family, level, family_op, level_op}
use Rattle.resolved_sort.specs.Order.{le_flat, le_op, le, les, Steps, apart, only_if, all_steps, most_steps, map₁, map₂, distance, distances}
use Rattle.resolved_sort.specs.Exact.{exact, exacts, stopped}
use Rattle.resolved_sort.proofs.Heads.{le_head, head_exactly, head_refl, head_trans, head_flips, flat_injective, op_injective}

-- Where there is an answer.
abbrev present : {A : Type 0} → Option A → Bool
present none = false
present (some a) = true

present_exactly : {A : Type 0} (x : Option A) → ((a : A) × (x ≡ some a)) ↔ (present x ≡ true)
present_exactly none = (λ h. let z = h.1 in cc, λ e. absurd (false≢true e))
present_exactly (some a) = (λ h. refl, λ e. (a, refl))

present_given : {A : Type 0} (b : Bool) (x : Option A) → present (only_if b x) ≡ (b && present x)
present_given true x = refl
present_given false x = refl

present_map₁ : {A B : Type 0} (f : A → B) (x : Option A) → present (map₁ f x) ≡ present x
present_map₁ f none = refl
present_map₁ f (some a) = refl

present_map₂ : {A B C : Type 0} (f : A → B → C) (x : Option A) (y : Option B) → present (map₂ f x y) ≡ (present x && present y)
present_map₂ f none y = refl
present_map₂ f (some a) none = refl
present_map₂ f (some a) (some b) = refl

mutual
  unfolding distance le

  present_distance : (up : Bool) (s t : Tree) → present (distance up s t) ≡ le up s t
  present_distance up (flat a) (flat b) = present_given (le_flat up a b) _ ∙ and-true (le_flat up a b)
  present_distance up (flat a) (container p t) = refl
  present_distance up (flat a) (function ts u) = refl
  present_distance up (container o s) (flat b) = refl
  present_distance up (container o s) (container p t) =
      present_given (le_op up o p) _ ∙ ap (◌&&◌ (le_op up o p)) (present_map₁ _ (distance up s t) ∙ present_distance up s t)
  present_distance up (container o s) (function ts u) = refl
  present_distance up (function ss r) (flat b) = refl
  present_distance up (function ss r) (container p t) = refl
  present_distance up (function ss r) (function ts u) =
      present_map₂ _ (distances (not up) ss ts) (distance up r u) ∙ ap₂ ◌&&◌ (present_distances (not up) ss ts) (present_distance up r u)

  present_distances : (up : Bool) (ss ts : Trees) → present (distances up ss ts) ≡ les up ss ts
  present_distances up no_args no_args = refl
  present_distances up no_args (arg t ts) = refl
  present_distances up (arg s ss) no_args = refl
  present_distances up (arg s ss) (arg t ts) =
      present_map₂ _ (distance up s t) (distances up ss ts) ∙ ap₂ ◌&&◌ (present_distance up s t) (present_distances up ss ts)

pub distance_exists_exactly : (up : Bool) (s t : Tree) → ((d : Steps) × (distance up s t ≡ some d)) ↔ (le up s t ≡ true)
distance_exists_exactly up s t = rw (← present_distance up s t) (present_exactly (distance up s t))

-- The two directions are each other's converse.
apart_flips : (up : Bool) (l m : ℕ) → apart up l m ≡ apart (not up) m l
apart_flips true l m = refl
apart_flips false l m = refl

mutual
  unfolding distance

  pub distance_flips : (up : Bool) (s t : Tree) → distance up s t ≡ distance (not up) t s
  distance_flips up (flat a) (flat b) = rw (head_flips family level up a b, apart_flips up (level a) (level b))
  distance_flips up (flat a) (container p t) = refl
  distance_flips up (flat a) (function ts u) = refl
  distance_flips up (container o s) (flat b) = refl
  distance_flips up (container o s) (container p t) = rw (head_flips family_op level_op up o p, apart_flips up (level_op o) (level_op p), distance_flips up s t)
  distance_flips up (container o s) (function ts u) = refl
  distance_flips up (function ss r) (flat b) = refl
  distance_flips up (function ss r) (container p t) = refl
  distance_flips up (function ss r) (function ts u) = rw (distances_flip (not up) ss ts, distance_flips up r u)

  pub distances_flip : (up : Bool) (ss ts : Trees) → distances up ss ts ≡ distances (not up) ts ss
  distances_flip up no_args no_args = refl
  distances_flip up no_args (arg t ts) = refl
  distances_flip up (arg s ss) no_args = refl
  distances_flip up (arg s ss) (arg t ts) = rw (distance_flips up s t, distances_flip up ss ts)

-- Equal sorts.
apart_self : (up : Bool) (l : ℕ) → apart up l l ≡ 0
apart_self true l = omega arith
apart_self false l = omega arith

mutual
  unfolding distance

  pub distance_of_equal : (up : Bool) (s : Tree) → distance up s s ≡ some (record { head = 0; interior = 0 })
  distance_of_equal up (flat a) = rw (head_refl family level up a, apart_self up (level a))
  distance_of_equal up (container o s) = rw (head_refl family_op level_op up o, apart_self up (level_op o), distance_of_equal up s)
  distance_of_equal up (function ss r) = rw (distances_of_equal (not up) ss, distance_of_equal up r)

  pub distances_of_equal : (up : Bool) (ss : Trees) → distances up ss ss ≡ some 0
  distances_of_equal up no_args = refl
  distances_of_equal up (arg s ss) = rw (distance_of_equal up s, distances_of_equal up ss)

pub steps : {h k i j : ℕ} → h ≡ k → i ≡ j → ◌≡◌ {A = Steps} (record { head = h; interior = i }) (record { head = k; interior = j })
steps p q = λ i. record { head = p i; interior = q i }

-- And only of equal sorts: nothing is lost by stopping at 255, since a sum that is 0 has no other way.
abbrev head_of : Option Steps → ℕ
head_of none = 0
head_of (some d) = d.head

abbrev no_steps : Steps
no_steps = record { head = 0; interior = 0 }

given_some : {A : Type 0} (b : Bool) (x : Option A) (a : A) → only_if b x ≡ some a → (b ≡ true) × (x ≡ some a)
given_some true x a e = (refl, e)
given_some false x a e = absurd (let z : ◌≡◌ {A = ℕ} 0 1 = cc in omega arith)

some_map₁ : {A B : Type 0} (f : A → B) (x : Option A) (b : B) → map₁ f x ≡ some b → (a : A) × (x ≡ some a) × (f a ≡ b)
some_map₁ f none b e = absurd (let z : ◌≡◌ {A = ℕ} 0 1 = cc in omega arith)
some_map₁ f (some a) b e = (a, refl, cc)

some_map₂ : {A B C : Type 0} (f : A → B → C) (x : Option A) (y : Option B) (c : C) → map₂ f x y ≡ some c
    → (a : A) × (b : B) × (x ≡ some a) × (y ≡ some b) × (f a b ≡ c)
some_map₂ f none y c e = absurd (let z : ◌≡◌ {A = ℕ} 0 1 = cc in omega arith)
some_map₂ f (some a) none c e = absurd (let z : ◌≡◌ {A = ℕ} 0 1 = cc in omega arith)
some_map₂ f (some a) (some b) c e = (a, b, refl, refl, cc)

-- heads of one family that are no step apart
no_step_apart : {A : Type 0} (family level : A → ℕ) (up : Bool) → ((a b : A) → family a ≡ family b → level a ≡ level b → a ≡ b)
    → (a b : A) → le_head family level up a b ≡ true → apart up (level a) (level b) ≡ 0 → a ≡ b
no_step_apart family level true injective a b h e = let k = (head_exactly family level true a b).0 h in injective a b k.0 (omega arith)
no_step_apart family level false injective a b h e = let k = (head_exactly family level false a b).0 h in injective a b k.0 (omega arith)

no_steps_at_all : (d : Steps) → all_steps d ≡ 0 → d ≡ no_steps
no_steps_at_all d e = steps (omega arith) (omega arith)

mutual
  unfolding distance

  distance_zero_equal : (up : Bool) (s t : Tree) → distance up s t ≡ some no_steps → s ≡ t
  distance_zero_equal up (flat a) (flat b) e =
      let h = given_some (le_flat up a b) _ _ e in
      ap flat (no_step_apart family level up flat_injective a b h.0 (ap (λ x. head_of x) h.1))
  distance_zero_equal up (flat a) (container p t) e = absurd (let z : ◌≡◌ {A = ℕ} 0 1 = cc in omega arith)
  distance_zero_equal up (flat a) (function ts u) e = absurd (let z : ◌≡◌ {A = ℕ} 0 1 = cc in omega arith)
  distance_zero_equal up (container o s) (flat b) e = absurd (let z : ◌≡◌ {A = ℕ} 0 1 = cc in omega arith)
  distance_zero_equal up (container o s) (container p t) e =
      let h = given_some (le_op up o p) _ _ e in
      let k = some_map₁ _ (distance up s t) _ h.1 in
      ap₂ container (no_step_apart family_op level_op up op_injective o p h.0 (ap (λ (d : Steps). d.head) k.2))
      (distance_zero_equal up s t (k.1 ∙ ap some (no_steps_at_all k.0 (ap (λ (d : Steps). d.interior) k.2))))
  distance_zero_equal up (container o s) (function ts u) e = absurd (let z : ◌≡◌ {A = ℕ} 0 1 = cc in omega arith)
  distance_zero_equal up (function ss r) (flat b) e = absurd (let z : ◌≡◌ {A = ℕ} 0 1 = cc in omega arith)
  distance_zero_equal up (function ss r) (container p t) e = absurd (let z : ◌≡◌ {A = ℕ} 0 1 = cc in omega arith)
  distance_zero_equal up (function ss r) (function ts u) e =
      let k = some_map₂ _ (distances (not up) ss ts) (distance up r u) _ e in
      let sum = ap (λ (d : Steps). d.interior) k.4 in
      ap₂ function (distances_zero_equal (not up) ss ts (k.2 ∙ ap some (omega arith)))
      (distance_zero_equal up r u (k.3 ∙ ap some (no_steps_at_all k.1 (omega arith))))

  distances_zero_equal : (up : Bool) (ss ts : Trees) → distances up ss ts ≡ some 0 → ss ≡ ts
  distances_zero_equal up no_args no_args e = refl
  distances_zero_equal up no_args (arg t ts) e = absurd (let z : ◌≡◌ {A = ℕ} 0 1 = cc in omega arith)
  distances_zero_equal up (arg s ss) no_args e = absurd (let z : ◌≡◌ {A = ℕ} 0 1 = cc in omega arith)
  distances_zero_equal up (arg s ss) (arg t ts) e =
      let k = some_map₂ _ (distance up s t) (distances up ss ts) _ e in
      ap₂ arg (distance_zero_equal up s t (k.2 ∙ ap some (no_steps_at_all k.0 (omega arith))))
      (distances_zero_equal up ss ts (k.3 ∙ ap some (omega arith)))

pub distance_zero_exactly : (up : Bool) (s t : Tree) → (distance up s t ≡ some (record { head = 0; interior = 0 })) ↔ (s ≡ t)
distance_zero_exactly up s t = (distance_zero_equal up s t, λ e. rw e (distance_of_equal up t))

-- Stopping.
map_given : {A B : Type 0} (f : A → B) (b : Bool) (x : Option A) → only_if b (map₁ f x) ≡ map₁ f (only_if b x)
map_given f true x = refl
map_given f false x = refl

map_map₁ : {A B C D : Type 0} (F : B → D) (f : A → B) (h : C → D) (G : A → C) → ((a : A) → F (f a) ≡ h (G a))
    → (x : Option A) → map₁ F (map₁ f x) ≡ map₁ h (map₁ G x)
map_map₁ F f h G e none = refl
map_map₁ F f h G e (some a) = ap some (e a)

map_map₂ : {A A' B B' C D : Type 0} (F : A' → B' → D) (f : A → A') (g : B → B') (h : C → D) (G : A → B → C) → ((a : A) (b : B) → F (f a) (g b) ≡ h (G a b))
    → (x : Option A) (y : Option B) → map₂ F (map₁ f x) (map₁ g y) ≡ map₁ h (map₂ G x y)
map_map₂ F f g h G e none y = refl
map_map₂ F f g h G e (some a) none = refl
map_map₂ F f g h G e (some a) (some b) = ap some (e a b)

level_small : (a : Flat) → level a ≤ 3
unfolding level
level_small unit = omega arith
level_small (primitive Sort.Bool) = omega arith
level_small (primitive Sort.Pos) = omega arith
level_small (primitive Sort.Nat) = omega arith
level_small (primitive Sort.Int) = omega arith
level_small (primitive Sort.Real) = omega arith
level_small (def n) = omega arith
level_small (typevar n) = omega arith

level_op_small : (o : ComplexSort) → level_op o ≤ 3
unfolding level_op
level_op_small ComplexSort.List = omega arith
level_op_small ComplexSort.Set = omega arith
level_op_small ComplexSort.FSet = omega arith
level_op_small ComplexSort.Bag = omega arith
level_op_small ComplexSort.FBag = omega arith

apart_stops : (up : Bool) (l m : ℕ) → l ≤ 3 → m ≤ 3 → apart up l m ≡ min most_steps (apart up l m)
apart_stops true l m h k = omega arith
apart_stops false l m h k = omega arith

mutual
  unfolding distance exact

  pub distance_stops_once : (up : Bool) (s t : Tree) → distance up s t ≡ map₁ stopped (exact up s t)
  distance_stops_once up (flat a) (flat b) = ap (λ d. only_if (le_flat up a b) (some d))
      (steps (apart_stops up _ _ (level_small a) (level_small b)) refl) ∙ map_given stopped (le_flat up a b) _
  distance_stops_once up (flat a) (container p t) = refl
  distance_stops_once up (flat a) (function ts u) = refl
  distance_stops_once up (container o s) (flat b) = refl
  distance_stops_once up (container o s) (container p t) =
      rw (distance_stops_once up s t) (ap (only_if (le_op up o p)) (map_map₁ _ stopped stopped _
      (λ d. steps (apart_stops up _ _ (level_op_small o) (level_op_small p)) (omega arith)) (exact up s t)) ∙
      map_given stopped (le_op up o p) _)
  distance_stops_once up (container o s) (function ts u) = refl
  distance_stops_once up (function ss r) (flat b) = refl
  distance_stops_once up (function ss r) (container p t) = refl
  distance_stops_once up (function ss r) (function ts u) =
      rw (distances_stop_once (not up) ss ts, distance_stops_once up r u) (map_map₂ _ (min most_steps) stopped stopped
      _ (λ n d. steps refl (omega arith)) (exacts (not up) ss ts) (exact up r u))

  pub distances_stop_once : (up : Bool) (ss ts : Trees) → distances up ss ts ≡ map₁ (min most_steps) (exacts up ss ts)
  distances_stop_once up no_args no_args = refl
  distances_stop_once up no_args (arg t ts) = refl
  distances_stop_once up (arg s ss) no_args = refl
  distances_stop_once up (arg s ss) (arg t ts) =
      rw (distance_stops_once up s t, distances_stop_once up ss ts) (map_map₂ _ stopped (min most_steps)
      (min most_steps) _ (λ d n. omega arith) (exact up s t) (exacts up ss ts))

abbrev steps_of : Option Steps → Steps
steps_of none = no_steps
steps_of (some d) = d

abbrev number_of : Option ℕ → ℕ
number_of none = 0
number_of (some n) = n

-- Distances that do not stop add up: from s to t and on to u is as far as from s to u, at the head and inside.
abbrev plus : Steps → Steps → Steps
plus d d' = record { head = d.head + d'.head; interior = d.interior + d'.interior }

-- heads of one family, each at or beyond the one before
heads_add : {A : Type 0} (family level : A → ℕ) (up : Bool) (a b c : A) → le_head family level up a b ≡ true → le_head family level up b c ≡ true
    → apart up (level a) (level c) ≡ apart up (level a) (level b) + apart up (level b) (level c)
heads_add family level true a b c h k = let x = (head_exactly family level true a b).0 h in let y = (head_exactly family level true b c).0 k in omega arith
heads_add family level false a b c h k = let x = (head_exactly family level false a b).0 h in let y = (head_exactly family level false b c).0 k in omega arith

mutual
  unfolding exact

  pub exact_adds : (up : Bool) (s t u : Tree) (d d' : Steps) → exact up s t ≡ some d → exact up t u ≡ some d' → exact up s u ≡ some (plus d d')
  exact_adds up (flat a) (flat b) (flat c) d d' e f =
      let h = given_some (le_flat up a b) _ _ e in
      let k = given_some (le_flat up b c) _ _ f in
      let x = ap steps_of h.1 in
      let y = ap steps_of k.1 in
      rw (head_trans family level up a b c h.0 k.0)
      (ap some (steps (heads_add family level up a b c h.0 k.0 ∙ ap₂ ◌+◌ (ap (λ (z : Steps). z.head) x) (ap (λ (z : Steps). z.head) y))
      (ap₂ ◌+◌ (ap (λ (z : Steps). z.interior) x) (ap (λ (z : Steps). z.interior) y))))
  exact_adds up (flat a) (flat b) (container q v) d d' e f = absurd (let z : ◌≡◌ {A = ℕ} 0 1 = cc in omega arith)
  exact_adds up (flat a) (flat b) (function vs v) d d' e f = absurd (let z : ◌≡◌ {A = ℕ} 0 1 = cc in omega arith)
  exact_adds up (flat a) (container p t) u d d' e f = absurd (let z : ◌≡◌ {A = ℕ} 0 1 = cc in omega arith)
  exact_adds up (flat a) (function ts t) u d d' e f = absurd (let z : ◌≡◌ {A = ℕ} 0 1 = cc in omega arith)
  exact_adds up (container o s) (flat b) u d d' e f = absurd (let z : ◌≡◌ {A = ℕ} 0 1 = cc in omega arith)
  exact_adds up (container o s) (container p t) (flat c) d d' e f = absurd (let z : ◌≡◌ {A = ℕ} 0 1 = cc in omega arith)
  exact_adds up (container o s) (container p t) (container q v) d d' e f =
      let h = given_some (le_op up o p) _ _ e in
      let k = given_some (le_op up p q) _ _ f in
      let x = some_map₁ _ (exact up s t) _ h.1 in
      let y = some_map₁ _ (exact up t v) _ k.1 in
      let xi = ap (λ (z : Steps). z.interior) x.2 in
      let yi = ap (λ (z : Steps). z.interior) y.2 in
      rw (head_trans family_op level_op up o p q h.0 k.0, exact_adds up s t v x.0 y.0 x.1 y.1)
      (ap some (steps (heads_add family_op level_op up o p q h.0 k.0 ∙ ap₂ ◌+◌ (ap (λ (z : Steps). z.head) x.2) (ap (λ (z : Steps). z.head) y.2))
      (omega arith)))
  exact_adds up (container o s) (container p t) (function vs v) d d' e f = absurd (let z : ◌≡◌ {A = ℕ} 0 1 = cc in omega arith)
  exact_adds up (container o s) (function ts t) u d d' e f = absurd (let z : ◌≡◌ {A = ℕ} 0 1 = cc in omega arith)
  exact_adds up (function ss r) (flat b) u d d' e f = absurd (let z : ◌≡◌ {A = ℕ} 0 1 = cc in omega arith)
  exact_adds up (function ss r) (container p t) u d d' e f = absurd (let z : ◌≡◌ {A = ℕ} 0 1 = cc in omega arith)
  exact_adds up (function ss r) (function ts t) (flat c) d d' e f = absurd (let z : ◌≡◌ {A = ℕ} 0 1 = cc in omega arith)
  exact_adds up (function ss r) (function ts t) (container q v) d d' e f = absurd (let z : ◌≡◌ {A = ℕ} 0 1 = cc in omega arith)
  exact_adds up (function ss r) (function ts t) (function vs v) d d' e f =
      let x = some_map₂ _ (exacts (not up) ss ts) (exact up r t) _ e in
      let y = some_map₂ _ (exacts (not up) ts vs) (exact up t v) _ f in
      let xh = ap (λ (z : Steps). z.head) x.4 in
      let yh = ap (λ (z : Steps). z.head) y.4 in
      let xi = ap (λ (z : Steps). z.interior) x.4 in
      let yi = ap (λ (z : Steps). z.interior) y.4 in
      rw (exacts_add (not up) ss ts vs x.0 y.0 x.2 y.2, exact_adds up r t v x.1 y.1 x.3 y.3)
      (ap some (steps (omega arith) (omega arith)))

  pub exacts_add : (up : Bool) (ss ts us : Trees) (n m : ℕ) → exacts up ss ts ≡ some n → exacts up ts us ≡ some m → exacts up ss us ≡ some (n + m)
  exacts_add up no_args no_args no_args n m e f = let x = ap number_of e in let y = ap number_of f in ap some (omega arith)
  exacts_add up no_args no_args (arg u us) n m e f = absurd (let z : ◌≡◌ {A = ℕ} 0 1 = cc in omega arith)
  exacts_add up no_args (arg t ts) us n m e f = absurd (let z : ◌≡◌ {A = ℕ} 0 1 = cc in omega arith)
  exacts_add up (arg s ss) no_args us n m e f = absurd (let z : ◌≡◌ {A = ℕ} 0 1 = cc in omega arith)
  exacts_add up (arg s ss) (arg t ts) no_args n m e f = absurd (let z : ◌≡◌ {A = ℕ} 0 1 = cc in omega arith)
  exacts_add up (arg s ss) (arg t ts) (arg u us) n m e f =
      let x = some_map₂ _ (exact up s t) (exacts up ss ts) _ e in
      let y = some_map₂ _ (exact up t u) (exacts up ts us) _ f in
      let xs = x.4 in
      let ys = y.4 in
      rw (exact_adds up s t u x.0 y.0 x.2 y.2, exacts_add up ss ts us x.1 y.1 x.3 y.3) (ap some (omega arith))
