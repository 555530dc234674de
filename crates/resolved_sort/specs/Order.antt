-- Order, join, meet, distance and materializable, on trees: document 01, "Sorts (002)".
use Rattle.std.specs.Prelude.{Bool, true, false, cond, not, ◌&&◌, ℕ, ◌+◌, ◌-◌, min, eqb, leb, ◌≡◌, ◌≢◌}
use Rattle.std.specs.Prelude.{Option as Answer, Some, None}
use Rattle.std.specs.declared.cmp.Ordering.{Ordering}
use Rattle.std.specs.declared.cmp.Ordering.TheVariants.{Less, Equal as Same, Greater}
use Rattle.std.proofs.Math.Option.{Option, none, some}
use Rattle.resolved_sort.specs.declared.Steps.{Steps as StepsAnswer}
use Rattle.resolved_sort.specs.declared.ComplexSort.{ComplexSort}
use Rattle.resolved_sort.specs.Tree.{Flat, Tree, flat, container, function, Trees, no_args, arg, family}
use Rattle.resolved_sort.specs.Tree.{level, family_op, level_op, same, sames}

-- A direction: up true reads "equal to or below", up false "equal to or above". With it the functions below call
-- themselves on parts of their first sort, though a function's arguments go the other way.
abbrev pub le_level : Bool → ℕ → ℕ → Bool
le_level true l m = leb l m
le_level false l m = leb m l

abbrev pub le_flat : Bool → Flat → Flat → Bool
le_flat up a b = eqb (family a) (family b) && le_level up (level a) (level b)

abbrev pub le_op : Bool → ComplexSort → ComplexSort → Bool
le_op up o p = eqb (family_op o) (family_op p) && le_level up (level_op o) (level_op p)

-- "Equal sorts equal; numbers Pos < Nat < Int < Real; Bool, unit, Def, TypeVar only equal themselves; containers by
-- operator and part combined; functions contravariant in arguments."
unfoldable mutual
  pub le : Bool → Tree → Tree → Bool
  le up (flat a) (flat b) = le_flat up a b
  le up (flat a) (container p t) = false
  le up (flat a) (function ts u) = false
  le up (container o s) (flat b) = false
  le up (container o s) (container p t) = le_op up o p && le up s t
  le up (container o s) (function ts u) = false
  le up (function ss r) (flat b) = false
  le up (function ss r) (container p t) = false
  le up (function ss r) (function ts u) = les (not up) ss ts && le up r u

  pub les : Bool → Trees → Trees → Bool
  les up no_args no_args = true
  les up no_args (arg t ts) = false
  les up (arg s ss) no_args = false
  les up (arg s ss) (arg t ts) = le up s t && les up ss ts

-- How two sorts are ordered. Below: the first is below the second.
pub data PartialOrder : Type 0 where
  Unrelated : PartialOrder
  Equal : PartialOrder
  Below : PartialOrder
  Above : PartialOrder

-- the four answers, from "equal to or below" and "equal to or above"
abbrev pub order_of : Bool → Bool → PartialOrder
order_of true true = Equal
order_of true false = Below
order_of false true = Above
order_of false false = Unrelated

unfoldable pub order : Tree → Tree → PartialOrder
order s t = order_of (le true s t) (le false s t)

-- the same as the code answers it: Less where the first is below the second, None where neither is equal to or below
-- the other
abbrev pub ordering_of : Bool → Bool → Answer Ordering
ordering_of true true = Some Same
ordering_of true false = Some Less
ordering_of false true = Some Greater
ordering_of false false = None

unfoldable pub ordering : Tree → Tree → Answer Ordering
ordering s t = ordering_of (le true s t) (le false s t)

abbrev pub partial_order_of : Answer Ordering → PartialOrder
partial_order_of (Some Same) = Equal
partial_order_of (Some Less) = Below
partial_order_of (Some Greater) = Above
partial_order_of None = Unrelated

-- Of two heads of one family the one farther in the direction.
unfoldable pub bound_flat : Bool → Flat → Flat → Option Flat
bound_flat up a b = cond (eqb (family a) (family b)) (some (cond (le_level up (level a) (level b)) b a)) none

unfoldable pub bound_op : Bool → ComplexSort → ComplexSort → Option ComplexSort
bound_op up o p =
    cond (eqb (family_op o) (family_op p)) (some (cond (le_level up (level_op o) (level_op p)) p o)) none

abbrev pub map₁ : {A B : Type 0} → (A → B) → Option A → Option B
map₁ f none = none
map₁ f (some a) = some (f a)

abbrev pub map₂ : {A B C : Type 0} → (A → B → C) → Option A → Option B → Option C
map₂ f none b = none
map₂ f (some a) none = none
map₂ f (some a) (some b) = some (f a b)

-- Join (up true) and meet (up false): "join of functions takes the meet of the arguments, and meet takes their join".
unfoldable mutual
  pub bound : Bool → Tree → Tree → Option Tree
  bound up (flat a) (flat b) = map₁ flat (bound_flat up a b)
  bound up (flat a) (container p t) = none
  bound up (flat a) (function ts u) = none
  bound up (container o s) (flat b) = none
  bound up (container o s) (container p t) = map₂ container (bound_op up o p) (bound up s t)
  bound up (container o s) (function ts u) = none
  bound up (function ss r) (flat b) = none
  bound up (function ss r) (container p t) = none
  bound up (function ss r) (function ts u) = map₂ function (bounds (not up) ss ts) (bound up r u)

  pub bounds : Bool → Trees → Trees → Option Trees
  bounds up no_args no_args = some no_args
  bounds up no_args (arg t ts) = none
  bounds up (arg s ss) no_args = none
  bounds up (arg s ss) (arg t ts) = map₂ arg (bound up s t) (bounds up ss ts)

abbrev pub join : Tree → Tree → Option Tree
join = bound true

abbrev pub meet : Tree → Tree → Option Tree
meet = bound false

-- "sums stop at 255"
abbrev pub most_steps : ℕ
most_steps = 255

abbrev pub stopped_sum : ℕ → ℕ → ℕ
stopped_sum a b = min most_steps (a + b)

-- Steps at the head of a sort, and all steps beneath it.
pub record Steps : Type 0 where
  pub head : ℕ
  pub interior : ℕ

-- the same as the code answers it
abbrev pub steps_of : Option Steps → Answer StepsAnswer
steps_of none = None
steps_of (some d) = Some (record { head = d.head; interior = d.interior })

-- the steps between two levels, of which the second is the farther
abbrev pub apart : Bool → ℕ → ℕ → ℕ
apart true l m = m - l
apart false l m = l - m

abbrev pub only_if : {A : Type 0} → Bool → Option A → Option A
only_if true x = x
only_if false x = none

abbrev pub all_steps : Steps → ℕ
all_steps d = stopped_sum d.head d.interior

-- Distance, from the first sort up to the second (up true) or from the second up to the first: "equal sorts have
-- (0, 0); numbers have their steps as head; containers head 0 or 1 and the part's head plus interior as interior;
-- functions head 0, arguments (reversed) and range all interior".
unfoldable mutual
  pub distance : Bool → Tree → Tree → Option Steps
  distance up (flat a) (flat b) =
      only_if (le_flat up a b) (some (record { head = apart up (level a) (level b); interior = 0 }))
  distance up (flat a) (container p t) = none
  distance up (flat a) (function ts u) = none
  distance up (container o s) (flat b) = none
  distance up (container o s) (container p t) =
      only_if (le_op up o p)
      (map₁ (λ d. record { head = apart up (level_op o) (level_op p); interior = all_steps d }) (distance up s t))
  distance up (container o s) (function ts u) = none
  distance up (function ss r) (flat b) = none
  distance up (function ss r) (container p t) = none
  distance up (function ss r) (function ts u) =
      map₂ (λ n d. record { head = 0; interior = stopped_sum n (all_steps d) }) (distances (not up) ss ts)
      (distance up r u)

  pub distances : Bool → Trees → Trees → Option ℕ
  distances up no_args no_args = some 0
  distances up no_args (arg t ts) = none
  distances up (arg s ss) no_args = none
  distances up (arg s ss) (arg t ts) = map₂ (λ d n. stopped_sum (all_steps d) n) (distance up s t) (distances up ss ts)

-- "equal, number to a wider number, FSet to Set or FBag to Bag over the same part, function with equal arguments and
-- materializable range"
-- Equal to or below is not enough: the language has no conversion of a container element by element, nor of a function
-- by its arguments.
unfoldable pub materializable : Tree → Tree → Bool
materializable (flat a) (flat b) = le_flat true a b
materializable (flat a) (container p t) = false
materializable (flat a) (function ts u) = false
materializable (container o s) (flat b) = false
materializable (container o s) (container p t) = le_op true o p && same s t
materializable (container o s) (function ts u) = false
materializable (function ss r) (flat b) = false
materializable (function ss r) (container p t) = false
materializable (function ss r) (function ts u) = sames ss ts && materializable r u

-- What each answer of `order` says.
abbrev pub OrderSays : Tree → Tree → PartialOrder → Type 0
OrderSays s t Equal = s ≡ t
OrderSays s t Below = (le true s t ≡ true) × (s ≢ t)
OrderSays s t Above = (le true t s ≡ true) × (s ≢ t)
OrderSays s t Unrelated = (le true s t ≡ false) × (le true t s ≡ false)

-- What each answer of `ordering` says.
abbrev pub OrderingSays : Tree → Tree → Answer Ordering → Type 0
OrderingSays s t (Some Same) = s ≡ t
OrderingSays s t (Some Less) = (le true s t ≡ true) × (s ≢ t)
OrderingSays s t (Some Greater) = (le true t s ≡ true) × (s ≢ t)
OrderingSays s t None = (le true s t ≡ false) × (le true t s ≡ false)

-- How far a materializable pair is apart.
abbrev pub is_function : Tree → Bool
is_function (flat a) = false
is_function (container o s) = false
is_function (function ss r) = true
