-- The conversions of the language reference against our tables. Converting implies materializable, by the five conversions;
-- the other way, a head at a level above 0 has a conversion from the head one level lower, so that the levels between two
-- heads are a chain of conversions. Assumes nothing.
use mathlib.Core.Path.{◌≡◌, refl, sym, ◌∙◌}
use mathlib.Core.Bool.{Bool, true, false, not, and-true, and-eq-true_iff, false≢true}
use mathlib.Core.Logic.{◌↔◌}
use Prim.Native.Nat.{ℕ, zero, suc, ◌+◌, ◌-◌}
use native.Mathlib.Omega.{arith}
use Rattle.resolved_sort.specs.declared.Sort.{Sort}
use Rattle.resolved_sort.specs.declared.ComplexSort.{ComplexSort}
use Rattle.resolved_sort.specs.Tree.{Flat, unit, primitive, def, typevar, Tree, flat, container, function, Trees, no_args, arg, family, level, family_op, level_op}
use Rattle.resolved_sort.specs.Order.{le_flat, le_op, le, les, materializable, is_function}
use Rattle.resolved_sort.specs.Reference.{Closure, nothing, one, and_then, in_part, in_function, Closures, no_more, both}
use Rattle.resolved_sort.specs.Reference.{Converts, pos_to_nat, nat_to_int, int_to_real, fset_to_set, fbag_to_bag, Widens, stays, then}
use Rattle.resolved_sort.proofs.Heads.{le_head, head_exactly, head_refl, head_flips, flat_injective, op_injective}
use Rattle.resolved_sort.proofs.Order.{Le, flats, containers, functions, Les, ends, args, le_exactly, le_refl, le_trans, les_flips}
use Rattle.resolved_sort.proofs.Materializable.{Materializes, number, operator, range, materializable_exactly, materializable_below, materializable_refl, materializable_trans}

-- From the reference to the tables.
converts_materializes : {s t : Tree} → Converts s t → Materializes s t
unfolding family level family_op level_op
converts_materializes pos_to_nat = number refl
converts_materializes nat_to_int = number refl
converts_materializes int_to_real = number refl
converts_materializes (fset_to_set s) = operator refl
converts_materializes (fbag_to_bag s) = operator refl

pub widens_materializable : {s t : Tree} → Widens s t → materializable s t ≡ true
widens_materializable (stays {s}) = materializable_refl s
widens_materializable (then {s} {t} {u} w c) = materializable_trans s t u (widens_materializable w) ((materializable_exactly t u).1 (converts_materializes c))

-- The reference converts no function: its range's conversion is 01's ("function with equal arguments and materializable range").
from_no_function : {s t : Tree} → Converts s t → is_function s ≡ false
from_no_function pos_to_nat = refl
from_no_function nat_to_int = refl
from_no_function int_to_real = refl
from_no_function (fset_to_set s) = refl
from_no_function (fbag_to_bag s) = refl

pub no_conversion_of_functions : {ss : Trees} {r t : Tree} → Converts (function ss r) t → ⊥
no_conversion_of_functions c = false≢true (sym (from_no_function c))

pub functions_widen_to_themselves : {ss : Trees} {r t : Tree} → Widens (function ss r) t → t ≡ function ss r
functions_widen_to_themselves stays = refl
functions_widen_to_themselves (then w c) = absurd (no_conversion_of_functions (rw (functions_widen_to_themselves w) at c))

-- From the tables to the reference, once for flat sorts and operators: put makes the sort of a head.
record Lower {A : Type 0} (family level : A → ℕ) (put : A → Tree) (b : A) (l : ℕ) : Type 0 where
  head : A
  one_family : family head ≡ family b
  at_level : level head ≡ l
  converts : Converts (put head) (put b)

module _ {A : Type 0} (family level : A → ℕ) (injective : (a b : A) → family a ≡ family b → level a ≡ level b → a ≡ b) (put : A → Tree)
    (lower : (b : A) (l : ℕ) → level b ≡ suc l → Lower family level put b l) where
  climb : (k : ℕ) (a b : A) → family a ≡ family b → level a + k ≡ level b → Widens (put a) (put b)
  climb zero a b e f = rw (injective a b e (omega arith)) stays
  climb (suc k) a b e f =
      let c = lower b (level a + k) (omega arith) in
      then (climb k a c.head (e ∙ sym c.one_family) (sym c.at_level)) c.converts

  head_widens : (a b : A) → le_head family level true a b ≡ true → Widens (put a) (put b)
  head_widens a b e = let h = (head_exactly family level true a b).0 e in climb (level b - level a) a b h.0 (omega arith)

lower_flat : (b : Flat) (l : ℕ) → level b ≡ suc l → Lower family level flat b l
unfolding family level
lower_flat unit l e = absurd (omega arith)
lower_flat (primitive Sort.Bool) l e = absurd (omega arith)
lower_flat (primitive Sort.Pos) l e = absurd (omega arith)
lower_flat (primitive Sort.Nat) l e = record { head = primitive Sort.Pos; one_family = refl; at_level = omega arith; converts = pos_to_nat }
lower_flat (primitive Sort.Int) l e = record { head = primitive Sort.Nat; one_family = refl; at_level = omega arith; converts = nat_to_int }
lower_flat (primitive Sort.Real) l e = record { head = primitive Sort.Int; one_family = refl; at_level = omega arith; converts = int_to_real }
lower_flat (def n) l e = absurd (omega arith)
lower_flat (typevar n) l e = absurd (omega arith)

lower_op : (s : Tree) (p : ComplexSort) (l : ℕ) → level_op p ≡ suc l → Lower family_op level_op (λ o. container o s) p l
unfolding family_op level_op
lower_op s ComplexSort.List l e = absurd (omega arith)
lower_op s ComplexSort.Set l e = record { head = ComplexSort.FSet; one_family = refl; at_level = omega arith; converts = fset_to_set s }
lower_op s ComplexSort.FSet l e = absurd (omega arith)
lower_op s ComplexSort.Bag l e = record { head = ComplexSort.FBag; one_family = refl; at_level = omega arith; converts = fbag_to_bag s }
lower_op s ComplexSort.FBag l e = absurd (omega arith)

flat_widens : (a b : Flat) → le_flat true a b ≡ true → Widens (flat a) (flat b)
flat_widens = head_widens family level flat_injective flat lower_flat

op_widens : (o p : ComplexSort) (s : Tree) → le_op true o p ≡ true → Widens (container o s) (container p s)
op_widens o p s = head_widens family_op level_op op_injective (λ o. container o s) (lower_op s) o p

materializes_widens : {s t : Tree} → is_function s ≡ false → Materializes s t → Widens s t
materializes_widens i (number h) = flat_widens _ _ h
materializes_widens i (operator h) = op_widens _ _ _ h
materializes_widens i (range p) = absurd (false≢true (sym i))

-- `materializable` and the reference's conversions, between any sorts of which the first is no function.
pub materializable_exactly_widens : (s t : Tree) → is_function s ≡ false → (materializable s t ≡ true) ↔ Widens s t
materializable_exactly_widens s t i = (λ e. materializes_widens i ((materializable_exactly s t).0 e), widens_materializable)

-- The order of flat sorts and the reference's conversions.
pub flat_exactly_widens : (a b : Flat) → (le true (flat a) (flat b) ≡ true) ↔ Widens (flat a) (flat b)
unfolding le materializable
flat_exactly_widens a b = (flat_widens a b, widens_materializable)

-- The order of container operators and the reference's conversions, over one part.
pub op_exactly_widens : (o p : ComplexSort) (s : Tree) → (le_op true o p ≡ true) ↔ Widens (container o s) (container p s)
unfolding materializable
op_exactly_widens o p s = (op_widens o p s, λ w. ((and-eq-true_iff _ _).0 (widens_materializable w)).0)

-- The order of containers over one part and the reference's conversions.
pub container_exactly_widens : (o p : ComplexSort) (s : Tree) → (le true (container o s) (container p s) ≡ true) ↔ Widens (container o s) (container p s)
unfolding le
container_exactly_widens o p s = rw (le_refl true s, and-true) (op_exactly_widens o p s)

-- The whole order is the closure of the reference's conversions under containers and functions. The rules of the order in
-- either direction: a head's levels are a chain of conversions, parts and ranges go the same way, arguments the other.
widens_closure : {s t : Tree} → Widens s t → Closure s t
widens_closure stays = nothing
widens_closure (then w c) = and_then (widens_closure w) (one c)

converts_le : {s t : Tree} → Converts s t → le true s t ≡ true
converts_le {s} {t} c = materializable_below s t ((materializable_exactly s t).1 (converts_materializes c))

-- the closure in a direction
abbrev Toward : Bool → Tree → Tree → Type 0
Toward true s t = Closure s t
Toward false s t = Closure t s

abbrev Towards : Bool → Trees → Trees → Type 0
Towards true ss ts = Closures ss ts
Towards false ss ts = Closures ts ss

flat_toward : (up : Bool) (a b : Flat) → le_flat up a b ≡ true → Toward up (flat a) (flat b)
flat_toward true a b h = widens_closure (flat_widens a b h)
flat_toward false a b h = widens_closure (flat_widens b a (head_flips family level true b a ∙ h))

container_toward : (up : Bool) (o p : ComplexSort) (s t : Tree) → le_op up o p ≡ true → Toward up s t → Toward up (container o s) (container p t)
container_toward true o p s t h k = and_then (in_part k) (widens_closure (op_widens o p t h))
container_toward false o p s t h k = and_then (in_part k) (widens_closure (op_widens p o s (head_flips family_op level_op true p o ∙ h)))

function_toward : (up : Bool) (ss ts : Trees) (r u : Tree) → Towards (not up) ss ts → Toward up r u → Toward up (function ss r) (function ts u)
function_toward true ss ts r u hs h = in_function hs h
function_toward false ss ts r u hs h = in_function hs h

arg_towards : (up : Bool) (s t : Tree) (ss ts : Trees) → Toward up s t → Towards up ss ts → Towards up (arg s ss) (arg t ts)
arg_towards true s t ss ts h hs = both h hs
arg_towards false s t ss ts h hs = both h hs

none_towards : (up : Bool) → Towards up no_args no_args
none_towards true = no_more
none_towards false = no_more

mutual
  le_toward : {up : Bool} {s t : Tree} → Le up s t → Toward up s t
  le_toward {up} (flats h) = flat_toward up _ _ h
  le_toward {up} (containers h p) = container_toward up _ _ _ _ h (le_toward p)
  le_toward {up} (functions ps p) = function_toward up _ _ _ _ (les_towards ps) (le_toward p)

  les_towards : {up : Bool} {ss ts : Trees} → Les up ss ts → Towards up ss ts
  les_towards {up} ends = none_towards up
  les_towards {up} (args p ps) = arg_towards up _ _ _ _ (le_toward p) (les_towards ps)

mutual
  unfolding le

  closure_le : {s t : Tree} → Closure s t → le true s t ≡ true
  closure_le (nothing {s}) = le_refl true s
  closure_le (one c) = converts_le c
  closure_le (and_then {s} {t} {u} h k) = le_trans true s t u (closure_le h) (closure_le k)
  closure_le (in_part {o} h) = (and-eq-true_iff _ _).1 (head_refl family_op level_op true o, closure_le h)
  closure_le (in_function {ss} {ts} hs h) = (and-eq-true_iff _ _).1 (les_flips false ss ts ∙ closures_les hs, closure_le h)

  closures_les : {ss ts : Trees} → Closures ss ts → les true ss ts ≡ true
  closures_les no_more = refl
  closures_les (both h hs) = (and-eq-true_iff _ _).1 (closure_le h, closures_les hs)

pub order_is_the_closure_of_conversions : (s t : Tree) → (le true s t ≡ true) ↔ Closure s t
order_is_the_closure_of_conversions s t = (λ e. le_toward ((le_exactly true s t).0 e), closure_le)
