-- Sorts that have nothing in common are not related, have no distance and do not materialize. By the cases of `Unlike`, and
-- for functions by induction on the arguments. Assumes nothing.
use mathlib.Core.Path.{◌≡◌, refl, ap, ◌∙◌}
use mathlib.Core.Bool.{Bool, true, false, not, ◌&&◌, and-false}
use mathlib.Core.Option.{Option, none, some}
use Prim.Native.Nat.{ℕ, ◌+◌}
use borrow.Author.Tests.{ne_eqb}
use Rattle.std.specs.Prelude.{None}
use Rattle.resolved_sort.specs.Tree.{Tree, Trees, no_args, arg, arity}
use Rattle.resolved_sort.specs.Order.{le, les, order, ordering, Steps, distance, materializable}
use Rattle.resolved_sort.proofs.Numbers.{true_not_false}
use Rattle.resolved_sort.proofs.Distance.{distance_exists_exactly}
use Rattle.resolved_sort.proofs.Materializable.{materializable_below}
use Rattle.resolved_sort.proofs.Pairs.{Unlike, Unlike.flats, Unlike.flat_container, Unlike.flat_function}
use Rattle.resolved_sort.proofs.Pairs.{Unlike.container_flat, Unlike.container_function, Unlike.function_flat}
use Rattle.resolved_sort.proofs.Pairs.{Unlike.function_container, Unlike.functions}

-- runs of different lengths
pub les_of_lengths : (up : Bool) (ss ts : Trees) → (arity ss ≡ arity ts → ⊥) → les up ss ts ≡ false
unfolding le arity
les_of_lengths up no_args no_args h = absurd (h refl)
les_of_lengths up no_args (arg t ts) h = refl
les_of_lengths up (arg s ss) no_args h = refl
les_of_lengths up (arg s ss) (arg t ts) h = ap (◌&&◌ (le up s t)) (les_of_lengths up ss ts (λ e. h (ap (λ (k : ℕ). k + 1) e))) ∙ and-false (le up s t)

pub unlike_le : (up : Bool) {s t : Tree} → Unlike s t → le up s t ≡ false
unfolding le
unlike_le up (flats h) = rw (ne_eqb _ _ h)
unlike_le up flat_container = refl
unlike_le up flat_function = refl
unlike_le up container_flat = refl
unlike_le up container_function = refl
unlike_le up function_flat = refl
unlike_le up function_container = refl
unlike_le up (functions {ss} {ts} {r} {u} h) = rw (les_of_lengths (not up) ss ts h)

pub unlike_ordering : {s t : Tree} → Unlike s t → ordering s t ≡ None
unfolding ordering
unlike_ordering h = rw (unlike_le true h, unlike_le false h)

pub unlike_distance : (up : Bool) {s t : Tree} → Unlike s t → distance up s t ≡ none
unlike_distance up {s} {t} h = go (distance up s t) refl
  where
    go : (x : Option Steps) → distance up s t ≡ x → x ≡ none
    go none e = refl
    go (some d) e = absurd (true_not_false (le up s t) ((distance_exists_exactly up s t).0 (d, e)) (unlike_le up h))

pub unlike_materializable : {s t : Tree} → Unlike s t → materializable s t ≡ false
unlike_materializable {s} {t} h = go (materializable s t) refl
  where
    go : (x : Bool) → materializable s t ≡ x → x ≡ false
    go true e = absurd (true_not_false (le true s t) (materializable_below s t e) (unlike_le true h))
    go false e = refl
