-- Checks 1, 5 and 6, test by test. Assumes nothing.
use mathlib.Core.Path.{◌≡◌, refl, ap, sym, ◌∙◌}
use mathlib.Core.List.{List, [], ◌∷◌}
use mathlib.Core.Option.{none, some}
use mathlib.Core.Bool.{Bool, true, cond, ◌&&◌}
use Prim.Native.Nat.{ℕ, zero, suc, ◌-◌, ◌<◌, ◌≤◌}
use lib.ListN.{get_or}
use lib.Dec.{ltb}
use borrow.Author.Tests.{lt-ltb, le-ltb, eq-eqb, ne_eqb}
use Rattle.resolved_sort.specs.Checks.{all_below}
use Rattle.unification.specs.Nodes.{is_place, free_word, binding_of, binds_of}
use Rattle.unification.specs.NodeChecks.{binding_fine, bindings_fine}
use Rattle.node_checks.proofs.Fronts.{from_front}

-- a place
pub sort_place : (n m p : ℕ) → p < 1024 → ltb p n ≡ is_place n m p
unfolding is_place
sort_place n m p l = sym (rw (lt-ltb p 1024 l))

pub node_place : (n m p : ℕ) → 1024 ≤ p → ltb (p - 1024) m ≡ is_place n m p
unfolding is_place
node_place n m p l = sym (rw (le-ltb p 1024 l))

-- check 6
pub free_fine : (n m w : ℕ) → w ≡ free_word → true ≡ binding_fine n m (binding_of w)
free_fine n m w e = sym (ap (λ b. binding_fine n m (cond b none (some w))) (eq-eqb w free_word e))

pub bound_fine : (n m w : ℕ) → (w ≡ free_word → ⊥) → (r : Bool) → r ≡ is_place n m w → r ≡ binding_fine n m (binding_of w)
bound_fine n m w d r x = x ∙ sym (ap (λ b. binding_fine n m (cond b none (some w))) (ne_eqb w free_word d))

pub all_fine : (n m : ℕ) (bs : List ℕ) (v : ℕ) → all_below v (λ i. binding_fine n m (binding_of (get_or bs i 0))) ≡ bindings_fine n m (binds_of bs v)
unfolding all_below bindings_fine binds_of
all_fine n m bs zero = refl
all_fine n m [] (suc v) = from_front v _ ∙ ap (λ b. binding_fine n m (binding_of 0) && b) (all_fine n m [] v)
all_fine n m (w ∷ bs) (suc v) = from_front v _ ∙ ap (λ b. binding_fine n m (binding_of w) && b) (all_fine n m bs v)

-- each way through the code of a check
pub ruleset bindings = (free_fine, bound_fine)
