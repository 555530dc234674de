-- Where nothing is bound the bindings are acyclic: a free variable is settled in any round, so that all are after the first; and where there is no
-- variable, all are before it. By induction over the bindings. Assumes nothing.
use mathlib.Core.Path.{◌≡◌, refl, ap, sym, ◌∙◌}
use mathlib.Core.List.{List, [], ◌∷◌}
use mathlib.Core.Option.{Option, none, some}
use mathlib.Core.Bool.{Bool, true, ◌&&◌, and-eq-true_iff}
use Prim.Native.Nat.{ℕ, zero, suc}
use lib.ListN.{length, get_or}
use Rattle.resolved_sort.specs.Checks.{all_below}
use Rattle.unification.specs.Nodes.{Binds, binding_of, binds_of}
use Rattle.unification.specs.Acyclic.{binding_settled, nodes_settled, vars_settled, rounds, all_true, acyclic}
use Rattle.node_checks.specs.Inner.Tests.{is_free, nothing_bound}
use Rattle.node_checks.proofs.Fronts.{from_front}

-- a free variable is settled
free_is_settled : (ms : List Bool) (b : Option ℕ) → is_free b ≡ true → binding_settled ms b ≡ true
free_is_settled ms none e = refl
free_is_settled ms (some q) e = cc

unbound_are_settled : (ms : List Bool) (B : Binds) → nothing_bound B ≡ true → all_true (vars_settled ms B) ≡ true
unfolding nothing_bound vars_settled all_true
unbound_are_settled ms [] e = refl
unbound_are_settled ms (b ∷ B) e =
    let x = (and-eq-true_iff (is_free b) (nothing_bound B)).0 e in
    (and-eq-true_iff (binding_settled ms b) (all_true (vars_settled ms B))).1 (free_is_settled ms b x.0, unbound_are_settled ms B x.1)

pub unbound_is_acyclic : (ns : List ℕ) (m : ℕ) (B : Binds) → nothing_bound B ≡ true → true ≡ acyclic ns m B
unfolding acyclic rounds all_true
unbound_is_acyclic ns m [] e = refl
unbound_is_acyclic ns m (b ∷ B) e =
    sym (unbound_are_settled (nodes_settled ns (rounds ns m (b ∷ B) (length B)) m) (b ∷ B) e)

-- the code's test of the words is that of the bindings
pub all_free : (bs : List ℕ) (v : ℕ) → all_below v (λ i. is_free (binding_of (get_or bs i 0))) ≡ nothing_bound (binds_of bs v)
unfolding all_below nothing_bound binds_of
all_free bs zero = refl
all_free [] (suc v) = from_front v _ ∙ ap (λ b. is_free (binding_of 0) && b) (all_free [] v)
all_free (w ∷ bs) (suc v) = from_front v _ ∙ ap (λ b. is_free (binding_of w) && b) (all_free bs v)
