-- Checks 1, 5, 6, 7, 12 and 14 over nodes, bindings and places, each true where the check passes.
use Rattle.std.specs.Prelude.{Bool, true, cond, ◌&&◌, List, [], ◌∷◌, ◌++◌, ℕ, ◌+◌, length, eqb, leb, ltb}
use Rattle.std.proofs.Math.Option.{Option, none, some}
use Rattle.resolved_sort.specs.declared.Refusal.TheVariants.{NotLent, BadNode, BadBinding, Cyclic, NotInList, TooShort}
use Rattle.resolved_sort.specs.Storage.{max_arguments, first_container, function_kind}
use Rattle.resolved_sort.specs.Checks.{all_below, storage_within, within_lent, sort_row_checks, at_ceiling, Check}
use Rattle.unification.specs.declared.InferSort.{InferSort}
use Rattle.unification.specs.declared.InferSort.TheVariants.{Generic, Function, Var}
use Rattle.unification.specs.Nodes.{max_nodes, max_vars, full_nodes, node_kind_at}
use Rattle.unification.specs.Nodes.{node_entry_at, variable_kind, node_at, is_place, binds_of}
use Rattle.unification.specs.Acyclic.{acyclic}

-- 1. "A given list is above its ceiling or longer than the storage lent for it."
unfoldable pub nodes_within_lent : List ℕ → ℕ → ℕ → Bool
nodes_within_lent ns m d = storage_within max_nodes ns m d

unfoldable pub bindings_within_lent : List ℕ → ℕ → Bool
bindings_within_lent bs v = leb v max_vars && leb v (length bs)

-- 5. "A node has an unknown kind, more than 16 arguments, a run leaving its list, a variable not below the variable
-- count, or a part that is neither a sort nor a lower node."
unfoldable pub node_parts_fine : List ℕ → ℕ → ℕ → ℕ → ℕ → InferSort → Bool
node_parts_fine ns d n v i (Generic op subsort) = is_place n i subsort.0
node_parts_fine ns d n v i (Function domain range) =
    leb domain.count max_arguments
    && leb (domain.start + domain.count) d
    && is_place n i range.0
    && all_below domain.count (λ j. is_place n i (node_entry_at ns (domain.start + j)))
node_parts_fine ns d n v i (Var u) = ltb u.0 v

-- kinds: 6 to 10 a container, 11 a function, 14 a variable
unfoldable pub node_kind_fine : ℕ → Bool
node_kind_fine k = cond (eqb k variable_kind) true (leb first_container k && leb k function_kind)

unfoldable pub node_fine : List ℕ → ℕ → ℕ → ℕ → ℕ → Bool
node_fine ns d n v i = node_kind_fine (node_kind_at ns i) && node_parts_fine ns d n v i (node_at ns i)

unfoldable pub nodes_fine : List ℕ → ℕ → ℕ → ℕ → ℕ → Bool
nodes_fine ns m d n v = all_below m (node_fine ns d n v)

-- 6. "A binding names neither a sort nor a node."
abbrev pub binding_fine : ℕ → ℕ → Option ℕ → Bool
binding_fine n m none = true
binding_fine n m (some q) = is_place n m q

unfoldable pub bindings_fine : ℕ → ℕ → List (Option ℕ) → Bool
bindings_fine n m [] = true
bindings_fine n m (b ∷ B) = binding_fine n m b && bindings_fine n m B

-- checks 5 to 7 of the nodes and bindings given
unfoldable pub node_checks : List ℕ → ℕ → ℕ → ℕ → List ℕ → ℕ → List Check
node_checks ns m d n bs v =
    record { refusal = BadNode; passes = nodes_fine ns m d n v }
    ∷ record { refusal = BadBinding; passes = bindings_fine n m (binds_of bs v) }
    ∷ record { refusal = Cyclic; passes = acyclic ns m (binds_of bs v) } ∷ []

-- 12. "a sort or place asked about, is not in its list", and 14 with the nodes at their ceiling as well
unfoldable pub place_checks : List ℕ → ℕ → List ℕ → ℕ → ℕ → ℕ → List Check
place_checks ws n ns m l r =
    record { refusal = NotInList; passes = is_place n m l && is_place n m r }
    ∷ record { refusal = TooShort; passes = at_ceiling ws && leb full_nodes (length ns) } ∷ []

-- the checks of unify as an entry, in order
unfoldable pub unify_checks : List ℕ → ℕ → ℕ → List ℕ → ℕ → ℕ → List ℕ → ℕ → ℕ → ℕ → List Check
unify_checks ws n e ns m d bs v l r =
    record { refusal = NotLent; passes = within_lent ws n e && nodes_within_lent ns m d && bindings_within_lent bs v }
    ∷ sort_row_checks ws n e
    ++ node_checks ns m d n bs v
    ++ place_checks ws n ns m l r
