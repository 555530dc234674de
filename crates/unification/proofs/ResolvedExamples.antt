-- Resolve computed on small lists: the six fixed sorts, and five nodes. Node 0 is the variable 0 and node 1 the variable 1 (places 1024, 1025), node 2
-- is Set(v0), node 3 is List(Nat), node 4 is List(Nat) # v1 -> Bool. Assumes nothing.
use mathlib.Core.Path.{◌≡◌, refl}
use mathlib.Core.List.{List, [], ◌∷◌, ◌++◌}
use mathlib.Core.Option.{none, some}
use Prim.Native.Nat.{ℕ}
use lib.ListN.{replicate}
use Rattle.resolved_sort.specs.declared.Sort.{Sort}
use Rattle.resolved_sort.specs.declared.ComplexSort.{ComplexSort}
use Rattle.resolved_sort.specs.Tree.{unit, primitive, Tree, flat, container, function, no_args, arg}
use Rattle.resolved_sort.specs.Tree as Tree
use Rattle.resolved_sort.specs.Interning.{Sorts, made, nothing, full}
use Rattle.resolved_sort.specs.Interning as Interning
use Rattle.resolved_sort.specs.Storage.{sorts_of}
use Rattle.resolved_sort.specs.Storage as Storage
use Rattle.unification.specs.Nodes.{Lists, shape_at, Binds}
use Rattle.unification.specs.Nodes as Nodes
use Rattle.unification.specs.Solutions as Solutions
use Rattle.unification.specs.Resolve.{resolve, resolve_or_default}
use Rattle.unification.specs.Resolve as Resolve
use Rattle.unification.proofs.Examples.{row}

sorts : List ℕ
sorts = row 0 0 0 0 (row 1 0 0 0 (row 2 0 0 0 (row 3 0 0 0 (row 4 0 0 0 (row 5 0 0 0 [])))))

nodes : List ℕ
nodes = row 14 0 0 0 (row 14 1 0 0 (row 7 1024 0 0 (row 6 3 0 0 (row 11 1 0 2 (replicate 8172 0))))) ++ (1027 ∷ 1025 ∷ [])

lists : Lists
lists = record { sorts = sorts; sort_count = 6; nodes = nodes; node_count = 5 }

free : Binds
free = none ∷ none ∷ []

-- v0 is v1, which is Nat
bound : Binds
bound = some 1025 ∷ some 3 ∷ []

nat : Tree
nat = flat (primitive Sort.Nat)

set_of_nat : Tree
set_of_nat = container ComplexSort.Set nat

list_of_nat : Tree
list_of_nat = container ComplexSort.List nat

over_nat : Tree
over_nat = function (arg list_of_nat (arg nat no_args)) (flat (primitive Sort.Bool))

six : List Tree
six = flat unit ∷ flat (primitive Sort.Bool) ∷ flat (primitive Sort.Pos) ∷ nat ∷ flat (primitive Sort.Int) ∷ flat (primitive Sort.Real) ∷ []

given : Sorts
given = sorts_of sorts 6 0

-- the sorts made after the six, with the room then left
made_then : List Tree → ℕ → ℕ → Sorts
made_then us rows entries = record { trees = six ++ us; rows = rows; entries = entries }

-- a sort is found; a free variable is none, or the default; Set(v0) through the bindings; the function with v1 free, with the default and bound;
-- Set(v0) again, in the list that was left; and out of room, for a row and for entries, with what was made before
answers : (resolve (shape_at lists) free 3 given
    ∷ resolve (shape_at lists) free 1024 given
    ∷ resolve_or_default (shape_at lists) free 1024 nat given
    ∷ resolve (shape_at lists) bound 1024 given
    ∷ resolve (shape_at lists) bound 1026 given
    ∷ resolve (shape_at lists) free 1028 given
    ∷ resolve_or_default (shape_at lists) free 1028 nat given
    ∷ resolve (shape_at lists) bound 1028 given
    ∷ resolve (shape_at lists) bound 1026 (made_then (set_of_nat ∷ []) 1017 4096)
    ∷ resolve (shape_at lists) bound 1026 (made_then [] 0 4096)
    ∷ resolve (shape_at lists) bound 1028 (made_then [] 9 1)
    ∷ [])
    ≡ (made nat (made_then [] 1018 4096)
    ∷ nothing (made_then [] 1018 4096)
    ∷ made nat (made_then [] 1018 4096)
    ∷ made nat (made_then [] 1018 4096)
    ∷ made set_of_nat (made_then (set_of_nat ∷ []) 1017 4096)
    ∷ nothing (made_then (list_of_nat ∷ []) 1017 4096)
    ∷ made over_nat (made_then (list_of_nat ∷ over_nat ∷ []) 1016 4094)
    ∷ made over_nat (made_then (list_of_nat ∷ over_nat ∷ []) 1016 4094)
    ∷ made set_of_nat (made_then (set_of_nat ∷ []) 1017 4096)
    ∷ full (made_then [] 0 4096)
    ∷ full (made_then (list_of_nat ∷ []) 8 1)
    ∷ [])
unfolding lists sorts nodes row free bound nat set_of_nat list_of_nat over_nat six given made_then shape_at Nodes.is_place
    Nodes.sort_shape Nodes.node_shape Nodes.inferred Nodes.node_entries_of Storage.resolved Storage.entries_of
    Storage.trees Storage.tree_of Storage.look_all Interning.look Interning.member Interning.need Interning.intern
    Tree.same Tree.family Tree.level Tree.family_op Tree.level_op Tree.arity Solutions.value_to Resolve.firsts
    Resolve.tree_over Resolve.resolve_term
answers = refl
