-- Unify, check 7 and the entry computed on small lists. Nodes 0 to 3 are the variables 0 to 3 (places 1024 to 1027); sort 6 is List(Nat), sort 7 is
-- Nat # Pos -> Bool. Assumes nothing.
use mathlib.Core.Path.{◌≡◌, refl}
use mathlib.Core.Bool.{true, false}
use mathlib.Core.List.{List, [], ◌∷◌, ◌++◌, map}
use mathlib.Core.Option.{none, some}
use Prim.Native.Nat.{ℕ}
use lib.ListN.{replicate, set}
use Rattle.resolved_sort.specs.Tree as Tree
use Rattle.resolved_sort.specs.Interning as Interning
use Rattle.resolved_sort.specs.Storage as Storage
use Rattle.resolved_sort.specs.Checks as Checks
use Rattle.unification.specs.Term as Term
use Rattle.unification.specs.Nodes.{Lists, shape_at, Binds}
use Rattle.unification.specs.Nodes as Nodes
use Rattle.unification.specs.Unify.{Unifies, yes_with, no_way, unify}
use Rattle.unification.specs.Unify as Unify
use Rattle.unification.specs.Acyclic as Acyclic
use Rattle.unification.specs.NodeChecks as NodeChecks
use Rattle.unification.specs.UnifyEntry.{binds_left, unify_entry}
use Rattle.unification.specs.Trail.{undo}
use Rattle.unification.specs.UnifyEntry as UnifyEntry
use Rattle.std.specs.Prelude.{Ok, Err}
use Rattle.resolved_sort.specs.declared.Refusal.TheVariants.{NotLent, NotFixedSix, BadSort, EqualSorts, BadNode, BadBinding}
use Rattle.resolved_sort.specs.declared.Refusal.TheVariants.{Cyclic as CyclicBindings, NotInList, TooShort}

-- one row, in front of others
unfoldable pub row : ℕ → ℕ → ℕ → ℕ → List ℕ → List ℕ
row kind part start count ws = kind ∷ part ∷ start ∷ count ∷ ws

sorts : List ℕ
sorts =
    row 0 0 0 0 (row 1 0 0 0 (row 2 0 0 0 (row 3 0 0 0 (row 4 0 0 0 (row 5 0 0 0 (row 6 3 0 0 (row 11 1 0 2 (replicate 4064 0)))))))) ++ (3 ∷ 2 ∷ [])

-- 4: List(v0); 5: v0 # v1 -> v2; 6: List(node 4); 7: v1 # v1 -> v1; 8: another node of v0; 9: Set(v0); 10: v0 -> v1
nodes : List ℕ
nodes =
    row 14 0 0 0 (row 14 1 0 0 (row 14 2 0 0 (row 14 3 0 0
    (row 6 1024 0 0 (row 11 1026 0 2 (row 6 1028 0 0 (row 11 1025 2 2 (row 14 0 0 0 (row 7 1024 0 0 (row 11 1025 4 1 (replicate 8148 0)))))))))))
    ++ (1024 ∷ 1025 ∷ 1025 ∷ 1025 ∷ 1024 ∷ [])

lists : Lists
lists = record { sorts = sorts; sort_count = 8; nodes = nodes; node_count = 11 }

free : Binds
free = none ∷ none ∷ none ∷ none ∷ []

unifies : ℕ → ℕ → Unifies
unifies l r = unify (shape_at lists) free l r

-- from left to right
answers : map (λ (p : ℕ × ℕ). unifies p.0 p.1)
    ((3, 3) ∷ (3, 2) ∷ (1024, 3) ∷ (3, 1024) ∷ (1024, 1025) ∷ (1025, 1024) ∷ (1024, 1032) ∷ (1024, 1028) ∷ (1028, 6) ∷
    (6, 1028) ∷ (1029, 7) ∷ (1033, 6) ∷ (1029, 1031) ∷ (1034, 1029)
    ∷ [])
    ≡ (yes_with free
    ∷ no_way
    ∷ yes_with (some 3 ∷ none ∷ none ∷ none ∷ [])
    ∷ yes_with (some 3 ∷ none ∷ none ∷ none ∷ [])
    ∷ yes_with (some 1025 ∷ none ∷ none ∷ none ∷ [])
    ∷ yes_with (none ∷ some 1024 ∷ none ∷ none ∷ [])
    ∷ yes_with free
    ∷ no_way
    ∷ yes_with (some 3 ∷ none ∷ none ∷ none ∷ [])
    ∷ yes_with (some 3 ∷ none ∷ none ∷ none ∷ [])
    ∷ yes_with (some 3 ∷ some 2 ∷ some 1 ∷ none ∷ [])
    ∷ no_way
    ∷ yes_with (some 1025 ∷ none ∷ some 1025 ∷ none ∷ [])
    ∷ no_way
    ∷ [])
unfolding unifies lists sorts nodes free row shape_at Nodes.is_place Nodes.sort_shape Nodes.node_shape Nodes.inferred
    Nodes.node_entries_of Storage.resolved Storage.entries_of unify Unify.unify_to Unify.follow Unify.occurs Term.same_head
    Term.kind_head Term.number_head Storage.kind_flat Storage.part_flat Storage.kind_op
answers = refl

-- check 7 where nothing is bound; v0 is bound to List(List(v0)); to List(v0); v0 and v1 to each other's nodes; v0 to v1, v1 to v2 and v2 to a sort; v0
-- to another node of its own
bound : map (λ (b : Binds). Acyclic.acyclic nodes 11 b) (free ∷ (some 1030 ∷ none ∷ none ∷ none ∷ []) ∷
    (some 1028 ∷ none ∷ none ∷ none ∷ []) ∷ (some 1025 ∷ some 1024 ∷ none ∷ none ∷ []) ∷ (some 1025 ∷ some 1026 ∷ some
    7 ∷ none ∷ []) ∷ (some 1032 ∷ none ∷ none ∷ none ∷ []) ∷ [])
    ≡ true ∷ false ∷ false ∷ false ∷ true ∷ false ∷ []
unfolding nodes free row Acyclic.acyclic Acyclic.all_true Acyclic.rounds Acyclic.vars_settled Acyclic.nodes_settled
    Acyclic.all_settled Nodes.node_shape Nodes.inferred Nodes.node_entries_of
bound = refl

-- where v0 is bound to v1 and v3 to v2: ends are followed first, and what is bound to is the end
followed : map (λ (p : ℕ × ℕ). unify (shape_at lists) (some 1025 ∷ none ∷ none ∷ some 1026 ∷ []) p.0 p.1)
    ((1027, 1024) ∷ (1024, 3) ∷ (1026, 1027) ∷ (1025, 1028) ∷ [])
    ≡ (yes_with (some 1025 ∷ none ∷ some 1025 ∷ some 1026 ∷ [])
    ∷ yes_with (some 1025 ∷ some 3 ∷ none ∷ some 1026 ∷ [])
    ∷ yes_with (some 1025 ∷ none ∷ none ∷ some 1026 ∷ [])
    ∷ no_way
    ∷ [])
unfolding lists sorts nodes row shape_at Nodes.is_place Nodes.sort_shape Nodes.node_shape Nodes.inferred
    Nodes.node_entries_of Storage.resolved Storage.entries_of unify Unify.unify_to Unify.follow Unify.occurs Term.same_head
    Term.kind_head Term.number_head Storage.kind_flat Storage.part_flat Storage.kind_op
followed = refl

-- of the trail 1, 0, 2 the last two words undone: v0 and v2 are free, v1 and the word behind stay
freed : undo (1 ∷ 0 ∷ 2 ∷ []) 1 2 (3 ∷ 4 ∷ 5 ∷ 9 ∷ []) ≡ 65535 ∷ 4 ∷ 65535 ∷ 9 ∷ []
unfolding undo
freed = refl

-- The entry, with the storage at its full ceilings and two words behind the four variables.
full_sorts : List ℕ
full_sorts = sorts ++ replicate 4094 0

full_nodes : List ℕ
full_nodes = nodes ++ replicate 4091 0

none_bound : List ℕ
none_bound = 65535 ∷ 65535 ∷ 65535 ∷ 65535 ∷ 7 ∷ 9 ∷ []

v2_to_nat : List ℕ
v2_to_nat = 65535 ∷ 65535 ∷ 3 ∷ 65535 ∷ 7 ∷ 9 ∷ []

v0_to_its_list : List ℕ
v0_to_its_list = 1028 ∷ 65535 ∷ 65535 ∷ 65535 ∷ 7 ∷ 9 ∷ []

v3_to_no_place : List ℕ
v3_to_no_place = 65535 ∷ 65535 ∷ 65535 ∷ 1035 ∷ 7 ∷ 9 ∷ []

-- lists with a fault: two Pos where Bool and Pos should be; sort 6 with itself as part; sort 6 Bool again; node 4 of no kind
two_pos : List ℕ
two_pos = set full_sorts 4 2

own_part : List ℕ
own_part = set full_sorts 25 6

bool_twice : List ℕ
bool_twice = set full_sorts 24 1

no_kind : List ℕ
no_kind = set full_nodes 16 5

-- A yes binds and leaves the words behind. A no has bound v0 and v1 before it finds Nat for Bool, and gives them back.
entry_answers : unify_entry full_sorts 8 2 full_nodes 11 5 none_bound 4 1029 7 ∷ unify_entry full_sorts 8 2 full_nodes
    11 5 none_bound 4 6 1028 ∷ unify_entry full_sorts 8 2 full_nodes 11 5 v2_to_nat 4 1029 7 ∷ []
    ≡ binds_left (3 ∷ 2 ∷ 1 ∷ 65535 ∷ 7 ∷ 9 ∷ []) (Ok true) ∷ binds_left (3 ∷ 65535 ∷ 65535 ∷ 65535 ∷ 7 ∷ 9 ∷ []) (Ok true) ∷ binds_left v2_to_nat (Ok false) ∷ []
unfolding full_sorts full_nodes none_bound v2_to_nat row sorts nodes unify_entry UnifyEntry.binds_left_by
    UnifyEntry.binding_words Nodes.binds_of NodeChecks.unify_checks Checks.first_failing NodeChecks.nodes_within_lent
    NodeChecks.bindings_within_lent NodeChecks.node_parts_fine NodeChecks.node_kind_fine NodeChecks.node_fine
    NodeChecks.nodes_fine NodeChecks.bindings_fine NodeChecks.node_checks NodeChecks.place_checks Checks.all_below
    Checks.within_lent Checks.fixed_six Checks.parts_below Checks.row_fine_of Checks.rows_fine Checks.no_two_equal
    Checks.at_ceiling Acyclic.acyclic Acyclic.all_true Acyclic.rounds Acyclic.vars_settled Acyclic.nodes_settled
    Acyclic.all_settled shape_at Nodes.is_place Nodes.sort_shape Nodes.node_shape Nodes.inferred Nodes.node_entries_of
    Storage.resolved Storage.entries_of Storage.trees Storage.tree_of Storage.look_all Interning.look Interning.member
    Interning.distinct Tree.same Tree.family Tree.level Tree.family_op Tree.level_op unify Unify.unify_to Unify.follow
    Unify.occurs Term.same_head Term.kind_head Term.number_head Storage.kind_flat Storage.part_flat Storage.kind_op
entry_answers = refl

-- each refusal: 1 for each of the three lists, 2 to 6, 7, 12 for each place, 14 for each storage; the words are as given
refusals : unify_entry full_sorts 1025 2 full_nodes 11 5 none_bound 4 3 6
    ∷ unify_entry full_sorts 8 2 full_nodes 2049 5 none_bound 4 3 6
    ∷ unify_entry full_sorts 8 2 full_nodes 11 5 none_bound 7 3 6
    ∷ unify_entry two_pos 8 2 full_nodes 11 5 none_bound 4 3 6
    ∷ unify_entry own_part 8 2 full_nodes 11 5 none_bound 4 3 6
    ∷ unify_entry bool_twice 8 2 full_nodes 11 5 none_bound 4 3 6
    ∷ unify_entry full_sorts 8 2 no_kind 11 5 none_bound 4 3 6
    ∷ unify_entry full_sorts 8 2 full_nodes 11 5 v3_to_no_place 4 3 6
    ∷ unify_entry full_sorts 8 2 full_nodes 11 5 v0_to_its_list 4 3 6
    ∷ unify_entry full_sorts 8 2 full_nodes 11 5 none_bound 4 8 6
    ∷ unify_entry full_sorts 8 2 full_nodes 11 5 none_bound 4 3 1035
    ∷ unify_entry sorts 8 2 full_nodes 11 5 none_bound 4 3 6
    ∷ unify_entry full_sorts 8 2 nodes 11 5 none_bound 4 3 6
    ∷ []
    ≡ binds_left none_bound (Err NotLent)
    ∷ binds_left none_bound (Err NotLent)
    ∷ binds_left none_bound (Err NotLent)
    ∷ binds_left none_bound (Err NotFixedSix)
    ∷ binds_left none_bound (Err BadSort)
    ∷ binds_left none_bound (Err EqualSorts)
    ∷ binds_left none_bound (Err BadNode)
    ∷ binds_left v3_to_no_place (Err BadBinding)
    ∷ binds_left v0_to_its_list (Err CyclicBindings)
    ∷ binds_left none_bound (Err NotInList)
    ∷ binds_left none_bound (Err NotInList)
    ∷ binds_left none_bound (Err TooShort)
    ∷ binds_left none_bound (Err TooShort)
    ∷ []
unfolding full_sorts full_nodes none_bound v0_to_its_list v3_to_no_place two_pos own_part bool_twice no_kind row sorts
    nodes unify_entry UnifyEntry.binds_left_by UnifyEntry.binding_words Nodes.binds_of NodeChecks.unify_checks
    Checks.first_failing NodeChecks.nodes_within_lent NodeChecks.bindings_within_lent NodeChecks.node_parts_fine
    NodeChecks.node_kind_fine NodeChecks.node_fine NodeChecks.nodes_fine NodeChecks.bindings_fine NodeChecks.node_checks
    NodeChecks.place_checks Checks.all_below Checks.within_lent Checks.fixed_six Checks.parts_below Checks.row_fine_of
    Checks.rows_fine Checks.no_two_equal Checks.at_ceiling Acyclic.acyclic Acyclic.all_true Acyclic.rounds
    Acyclic.vars_settled Acyclic.nodes_settled Acyclic.all_settled shape_at Nodes.is_place Nodes.sort_shape Nodes.node_shape
    Nodes.inferred Nodes.node_entries_of Storage.resolved Storage.entries_of Storage.trees Storage.tree_of Storage.look_all
    Interning.look Interning.member Interning.distinct Tree.same Tree.family Tree.level Tree.family_op Tree.level_op
    unify Unify.unify_to Unify.follow Unify.occurs Term.same_head Term.kind_head Term.number_head Storage.kind_flat
    Storage.part_flat Storage.kind_op
refusals = refl

-- two faults at once: the first check that fails
first_faults : unify_entry two_pos 8 2 full_nodes 11 5 none_bound 513 3 6
    ∷ unify_entry two_pos 8 2 no_kind 11 5 none_bound 4 3 6
    ∷ unify_entry own_part 8 2 no_kind 11 5 none_bound 4 3 6
    ∷ unify_entry bool_twice 8 2 full_nodes 11 5 v0_to_its_list 4 3 6
    ∷ unify_entry full_sorts 8 2 no_kind 11 5 v3_to_no_place 4 3 6
    ∷ unify_entry full_sorts 8 2 full_nodes 11 5 v3_to_no_place 4 8 6
    ∷ unify_entry full_sorts 8 2 full_nodes 11 5 v0_to_its_list 4 8 6
    ∷ unify_entry sorts 8 2 nodes 11 5 v0_to_its_list 4 3 6
    ∷ unify_entry sorts 8 2 nodes 11 5 none_bound 4 3 8
    ∷ []
    ≡ binds_left none_bound (Err NotLent)
    ∷ binds_left none_bound (Err NotFixedSix)
    ∷ binds_left none_bound (Err BadSort)
    ∷ binds_left v0_to_its_list (Err EqualSorts)
    ∷ binds_left v3_to_no_place (Err BadNode)
    ∷ binds_left v3_to_no_place (Err BadBinding)
    ∷ binds_left v0_to_its_list (Err CyclicBindings)
    ∷ binds_left v0_to_its_list (Err CyclicBindings)
    ∷ binds_left none_bound (Err NotInList)
    ∷ []
unfolding full_sorts full_nodes none_bound v0_to_its_list v3_to_no_place two_pos own_part bool_twice no_kind row sorts
    nodes unify_entry UnifyEntry.binds_left_by UnifyEntry.binding_words Nodes.binds_of NodeChecks.unify_checks
    Checks.first_failing NodeChecks.nodes_within_lent NodeChecks.bindings_within_lent NodeChecks.node_parts_fine
    NodeChecks.node_kind_fine NodeChecks.node_fine NodeChecks.nodes_fine NodeChecks.bindings_fine NodeChecks.node_checks
    NodeChecks.place_checks Checks.all_below Checks.within_lent Checks.fixed_six Checks.parts_below Checks.row_fine_of
    Checks.rows_fine Checks.no_two_equal Checks.at_ceiling Acyclic.acyclic Acyclic.all_true Acyclic.rounds
    Acyclic.vars_settled Acyclic.nodes_settled Acyclic.all_settled shape_at Nodes.is_place Nodes.sort_shape Nodes.node_shape
    Nodes.inferred Nodes.node_entries_of Storage.resolved Storage.entries_of Storage.trees Storage.tree_of Storage.look_all
    Interning.look Interning.member Interning.distinct Tree.same Tree.family Tree.level Tree.family_op Tree.level_op
    unify Unify.unify_to Unify.follow Unify.occurs Term.same_head Term.kind_head Term.number_head Storage.kind_flat
    Storage.part_flat Storage.kind_op
first_faults = refl
