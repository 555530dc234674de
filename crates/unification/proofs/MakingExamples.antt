-- Strictly related sorts computed on small lists that pass their checks: for each place asked about the answer, with all of the storage as it is then.
-- So the cases show what is made, in which order and where, and that nothing else changes. Assumes nothing.
use mathlib.Core.Path.{◌≡◌, refl}
use mathlib.Core.Bool.{Bool, true, false}
use mathlib.Core.List.{List, [], ◌∷◌, ◌++◌, map}
use mathlib.Core.Option.{none, some}
use Prim.Native.Nat.{ℕ, zero, suc, ◌+◌, ◌-◌, ◌/◌}
use lib.ListN.{length, replicate}
use Rattle.std.specs.Prelude.{Ok}
use Rattle.resolved_sort.specs.Tree as Tree
use Rattle.resolved_sort.specs.Interning as Interning
use Rattle.resolved_sort.specs.Storage as Storage
use Rattle.resolved_sort.specs.Entries as Entries
use Rattle.resolved_sort.specs.Bounds as Bounds
use Rattle.resolved_sort.specs.Checks.{first_failing}
use Rattle.resolved_sort.specs.Checks as Checks
use Rattle.unification.specs.Nodes.{Binds, binds_of}
use Rattle.unification.specs.Nodes as Nodes
use Rattle.unification.specs.NodeChecks.{unify_checks}
use Rattle.unification.specs.NodeChecks as NodeChecks
use Rattle.unification.specs.Acyclic as Acyclic
use Rattle.unification.specs.Unify as Unify
use Rattle.unification.specs.Related as Related
use Rattle.unification.specs.Making.{Lent, Makes, made, no_list, no_room, strict_related, related_to}
use Rattle.unification.specs.Making as Making
use Rattle.unification.proofs.Examples.{row}

abbrev up : Bool
up = true

abbrev down : Bool
down = false

-- rows and entries at their places, zeros between
storage : ℕ → List ℕ → List ℕ → List ℕ
storage n rows entries = rows ++ (replicate (n - length rows) 0 ++ (entries ++ replicate (4096 - length entries) 0))

lent : List ℕ → List ℕ → List ℕ → List ℕ → Lent
lent rows entries nodes arguments =
    record {
      sorts = storage 4096 rows entries;
      nodes = storage 8192 nodes arguments;
      lengths = record { sorts = length rows / 4; entries = length entries; nodes = length nodes / 4; arguments = length arguments; variables = 4 };
    }

-- 0 to 5 unit, Bool, Pos, Nat, Int, Real; 6 List(Nat); 7 FSet(Nat); 8 Set(Nat); 9 FSet(Pos); 10 Bag(Nat); 11 Def; 12 TypeVar; 13 Bool -> Pos;
-- 14 Bool -> (Bool -> Pos); 15 a function without arguments to Nat; 16 Bool # Nat -> FSet(Pos); 17 Bool -> List(Nat)
sorts : List ℕ
sorts =
    row 0 0 0 0 (row 1 0 0 0 (row 2 0 0 0 (row 3 0 0 0 (row 4 0 0 0 (row 5 0 0 0
    (row 6 3 0 0 (row 8 3 0 0 (row 7 3 0 0 (row 8 2 0 0 (row 9 3 0 0 (row 12 5 0 0 (row 13 2 0 0
    (row 11 2 0 1 (row 11 13 1 1 (row 11 3 2 0 (row 11 9 2 2 (row 11 6 4 1 [])))))))))))))))))

entries : List ℕ
entries = 1 ∷ 1 ∷ 1 ∷ 3 ∷ 1 ∷ []

-- 0 to 3 the variables (places 1024 to 1027); 4 FSet(v0); 5 Set(v0); 6 FSet(Nat); 7 List(v0); 8 v0 -> v0; 9 v0 # Bool -> v1; 10 Bool -> node 8;
-- 11 a function without arguments to v1; 12 Bool -> node 9; 13 Bool -> node 4; 14 Pos -> sort 13
nodes : List ℕ
nodes =
    row 14 0 0 0 (row 14 1 0 0 (row 14 2 0 0 (row 14 3 0 0
    (row 8 1024 0 0 (row 7 1024 0 0 (row 8 3 0 0 (row 6 1024 0 0
    (row 11 1024 0 1 (row 11 1025 1 2 (row 11 1032 3 1 (row 11 1025 4 0 (row 11 1033 4 1 (row 11 1028 5 1 (row 11 13 6 1 []))))))))))))))

arguments : List ℕ
arguments = 1024 ∷ 1024 ∷ 1 ∷ 1 ∷ 1 ∷ 1 ∷ 2 ∷ []

-- v0 is free, v1 is Nat, v2 is node 9, v3 is v2
binds : Binds
binds = none ∷ some 3 ∷ some 1033 ∷ some 1026 ∷ []

-- a place asked about, in a direction, and the answer
abbrev Case : Type 0
Case = Bool × ℕ × Makes (List ℕ)

asked : Lent → List Case → List (Makes (List ℕ))
unfolding strict_related related_to Making.append_node Making.push_node Making.intern_container Making.push_functions
    Related.related_numbers Related.related_container Unify.follow Nodes.shape_at Nodes.is_place Nodes.sort_shape
    Nodes.node_shape Nodes.inferred Nodes.node_entries_of Storage.resolved Storage.entries_of Storage.kind_flat
    Storage.kind_op Storage.part_flat Storage.put_row Storage.append_row Storage.written Storage.row_of Storage.numbers
    Storage.trees Storage.tree_of Storage.look_all Interning.look Interning.number Interning.member Interning.need
    Interning.intern Entries.stored Bounds.intern_at Tree.same Tree.family Tree.level Tree.family_op Tree.level_op
asked W cases = map (λ (c : Case). strict_related c.0 binds c.1 W) cases

answered : List Case → List (Makes (List ℕ))
answered cases = map (λ (c : Case). c.2) cases

given : Lent
given = lent sorts entries nodes arguments

-- the lists pass the checks of an entry
words : List ℕ
words = 65535 ∷ 3 ∷ 1033 ∷ 1026 ∷ []

accepted : (first_failing (unify_checks given.sorts 18 5 given.nodes 15 7 words 4 0 1038) ≡ Ok tt) × (binds_of words 4 ≡ binds)
unfolding row storage lent sorts entries nodes arguments binds given words first_failing unify_checks binds_of
    NodeChecks.nodes_within_lent NodeChecks.bindings_within_lent NodeChecks.node_parts_fine NodeChecks.node_kind_fine
    NodeChecks.node_fine NodeChecks.nodes_fine NodeChecks.bindings_fine NodeChecks.node_checks NodeChecks.place_checks
    Checks.all_below Checks.within_lent Checks.fixed_six Checks.parts_below Checks.row_fine_of Checks.rows_fine
    Checks.no_two_equal Checks.at_ceiling Acyclic.acyclic Acyclic.all_true Acyclic.rounds Acyclic.vars_settled
    Acyclic.nodes_settled Acyclic.all_settled Nodes.is_place Nodes.node_shape Nodes.inferred Nodes.node_entries_of
    Storage.resolved Storage.entries_of Storage.trees Storage.tree_of Storage.look_all Interning.look Interning.member
    Interning.distinct Tree.same Tree.family Tree.level Tree.family_op Tree.level_op
accepted = (refl, refl)

-- the answer with the storage given and so much more
makes : List ℕ → List ℕ → List ℕ → List ℕ → Makes (List ℕ)
makes places rows more-nodes more-arguments = made places (lent (sorts ++ rows) entries (nodes ++ more-nodes) (arguments ++ more-arguments))

only : List ℕ → Makes (List ℕ)
only places = made places given

-- numbers; then unit, Bool, List, Def and TypeVar
flats : List Case
flats =
    (up, 2, only (3 ∷ 4 ∷ 5 ∷ []))
    ∷ (up, 3, only (4 ∷ 5 ∷ []))
    ∷ (up, 4, only (5 ∷ []))
    ∷ (up, 5, only [])
    ∷ (down, 5, only (4 ∷ 3 ∷ 2 ∷ []))
    ∷ (down, 4, only (3 ∷ 2 ∷ []))
    ∷ (down, 3, only (2 ∷ []))
    ∷ (down, 2, only [])
    ∷ (up, 0, only [])
    ∷ (down, 0, only [])
    ∷ (up, 1, only [])
    ∷ (down, 1, only [])
    ∷ (up, 6, only [])
    ∷ (down, 6, only [])
    ∷ (up, 11, only [])
    ∷ (down, 11, only [])
    ∷ (up, 12, only [])
    ∷ (down, 12, only [])
    ∷ []

-- a container of sorts is found, or made at the end of the sorts
sort_containers : List Case
sort_containers =
    (up, 7, only (8 ∷ []))
    ∷ (down, 7, only [])
    ∷ (up, 8, only [])
    ∷ (down, 8, only (7 ∷ []))
    ∷ (up, 9, makes (18 ∷ []) (row 7 2 0 0 []) [] [])
    ∷ (up, 10, only [])
    ∷ (down, 10, makes (18 ∷ []) (row 10 3 0 0 []) [] [])
    ∷ []

-- of a container node a node is made, over a sort as over a variable
node_containers : List Case
node_containers =
    (up, 1028, makes (1039 ∷ []) [] (row 7 1024 0 0 []) [])
    ∷ (down, 1028, only [])
    ∷ (up, 1029, only [])
    ∷ (down, 1029, makes (1039 ∷ []) [] (row 8 1024 0 0 []) [])
    ∷ (up, 1030, makes (1039 ∷ []) [] (row 7 3 0 0 []) [])
    ∷ (up, 1031, only [])
    ∷ (down, 1031, only [])
    ∷ []

-- functions: one level; two levels, the inner ones first; without arguments; over a range that is interned first; over a range with an empty list
sort_functions : List Case
sort_functions =
    (up, 13, makes (1039 ∷ 1040 ∷ 1041 ∷ []) [] (row 11 3 7 1 (row 11 4 8 1 (row 11 5 9 1 []))) (1 ∷ 1 ∷ 1 ∷ []))
    ∷ (down, 13, only [])
    ∷ (
      up,
      14,
      makes (1042 ∷ 1043 ∷ 1044 ∷ []) []
          (row 11 3 7 1 (row 11 4 8 1 (row 11 5 9 1 (row 11 1039 10 1 (row 11 1040 11 1 (row 11 1041 12 1 [])))))) (1 ∷ 1 ∷ 1 ∷ 1 ∷ 1 ∷ 1 ∷ []),
    )
    ∷ (up, 15, makes (1039 ∷ 1040 ∷ []) [] (row 11 4 7 0 (row 11 5 7 0 [])) [])
    ∷ (down, 15, makes (1039 ∷ []) [] (row 11 2 7 0 []) [])
    ∷ (up, 16, makes (1039 ∷ []) (row 7 2 0 0 []) (row 11 18 7 2 []) (1 ∷ 3 ∷ []))
    ∷ (down, 16, only [])
    ∷ (up, 17, only [])
    ∷ []

-- the same of nodes; a range that is bound, and variables that are bound to a function or to a sort
node_functions : List Case
node_functions =
    (up, 1033, makes (1039 ∷ 1040 ∷ []) [] (row 11 4 7 2 (row 11 5 9 2 [])) (1024 ∷ 1 ∷ 1024 ∷ 1 ∷ []))
    ∷ (down, 1033, makes (1039 ∷ []) [] (row 11 2 7 2 []) (1024 ∷ 1 ∷ []))
    ∷ (up, 1026, makes (1039 ∷ 1040 ∷ []) [] (row 11 4 7 2 (row 11 5 9 2 [])) (1024 ∷ 1 ∷ 1024 ∷ 1 ∷ []))
    ∷ (down, 1027, makes (1039 ∷ []) [] (row 11 2 7 2 []) (1024 ∷ 1 ∷ []))
    ∷ (up, 1025, only (4 ∷ 5 ∷ []))
    ∷ (up, 1035, makes (1039 ∷ 1040 ∷ []) [] (row 11 4 7 0 (row 11 5 7 0 [])) [])
    ∷ (down, 1036, makes (1040 ∷ []) [] (row 11 2 7 2 (row 11 1039 9 1 [])) (1024 ∷ 1 ∷ 1 ∷ []))
    ∷ (up, 1037, makes (1040 ∷ []) [] (row 7 1024 0 0 (row 11 1039 7 1 [])) (1 ∷ []))
    ∷ (down, 1037, only [])
    ∷ (
      up,
      1038,
      makes (1042 ∷ 1043 ∷ 1044 ∷ []) []
          (row 11 3 7 1 (row 11 4 8 1 (row 11 5 9 1 (row 11 1039 10 1 (row 11 1040 11 1 (row 11 1041 12 1 [])))))) (1 ∷ 1 ∷ 1 ∷ 2 ∷ 2 ∷ 2 ∷ []),
    )
    ∷ []

-- a free variable, and functions whose final range is free: no list, and nothing made
free_ends : List Case
free_ends =
    (up, 1024, no_list given)
    ∷ (down, 1024, no_list given)
    ∷ (up, 1032, no_list given)
    ∷ (down, 1032, no_list given)
    ∷ (up, 1034, no_list given)
    ∷ (down, 1034, no_list given)
    ∷ []

-- with FBag(v0) and Bag(v0) as two more nodes
bags : List ℕ
bags = nodes ++ row 10 1024 0 0 (row 9 1024 0 0 [])

abbrev bag_cases : List Case
bag_cases =
    (up, 1039, made (1041 ∷ []) (lent sorts entries (bags ++ row 9 1024 0 0 []) arguments))
    ∷ (down, 1039, made [] (lent sorts entries bags arguments))
    ∷ (up, 1040, made [] (lent sorts entries bags arguments))
    ∷ (down, 1040, made (1041 ∷ []) (lent sorts entries (bags ++ row 10 1024 0 0 []) arguments))
    ∷ []

abbrev cases : List Case
cases = flats ++ sort_containers ++ node_containers ++ sort_functions ++ node_functions ++ free_ends

places_related : asked given cases ++ asked (lent sorts entries bags arguments) bag_cases ≡ answered (cases ++ bag_cases)
unfolding bags row storage lent sorts entries nodes arguments binds given asked answered makes only flats
    sort_containers node_containers sort_functions node_functions free_ends
places_related = refl

-- Where room ends. To fill lists: sorts that are all different, nodes of one variable.
defs : ℕ → List ℕ
defs zero = []
defs (suc n) = row 12 (100 + n) 0 0 (defs n)

variables : ℕ → List ℕ
variables zero = []
variables (suc n) = row 14 0 0 0 (variables n)

-- the lists with so many more sorts, nodes and argument entries of nodes
filled : ℕ → ℕ → ℕ → Lent
filled s n a = lent (sorts ++ defs s) entries (nodes ++ variables n) (arguments ++ replicate a 0)

-- 1,024 sorts and 2,048 nodes: 15 exactly where a new sort is needed, which is made before a node over it; else 16 exactly where a new node is needed
full : Lent
full = filled 1006 2033 0

full_cases : List Case
full_cases =
    (up, 9, no_room 15 full)
    ∷ (up, 7, made (8 ∷ []) full)
    ∷ (up, 16, no_room 15 full)
    ∷ (up, 13, no_room 16 full)
    ∷ (down, 13, made [] full)
    ∷ (up, 2, made (3 ∷ 4 ∷ 5 ∷ []) full)
    ∷ (up, 1028, no_room 16 full)
    ∷ (up, 1030, no_room 16 full)
    ∷ (up, 1035, no_room 16 full)
    ∷ (up, 1034, no_list full)
    ∷ []

-- 2,048 nodes and room for sorts: a sort made before the node stays
abbrev no_node : List Case
no_node =
    (up, 9, made (18 ∷ []) (lent (sorts ++ row 7 2 0 0 []) entries (nodes ++ variables 2033) arguments))
    ∷ (up, 16, no_room 16 (lent (sorts ++ row 7 2 0 0 []) entries (nodes ++ variables 2033) arguments))
    ∷ []

-- 2,046 nodes: two fit, and stay where a third is needed
abbrev two_nodes : List Case
two_nodes = (
  up,
  1033,
  made (3070 ∷ 3071 ∷ []) (lent sorts entries (nodes ++ variables 2031 ++ row 11 4 7 2 (row 11 5 9 2 []))
      (arguments ++ (1024 ∷ 1 ∷ 1024 ∷ 1 ∷ []))),
)
    ∷ (up, 13, no_room 16 (lent sorts entries (nodes ++ variables 2031 ++ row 11 3 7 1 (row 11 4 8 1 [])) (arguments ++ (1 ∷ 1 ∷ []))))
    ∷ []

-- 4,096 entries: 16 for a function with arguments, not for one without, nor for a container
abbrev no_entry : List Case
no_entry =
    (up, 13, no_room 16 (filled 0 0 4089))
    ∷ (down, 15, made (1039 ∷ []) (lent sorts entries (nodes ++ row 11 2 4096 0 []) (arguments ++ replicate 4089 0)))
    ∷ (up, 1028, made (1039 ∷ []) (lent sorts entries (nodes ++ row 7 1024 0 0 []) (arguments ++ replicate 4089 0)))
    ∷ []

-- 4,095 entries: two do not fit, one does, and stays
abbrev one_entry : List Case
one_entry =
    (down, 1033, no_room 16 (filled 0 0 4088))
    ∷ (up, 13, no_room 16 (lent sorts entries (nodes ++ row 11 3 4095 1 []) (arguments ++ replicate 4088 0 ++ (1 ∷ []))))
    ∷ []

room_ends : asked full full_cases ++ asked (filled 0 2033 0) no_node ++ asked (filled 0 2031 0) two_nodes ++ asked
    (filled 0 0 4089) no_entry ++ asked (filled 0 0 4088) one_entry
    ≡ answered (full_cases ++ no_node ++ two_nodes ++ no_entry ++ one_entry)
unfolding row storage lent sorts entries nodes arguments binds asked answered defs variables filled full full_cases
room_ends = refl
