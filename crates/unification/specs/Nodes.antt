-- The lent node storage, as that of sorts: rows of four words, kind, part, start and count, then the argument entries
-- at a fixed place. Parts are places: a sort below 1,024, else a node. Words past the counts are not looked at.
use Rattle.std.specs.Prelude.{Bool, cond, List, [], ◌∷◌, ◌++◌, ℕ, zero, suc, ◌+◌, ◌-◌, ◌*◌, get_or, eqb, ltb}
use Rattle.std.specs.Prelude.{Option as Found, Some, None}
use Rattle.std.proofs.Math.Option.{Option, none, some}
use Rattle.resolved_sort.specs.declared.ComplexSort.{ComplexSort}
use Rattle.resolved_sort.specs.declared.Run.{Run}
use Rattle.resolved_sort.specs.declared.ResolvedSort.{ResolvedSort}
use Rattle.resolved_sort.specs.declared.ResolvedSort.TheVariants.{Unit, Primitive, Container}
use Rattle.resolved_sort.specs.declared.ResolvedSort.TheVariants.{Function as SortFunction, Def, TypeVar}
use Rattle.resolved_sort.specs.Tree.{unit, primitive, def, typevar}
use Rattle.resolved_sort.specs.Storage.{max_sorts, row_words, first_container, function_kind, entries_of, row_at}
use Rattle.unification.specs.declared.InferSortId.{InferSortId}
use Rattle.unification.specs.declared.InferSort.{InferSort}
use Rattle.unification.specs.declared.InferSort.TheVariants.{Generic, Function, Var}
use Rattle.unification.specs.Term.{flat_head, container_head, function_head, stray_head, Shape, variable, over}

-- "2,048 nodes, .. 4,096 argument entries for sorts and as many for nodes, 512 variables"
abbrev pub max_nodes : ℕ
max_nodes = 2048

abbrev pub max_node_entries : ℕ
max_node_entries = 4096

abbrev pub max_vars : ℕ
max_vars = 512

-- places are the sorts and the nodes
abbrev pub max_places : ℕ
max_places = 3072

-- where the entries begin, after the rows of 2,048 nodes, and the length of the storage at its full ceiling
abbrev pub node_entries_at : ℕ
node_entries_at = 8192

abbrev pub full_nodes : ℕ
full_nodes = 12288

abbrev pub node_kind_at : List ℕ → ℕ → ℕ
node_kind_at ns i = get_or ns (row_words * i) 0

abbrev pub node_part_at : List ℕ → ℕ → ℕ
node_part_at ns i = get_or ns (row_words * i + 1) 0

abbrev pub node_start_at : List ℕ → ℕ → ℕ
node_start_at ns i = get_or ns (row_words * i + 2) 0

abbrev pub node_count_at : List ℕ → ℕ → ℕ
node_count_at ns i = get_or ns (row_words * i + 3) 0

abbrev pub node_entry_at : List ℕ → ℕ → ℕ
node_entry_at ns j = get_or ns (node_entries_at + j) 0

unfoldable pub node_entries_of : List ℕ → ℕ → ℕ → List ℕ
node_entries_of ns s zero = []
node_entries_of ns s (suc n) = node_entry_at ns s ∷ node_entries_of ns (s + 1) n

-- The kinds of nodes: 6 to 10 the containers and 11 function, as of sorts; 14 variable.
abbrev pub variable_kind : ℕ
variable_kind = 14

abbrev pub op_of_kind : ℕ → ComplexSort
op_of_kind k =
    get_or (ComplexSort.List ∷ ComplexSort.Set ∷ ComplexSort.FSet ∷ ComplexSort.Bag ∷ []) (k - first_container)
    ComplexSort.FBag

-- What a row of these words says.
unfoldable pub inferred : ℕ → ℕ → Run → InferSort
inferred kind part run =
    cond (eqb kind function_kind) (Function run (record { 0 = part }))
    (cond (ltb kind function_kind) (Generic (op_of_kind kind) (record { 0 = part })) (Var (record { 0 = part })))

abbrev pub node_at : List ℕ → ℕ → InferSort
node_at ns i =
    inferred (node_kind_at ns i) (node_part_at ns i)
    (record { start = node_start_at ns i; count = node_count_at ns i })

-- the shape of a sort, and of a node
unfoldable pub sort_shape : List ℕ → ResolvedSort → Shape
sort_shape ws Unit = over (flat_head unit) []
sort_shape ws (Primitive s) = over (flat_head (primitive s)) []
sort_shape ws (Container op subsort) = over (container_head op) (subsort.0 ∷ [])
sort_shape ws (SortFunction domain range) =
    over (function_head domain.count) (entries_of ws domain.start domain.count ++ (range.0 ∷ []))
sort_shape ws (Def n) = over (flat_head (def n)) []
sort_shape ws (TypeVar n) = over (flat_head (typevar n)) []

unfoldable pub node_shape : List ℕ → InferSort → Shape
node_shape ns (Generic op subsort) = over (container_head op) (subsort.0 ∷ [])
node_shape ns (Function domain range) =
    over (function_head domain.count) (node_entries_of ns domain.start domain.count ++ (range.0 ∷ []))
node_shape ns (Var v) = variable v.0

-- The lists that places are of: sorts and nodes, each words and how many rows count.
pub record Lists : Type 0 where
  pub sorts : List ℕ
  pub sort_count : ℕ
  pub nodes : List ℕ
  pub node_count : ℕ

abbrev pub is_sort : ℕ → Bool
is_sort p = ltb p max_sorts

-- a place is a sort of the list or a node of the list
unfoldable pub is_place : ℕ → ℕ → ℕ → Bool
is_place n m p = cond (is_sort p) (ltb p n) (ltb (p - max_sorts) m)

-- The shape at a place.
unfoldable pub shape_at : Lists → ℕ → Shape
shape_at L p =
    cond (is_place L.sort_count L.node_count p)
    (cond (is_sort p) (sort_shape L.sorts (row_at L.sorts p))
    (node_shape L.nodes (node_at L.nodes (p - max_sorts))))
    (over (stray_head p) [])

-- Bindings: a place, or free. In memory one word a variable, 65,535 for a free one.
abbrev pub Binds : Type 0
Binds = List (Option ℕ)

abbrev pub binding : Binds → ℕ → Option ℕ
binding B v = get_or B v none

abbrev pub free_word : ℕ
free_word = 65535

abbrev pub binding_of : ℕ → Option ℕ
binding_of w = cond (eqb w free_word) none (some w)

-- the same of what the code found
abbrev pub bound_of : Found InferSortId → Option ℕ
bound_of (Some p) = some p.0
bound_of None = none

-- the bindings of the first n variables
unfoldable pub binds_of : List ℕ → ℕ → Binds
binds_of bs zero = []
binds_of [] (suc n) = binding_of 0 ∷ binds_of [] n
binds_of (w ∷ bs) (suc n) = binding_of w ∷ binds_of bs n
