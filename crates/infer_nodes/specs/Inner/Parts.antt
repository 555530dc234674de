-- What a row says, read off its words: sorts and nodes have the same rows, and their entries at different places.
use Rattle.std.specs.Prelude.{◌≡◌, cond, List, ℕ, ◌+◌, ◌<◌, ◌≤◌, get_or, length, eqb, leb, ltb, Option, Some, None}
use Rattle.resolved_sort.specs.Storage.{max_arguments, first_container, function_kind, def_kind}
use Rattle.unification.specs.declared.Lengths.{Lengths}
use Rattle.unification.specs.declared.SortVar.{SortVar}
use Rattle.unification.specs.Term.{Shape, variable, over, kind_head, number_head}
use Rattle.unification.specs.Inner.Term.{head_of, parts_of}
use Rattle.unification.specs.Checked.{NodesChecked}

abbrev pub NodesReady : List ℕ → List ℕ → Lengths → Type 0
NodesReady ws ns k = NodesChecked ws k.sorts k.entries ns k.nodes k.arguments k.variables

abbrev pub var_at : Shape → Option SortVar
var_at (variable v) = Some (record { 0 = v })
var_at (over h ps) = None

-- the variable of a row
abbrev pub var_by : ℕ → ℕ → Option SortVar
var_by k part = cond (leb k function_kind) None (Some (record { 0 = part }))

-- the number of a head: the arguments of a function, the number of Def and TypeVar
abbrev pub number_by : ℕ → ℕ → ℕ → ℕ
number_by k part count = cond (eqb k function_kind) count (cond (leb def_kind k) part 0)

-- how many parts
abbrev pub count_by : ℕ → ℕ → ℕ
count_by k count = cond (eqb k function_kind) (count + 1) (cond (ltb k first_container) 0 (cond (ltb k function_kind) 1 0))

-- the i-th part: an argument from the entries, else the part that stands in the row
abbrev pub part_by : (ℕ → ℕ) → ℕ → ℕ → ℕ → ℕ → ℕ → ℕ
part_by entry k part start count i =
    cond (eqb k function_kind) (cond (ltb i count) (entry (start + i)) part) part

-- the j-th of the entries that begin at a word
abbrev pub entry_in : List ℕ → ℕ → ℕ → ℕ
entry_in ws at j = get_or ws (at + j) 0

-- the words of a row are these
pub record RowAt (ws : List ℕ) (row entries k part start count : ℕ) (words : List ℕ) (at : ℕ) : Type 0 where
  pub is_kind : k ≡ get_or ws row 0
  pub is_part : part ≡ get_or ws (row + 1) 0
  pub is_start : start ≡ get_or ws (row + 2) 0
  pub is_count : count ≡ get_or ws (row + 3) 0
  pub is_words : words ≡ ws
  pub is_at : at ≡ entries

-- a function has at most 16 arguments
abbrev pub SmallCount : List ℕ → ℕ → Type 0
SmallCount ws row = get_or ws row 0 ≡ function_kind → get_or ws (row + 3) 0 ≤ max_arguments

-- a row of these words says the head and the parts of a shape
pub record Says (s : Shape) (entry : ℕ → ℕ) (k part start count : ℕ) : Type 0 where
  pub kind : k ≡ kind_head (head_of s)
  pub number : number_by k part count ≡ number_head (head_of s)
  pub many : count_by k count ≡ length (parts_of s)
  pub each : (i : ℕ) → i < length (parts_of s) → part_by entry k part start count i ≡ get_or (parts_of s) i 0
