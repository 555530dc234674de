-- The lent sort storage: one list of 16-bit words. Rows of four words come first, kind, part, start and count, then the
-- argument entries at a fixed place. A word past the end of the list counts as 0.
use Rattle.std.specs.Prelude.{cond, List, [], ◌∷◌, ◌++◌, ℕ, zero, suc, ◌+◌, ◌-◌, ◌*◌, length, get_or, set, eqb, ltb}
use Rattle.std.specs.Prelude.{Result, Ok, Err}
use Rattle.std.proofs.lemmas.List.Edits.{sets}
use Rattle.resolved_sort.specs.declared.Sort.{Sort}
use Rattle.resolved_sort.specs.declared.ComplexSort.{ComplexSort}
use Rattle.resolved_sort.specs.declared.NoContainer.{NoContainer}
use Rattle.resolved_sort.specs.declared.Run.{Run}
use Rattle.resolved_sort.specs.declared.ResolvedSort.{ResolvedSort}
use Rattle.resolved_sort.specs.declared.ResolvedSort.TheVariants.{Unit, Primitive, Container, Function, Def}
use Rattle.resolved_sort.specs.declared.ResolvedSort.TheVariants.{TypeVar}
use Rattle.resolved_sort.specs.Tree.{Flat, unit, primitive, def, typevar, Tree, flat, container, function}
use Rattle.resolved_sort.specs.Tree.{Trees, no_args, arg}
use Rattle.resolved_sort.specs.Interning.{Sorts, look, number, need}
use Rattle.words.specs.Words.{zeros}

-- "Ceilings: 1,024 sorts, .. 4,096 argument entries for sorts"
abbrev pub max_sorts : ℕ
max_sorts = 1024

abbrev pub max_entries : ℕ
max_entries = 4096

-- "a function with 0 to 16 arguments"
abbrev pub max_arguments : ℕ
max_arguments = 16

-- the words of a row
abbrev pub row_words : ℕ
row_words = 4

-- where the entries begin, after the rows of 1,024 sorts
abbrev pub entries_at : ℕ
entries_at = 4096

-- the length of the storage at its full ceiling
abbrev pub full_length : ℕ
full_length = 8192

abbrev pub kind_at : List ℕ → ℕ → ℕ
kind_at ws i = get_or ws (row_words * i) 0

abbrev pub part_at : List ℕ → ℕ → ℕ
part_at ws i = get_or ws (row_words * i + 1) 0

abbrev pub start_at : List ℕ → ℕ → ℕ
start_at ws i = get_or ws (row_words * i + 2) 0

abbrev pub count_at : List ℕ → ℕ → ℕ
count_at ws i = get_or ws (row_words * i + 3) 0

abbrev pub entry_at : List ℕ → ℕ → ℕ
entry_at ws j = get_or ws (entries_at + j) 0

-- The kinds, by number: 0 unit, 1 to 5 the primitive sorts, 6 to 10 the containers, 11 function, 12 Def, 13 TypeVar.
-- Sort numbers 0 to 5 and kinds 0 to 5 agree.
abbrev pub first_container : ℕ
first_container = 6

abbrev pub function_kind : ℕ
function_kind = 11

abbrev pub def_kind : ℕ
def_kind = 12

abbrev pub last_kind : ℕ
last_kind = 13

-- What a row of these words says.
unfoldable pub resolved : ℕ → ℕ → Run → ResolvedSort
resolved kind part run =
    get_or
    (Unit ∷ Primitive Sort.Bool ∷ Primitive Sort.Pos ∷ Primitive Sort.Nat ∷ Primitive Sort.Int
    ∷ Primitive Sort.Real
    ∷ Container ComplexSort.List (record { 0 = part }) ∷ Container ComplexSort.Set (record { 0 = part })
    ∷ Container ComplexSort.FSet (record { 0 = part })
    ∷ Container ComplexSort.Bag (record { 0 = part }) ∷ Container ComplexSort.FBag (record { 0 = part })
    ∷ Function run (record { 0 = part }) ∷ Def part ∷ [])
    kind (TypeVar part)

abbrev pub row_at : List ℕ → ℕ → ResolvedSort
row_at ws i = resolved (kind_at ws i) (part_at ws i) (record { start = start_at ws i; count = count_at ws i })

-- The n entries from s on.
unfoldable pub entries_of : List ℕ → ℕ → ℕ → List ℕ
entries_of ws s zero = []
entries_of ws s (suc n) = entry_at ws s ∷ entries_of ws (s + 1) n

-- A row's words as far as they are looked at: the kinds below 6 have no part, and only a function has a run.
pub record Row : Type 0 where
  pub kind : ℕ
  pub part : ℕ
  pub args : List ℕ

abbrev pub words_at : List ℕ → ℕ → Row
words_at ws i =
    record {
      kind = kind_at ws i;
      part = cond (ltb (kind_at ws i) first_container) 0 (part_at ws i);
      args = cond (eqb (kind_at ws i) function_kind) (entries_of ws (start_at ws i) (count_at ws i)) [];
    }

unfoldable pub look_all : List Tree → List ℕ → Trees
look_all T [] = no_args
look_all T (x ∷ xs) = arg (look T x) (look_all T xs)

-- The sort of a row, with the lower sorts given.
unfoldable pub tree_of : List Tree → Row → Tree
tree_of T r =
    get_or
    (flat unit ∷ flat (primitive Sort.Bool) ∷ flat (primitive Sort.Pos) ∷ flat (primitive Sort.Nat)
    ∷ flat (primitive Sort.Int) ∷ flat (primitive Sort.Real)
    ∷ container ComplexSort.List (look T r.part) ∷ container ComplexSort.Set (look T r.part)
    ∷ container ComplexSort.FSet (look T r.part)
    ∷ container ComplexSort.Bag (look T r.part) ∷ container ComplexSort.FBag (look T r.part)
    ∷ function (look_all T r.args) (look T r.part) ∷ flat (def r.part) ∷ [])
    r.kind (flat (typevar r.part))

-- The sorts that the first n rows denote, by number.
unfoldable pub trees : List ℕ → ℕ → List Tree
trees ws zero = []
trees ws (suc n) = trees ws n ++ (tree_of (trees ws n) (words_at ws n) ∷ [])

-- The list of n sorts and e entries, with the room up to the ceilings.
abbrev pub sorts_of : List ℕ → ℕ → ℕ → Sorts
sorts_of ws n e = record { trees = trees ws n; rows = max_sorts - n; entries = max_entries - e }

-- The row of a sort whose parts have numbers.
unfoldable pub kind_flat : Flat → ℕ
kind_flat unit = 0
kind_flat (primitive Sort.Bool) = 1
kind_flat (primitive Sort.Pos) = 2
kind_flat (primitive Sort.Nat) = 3
kind_flat (primitive Sort.Int) = 4
kind_flat (primitive Sort.Real) = 5
kind_flat (def n) = def_kind
kind_flat (typevar n) = last_kind

unfoldable pub kind_op : ComplexSort → ℕ
kind_op ComplexSort.List = 6
kind_op ComplexSort.Set = 7
kind_op ComplexSort.FSet = 8
kind_op ComplexSort.Bag = 9
kind_op ComplexSort.FBag = 10

-- the container of a kind, where it is one's
unfoldable pub container_of : ℕ → Result ComplexSort NoContainer
container_of kind =
    let none = Err (record { 0 = kind }) in
    get_or
    (none ∷ none ∷ none ∷ none ∷ none ∷ none
    ∷ Ok ComplexSort.List ∷ Ok ComplexSort.Set ∷ Ok ComplexSort.FSet ∷ Ok ComplexSort.Bag ∷ Ok ComplexSort.FBag ∷ [])
    kind none

unfoldable pub part_flat : Flat → ℕ
part_flat unit = 0
part_flat (primitive s) = 0
part_flat (def n) = n
part_flat (typevar n) = n

unfoldable pub numbers : List Tree → Trees → List ℕ
numbers T no_args = []
numbers T (arg t ts) = number T t ∷ numbers T ts

unfoldable pub row_of : List Tree → Tree → Row
row_of T (flat a) = record { kind = kind_flat a; part = part_flat a; args = [] }
row_of T (container o s) = record { kind = kind_op o; part = number T s; args = [] }
row_of T (function ts u) = record { kind = function_kind; part = number T u; args = numbers T ts }

-- Row i set to four words.
unfoldable pub put_row : List ℕ → ℕ → ℕ → ℕ → ℕ → ℕ → List ℕ
put_row ws i kind part start count =
    set
    (set (set (set ws (row_words * i) kind) (row_words * i + 1) part) (row_words * i + 2) start)
    (row_words * i + 3) count

-- The rows of the fixed six sorts from the words at a on, each of the kind that is its number: the first n of them.
abbrev pub fixed_sorts : ℕ
fixed_sorts = 6

unfoldable pub fixed_rows : ℕ → ℕ → List ℕ → List ℕ
fixed_rows a zero ws = ws
fixed_rows a (suc n) ws = set (fixed_rows a n ws) (a + row_words * n) n

-- The row r as row n, with e entries in use before it. Unused words are zero.
unfoldable pub append_row : List ℕ → ℕ → ℕ → Row → List ℕ
append_row ws n e r =
    sets (put_row ws n r.kind r.part (cond (eqb r.kind function_kind) e 0) (length r.args))
    (entries_at + e) r.args

-- The sort t appended to the sorts T.
abbrev pub append : List ℕ → List Tree → ℕ → Tree → List ℕ
append ws T e t = append_row ws (length T) e (row_of T t)

-- The new sorts appended in order. "Rows past kept sorts are untouched."
unfoldable pub written : List ℕ → List Tree → ℕ → List Tree → List ℕ
written ws T e [] = ws
written ws T e (t ∷ ts) = written (append ws T e t) (T ++ (t ∷ [])) (e + need t) ts

-- 15 gives back: "rows past the entry lengths are zero", entries too, to the end of what was lent.
unfoldable pub given_back : ℕ → ℕ → List ℕ → List ℕ
given_back n e ws = zeros (entries_at + e) (length ws) (zeros (row_words * n) entries_at ws)
