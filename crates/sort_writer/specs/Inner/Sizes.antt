-- How long texts are, as the code finds it: in rising sort number, each sort's size from the sizes of its parts. A size
-- is the length of the text as far as 2^63, which no buffer reaches, and 0 where a sort has no text.
use Rattle.std.specs.Prelude.{Bool, cond, ◌&&◌, List, [], ◌∷◌, ℕ, zero, suc, ◌+◌, length, get_or, set, eqb, leb}
use Rattle.resolved_sort.specs.declared.ResolvedSort.{ResolvedSort}
use Rattle.resolved_sort.specs.declared.ResolvedSort.TheVariants.{Unit, Primitive, Container, Function, Def, TypeVar}
use Rattle.resolved_sort.specs.Tree.{Tree, Trees}
use Rattle.resolved_sort.specs.Storage.{entries_of, row_at}
use Rattle.sort_text.specs.Parse.{sort_word, op_word}
use Rattle.sort_text.specs.Text.{nonempty, writable, writables, text, texts}
use Rattle.words.specs.Bits.{bit63}

abbrev pub most_size : ℕ
most_size = bit63

unfoldable pub capped : ℕ → ℕ
capped n = cond (leb n most_size) n most_size

-- the size of a text of n bytes, where there is one
unfoldable pub size_if : Bool → ℕ → ℕ
size_if b n = cond b (capped n) 0

unfoldable pub sized : Tree → ℕ
sized t = size_if (writable t) (length (text t))

-- a function without arguments has no text
unfoldable pub sized_all : Trees → ℕ
sized_all ts = size_if (nonempty ts && writables ts) (length (texts ts))

-- the size of two texts one after the other, where both are there
unfoldable pub joined : ℕ → ℕ → ℕ
joined a b = cond (eqb a 0) 0 (cond (eqb b 0) 0 (capped (a + b)))

-- the size of arguments, by the sizes zs of all sorts
unfoldable pub run_size : List ℕ → List ℕ → ℕ
run_size zs [] = 0
run_size zs (x ∷ []) = get_or zs x 0
run_size zs (x ∷ y ∷ xs) = joined (get_or zs x 0) (joined 3 (run_size zs (y ∷ xs)))

-- the size of the sort that a row says
unfoldable pub row_size : List ℕ → List ℕ → ResolvedSort → ℕ
row_size ws zs Unit = 0
row_size ws zs (Primitive s) = length (sort_word s)
row_size ws zs (Container op subsort) = joined (length (op_word op) + 2) (get_or zs subsort.0 0)
row_size ws zs (Function domain range) =
    joined (run_size zs (entries_of ws domain.start domain.count)) (joined 4 (get_or zs range.0 0))
row_size ws zs (Def n) = 0
row_size ws zs (TypeVar n) = 0

-- zs with the sizes of the first n sorts
unfoldable pub sizes_to : List ℕ → List ℕ → ℕ → List ℕ
sizes_to ws zs zero = zs
sizes_to ws zs (suc n) = set (sizes_to ws zs n) n (row_size ws (sizes_to ws zs n) (row_at ws n))
