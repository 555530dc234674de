-- The grammar of sort text: which bytes are a sort, and what is left of them.
use Rattle.std.specs.Prelude.{◌≡◌, List, [], ℕ, ◌≤◌}
use Rattle.resolved_sort.specs.declared.Sort.{Sort}
use Rattle.resolved_sort.specs.declared.ComplexSort.{ComplexSort}
use Rattle.resolved_sort.specs.Tree.{primitive, Tree, flat, container, function, Trees, no_args, arg, arity}
use Rattle.sort_text.specs.Tokens.{is_letter, end, word, open_bracket, close_bracket, hash, arrow, next}
use Rattle.sort_text.specs.Parse.{basic, operator, meaning, snoc}

-- the sort, operand or operands that the bytes begin with, and the bytes after it
mutual
  pub data Operand : List ℕ → Tree → List ℕ → Type 0 where
    basic_sort : {bs w cs : List ℕ} {s : Sort} → next is_letter bs ≡ word w cs → meaning w ≡ basic s
        → Operand bs (flat (primitive s)) cs
    container_of : {bs w cs ds es fs : List ℕ} {o : ComplexSort} {t : Tree} → next is_letter bs ≡ word w cs
        → meaning w ≡ operator o
        → next is_letter cs ≡ open_bracket ds → SortOf ds t es → next is_letter es ≡ close_bracket fs
        → Operand bs (container o t) fs

  pub data SortOf : List ℕ → Tree → List ℕ → Type 0 where
    one_operand : {bs cs : List ℕ} {t : Tree} → Operand bs t cs → SortOf bs t cs
    function_of : {bs cs ds es : List ℕ} {ts : Trees} {r : Tree} → Operands bs ts cs → arity ts ≤ 16
        → next is_letter cs ≡ arrow ds → SortOf ds r es → SortOf bs (function ts r) es

  pub data Operands : List ℕ → Trees → List ℕ → Type 0 where
    first : {bs cs : List ℕ} {t : Tree} → Operand bs t cs → Operands bs (arg t no_args) cs
    another : {bs cs ds es : List ℕ} {ts us : Trees} {t : Tree} → Operands bs ts cs → next is_letter cs ≡ hash ds
        → Operand ds t es → us ≡ snoc ts t → Operands bs us es

-- a sort of a line, with what is left after it: spaces only
abbrev pub LineOf : List ℕ → Tree → List ℕ → Type 0
LineOf bs t cs = (ds : List ℕ) × SortOf bs t ds × (next is_letter ds ≡ end) × (cs ≡ [])
