-- The pieces of a verdict's text: numbers, sorts, rows, and the lines that have them.
use Rattle.std.specs.Prelude.{Bool, cond, ◌&&◌, List, [], ◌∷◌, ◌++◌, ℕ, zero, suc, ◌+◌, ◌-◌, ◌*◌, eqb, ltb, leb, length, get_or}
use Rattle.resolved_sort.specs.Tree.{Tree}
use Rattle.resolved_sort.specs.Storage.{kind_at, part_at, start_at, count_at, entry_at, function_kind}
use Rattle.resolved_sort.specs.Entries.{tree_at}
use Rattle.sort_text.specs.Text.{writable, text, arrow_text}
use Rattle.list_verdict.specs.Words.{kind_word, message, variable_text, builtin_text, op_text, measure_text}
use Rattle.list_verdict.specs.Words.{choices_text, no_choices_text, new_text}
use Rattle.sort_text.specs.Reading.{max_line}
use Rattle.text_out.specs.Quoted.{byte_of, bytes_of}
use Rattle.text_out.specs.Decimal.{decimal}

-- the texts of the m rows from i on, one after another
unfoldable pub rows_text : (ℕ → List ℕ) → ℕ → ℕ → List ℕ
rows_text row zero i = []
rows_text row (suc m) i = row i ++ rows_text row m (i + 1)

-- a letter and a number: `s7`, `e0`
unfoldable pub name : ℕ → ℕ → List ℕ
name letter n = letter ∷ decimal n

-- a sort as the format names it: one of the fixed six by its word
unfoldable pub sort_name : ℕ → List ℕ
sort_name s = cond (ltb s 6) (kind_word s) (name (byte_of "s") s)

-- a sort that has a text as long as a line may be
unfoldable pub short : Tree → Bool
short t = writable t && leb (length (text t)) max_line

-- in mCRL2 spelling, or the number
abbrev pub text_or : Tree → ℕ → List ℕ
text_or t s = cond (short t) (text t) (name (byte_of "s") s)

-- of n sorts in the words ws
module _ (ws : List ℕ) (n : ℕ) where
  unfoldable pub sort_text : ℕ → List ℕ
  sort_text s = text_or (tree_at ws n s) s

  -- the target of a name, by its kind: 1 variable, 2 operation, 3 builtin, else none
  unfoldable pub target_text : ℕ → ℕ → List ℕ
  target_text kind s =
      cond (eqb kind 1) variable_text (cond (eqb kind 2) (op_text ++ sort_text s) (cond (eqb kind 3) builtin_text []))

  -- `e1: FSet(Nat), variable`: the i-th expression of a typing
  unfoldable pub expr_line : List ℕ → ℕ → List ℕ
  expr_line ts i =
      name (byte_of "e") i
      ++ (bytes_of ": "
      ++ (sort_text (get_or ts (3 * i) 0)
      ++ (target_text (get_or ts (3 * i + 1) 0) (get_or ts (3 * i + 2) 0) ++ bytes_of "\n")))

-- a comma and a space before all but the first
unfoldable pub separator : ℕ → List ℕ
separator i = cond (eqb i 0) [] (bytes_of ", ")

-- `measure [1, 0]`
unfoldable pub component : List ℕ → ℕ → List ℕ
component ms i = separator i ++ decimal (get_or ms i 0)

unfoldable pub measure_line : List ℕ → ℕ → List ℕ
measure_line ms m = measure_text ++ (rows_text (component ms) m 0 ++ bytes_of "]\n")

-- `choices e1 0, e4 2`, `choices none`
unfoldable pub choice_text : List ℕ → ℕ → List ℕ
choice_text cs i =
    separator i ++ (name (byte_of "e") (get_or cs (2 * i) 0) ++ (bytes_of " " ++ decimal (get_or cs (2 * i + 1) 0)))

unfoldable pub choice_list : List ℕ → ℕ → List ℕ
choice_list cs m = cond (eqb m 0) no_choices_text (rows_text (choice_text cs) m 0)

unfoldable pub choices_line : List ℕ → ℕ → List ℕ
choices_line cs m = choices_text ++ (choice_list cs m ++ bytes_of "\n")

-- the row of a sort in the words of a `sort` line: `Set Pos`, `fn Bool s6 -> Nat`, `Def 5`
unfoldable pub argument_text : List ℕ → ℕ → List ℕ
argument_text ws j = bytes_of " " ++ sort_name (entry_at ws j)

unfoldable pub parts : List ℕ → ℕ → List ℕ
parts ws i =
    cond (ltb (kind_at ws i) 6) []
    (cond (ltb (kind_at ws i) function_kind) (bytes_of " " ++ sort_name (part_at ws i))
    (cond (eqb (kind_at ws i) function_kind)
    (rows_text (argument_text ws) (count_at ws i) (start_at ws i) ++ (arrow_text ++ sort_name (part_at ws i)))
    (bytes_of " " ++ decimal (part_at ws i))))

-- `new s6 Set Pos`
unfoldable pub new_line : List ℕ → ℕ → List ℕ
new_line ws i =
    new_text ++ (name (byte_of "s") i ++ (bytes_of " " ++ (kind_word (kind_at ws i) ++ (parts ws i ++ bytes_of "\n"))))

-- `17 no typing found`
unfoldable pub verdict_line : ℕ → List ℕ
verdict_line code = decimal code ++ (bytes_of " " ++ (message code ++ bytes_of "\n"))

-- the sorts from the g-th up to the n-th
unfoldable pub new_lines : List ℕ → ℕ → ℕ → List ℕ
new_lines ws g n = rows_text (new_line ws) (n - g) g

-- a typing of x expressions, with m components and k choices
unfoldable pub typing_text : (sorts : List ℕ) → ℕ → (typing measure choices : List ℕ) → ℕ → ℕ → ℕ → List ℕ
typing_text ws n ts ms cs x m k = rows_text (expr_line ws n ts) x 0 ++ (measure_line ms m ++ choices_line cs k)
