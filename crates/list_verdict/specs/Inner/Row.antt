-- The text of a row, by what it says.
use Rattle.std.specs.Prelude.{List, ◌++◌, ℕ}
use Rattle.resolved_sort.specs.declared.ResolvedSort.{ResolvedSort}
use Rattle.resolved_sort.specs.declared.ResolvedSort.TheVariants.{Unit, Primitive, Container, Function, Def, TypeVar}
use Rattle.sort_text.specs.Parse.{sort_word, op_word}
use Rattle.sort_text.specs.Text.{arrow_text}
use Rattle.text_out.specs.Quoted.{bytes_of}
use Rattle.text_out.specs.Decimal.{decimal}
use Rattle.list_verdict.specs.Text.{rows_text, sort_name, argument_text}

-- the word of its kind, and what follows it
unfoldable pub row_text : List ℕ → ResolvedSort → List ℕ
row_text ws Unit = bytes_of "unit"
row_text ws (Primitive s) = sort_word s
row_text ws (Container o t) = op_word o ++ (bytes_of " " ++ sort_name t.0)
row_text ws (Function d t) =
    bytes_of "fn" ++ (rows_text (argument_text ws) d.count d.start ++ (arrow_text ++ sort_name t.0))
row_text ws (Def n) = bytes_of "Def " ++ decimal n
row_text ws (TypeVar n) = bytes_of "TypeVar " ++ decimal n
