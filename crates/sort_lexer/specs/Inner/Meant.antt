-- What a word says, as the code answers it, and how it is spelled.
use Rattle.std.specs.Prelude.{List, ℕ, Option, Some, None}
use Rattle.sort_text.specs.Parse as Parse
use Rattle.sort_text.specs.Parse.{basic, operator, unknown, sort_word, op_word}
use Rattle.sort_lexer.specs.declared.Word.{Word}
use Rattle.sort_lexer.specs.declared.Word.TheVariants.{Basic, Container}

unfoldable pub meant : Parse.WordMeaning → Option Word
meant (basic s) = Some (Basic s)
meant (operator o) = Some (Container o)
meant unknown = None

unfoldable pub text_of : Word → List ℕ
text_of (Basic s) = sort_word s
text_of (Container o) = op_word o
