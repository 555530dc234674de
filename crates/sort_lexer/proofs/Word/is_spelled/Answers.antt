-- `==` on bytes is the equality of lists of bytes. Assumes nothing.
use Rattle.std.proofs.Common.{ap, ◌∙◌}
use Rattle.sort_text.specs.Parse.{same_bytes}
use Rattle.sort_lexer.proofs.Words as law
use Rattle.sort_lexer.proofs.Word.is_spelled.Goals as goal

pub returns : goal.returns
returns c = c.eq.ensures ∙ (law.equal_bytes _ _ ∙ ap (same_bytes _) c.text.ensures)
