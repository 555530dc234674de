-- The first word of the table with these bytes. Assumes nothing.
use Rattle.std.proofs.Common.{◌∙◌}
use Rattle.sort_lexer.proofs.Words as law
use Rattle.sort_lexer.proofs.Word.spelled.Goals as goal

pub returns : goal.returns
returns c = c.first_spelled.ensures ∙ law.found_word _
