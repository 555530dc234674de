-- By the first byte that is no space, then by the first word. Assumes nothing.
use Rattle.list_tokens.proofs.Reading as law
use Rattle.list_tokens.proofs.start_of.Goals as goal

pub returns-then-line-from : goal.returns-then-line-from
returns-then-line-from c = search law.line_without_words

pub returns-then-line-from-eq35 : goal.returns-then-line-from-eq35
returns-then-line-from-eq35 c = search law.line_of_a_comment

pub returns : goal.returns
returns c = search law.line_of_a_word
