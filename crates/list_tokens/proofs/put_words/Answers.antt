-- Word after word, until none is left or there is no room. Assumes nothing.
use Rattle.std.proofs.Common.{rules}
use Rattle.list_tokens.proofs.Reading as law
use Rattle.list_tokens.proofs.put_words.Goals as goal

pub loop-count-init : goal.loop-count-init
loop-count-init c = search (rules, law.going_start)

pub returns-then-line-from-clause-words : goal.returns-then-line-from-clause-words
returns-then-line-from-clause-words c = search law.no_more_words

pub loop-count-preserved : goal.loop-count-preserved
loop-count-preserved c = search law.one_more_word

pub returns-clause-words : goal.returns-clause-words
returns-clause-words c = search law.all_taken
