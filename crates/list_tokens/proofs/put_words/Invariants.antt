-- The loop's invariant: the words put, and those from here on, are those of the line. Assumes nothing.
use Rattle.list_tokens.proofs.Reading as law
use Rattle.list_tokens.proofs.put_words.Given as goal

abbrev pub invariant-loop-count : goal.invariant-loop-count
invariant-loop-count l = law.Going l.line l.words l.count l.at
