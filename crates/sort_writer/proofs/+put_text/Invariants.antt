-- Parts have lower numbers; what is left of the arguments makes up the whole. Assumes nothing.
use Rattle.sort_writer.proofs.Texts.{Putting}
use Rattle.sort_writer.proofs.+put_text.Given as goal

abbrev pub decreases-put_text : goal.decreases-put_text
decreases-put_text l = l.id.0

abbrev pub invariant-loop-k : goal.invariant-loop-k
invariant-loop-k l =
    Putting l.sorts.words.now l.sorts.counts.sorts l.domain.start l.domain.count l.initial.out l.k l.out
