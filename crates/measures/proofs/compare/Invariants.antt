-- What is left ranks as the whole does, and the pairs counted are those passed. Assumes nothing.
use Rattle.measures.proofs.Passed.{Passed}
use Rattle.measures.proofs.compare.Given as goal

abbrev pub invariant-loop-component : goal.invariant-loop-component
invariant-loop-component l = Passed l.measure l.best l.component-iterator.a.rest.now l.component-iterator.b.rest.now l.looked
