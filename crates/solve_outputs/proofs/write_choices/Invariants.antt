-- The loop's invariant: storing the rows of what is left comes to storing all. Assumes nothing.
use Rattle.search_state.specs.Inner.Memory.{choices_kept}
use Rattle.solve_outputs.proofs.Choosing.{RowsLeft}
use Rattle.solve_outputs.proofs.write_choices.Given as goal

abbrev pub invariant-loop-x : goal.invariant-loop-x
invariant-loop-x l = RowsLeft l.initial.choices (choices_kept l.search.lists.now l.search.sizes l.search.scratch.now) l.x-end l.choices l.k l.x
