-- A row of the overloads, or none of them. Assumes nothing.
use Rattle.solve_outputs.proofs.Naming.{target_inside, target_past}
use Rattle.solve_outputs.proofs.chosen_target.Goals as goal

pub returns-then-overloads-at : goal.returns-then-overloads-at
returns-then-overloads-at c =
    let a = c.args in
    target_past a.lists.now a.overloads a.run a.i c.if-overloads-at.true

pub returns : goal.returns
returns c =
    let a = c.args in
    target_inside a.lists.now a.overloads a.run a.i c.if-overloads-at.false _ _ _ c.word-kind.ensures
    c.word-sort.ensures c.name_target.ensures
