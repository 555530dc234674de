-- The rows left come to all.
use Rattle.list_verdict.specs.Text.{rows_text, choice_text}
use Rattle.list_verdict.proofs.Rows.{RowsLeft}
use Rattle.list_verdict.proofs.put_choices.Given as goal

abbrev pub invariant-loop-i : goal.invariant-loop-i
invariant-loop-i l =
    let row = choice_text l.typing.choices.now in
    RowsLeft row (rows_text row l.typing.chosen 0) l.typing.chosen l.initial.out l.out l.i
