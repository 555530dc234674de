-- Kind and part decide where they differ, else the arguments. Assumes nothing.
use Rattle.std.proofs.Common.{sym, ◌∙◌}
use borrow.Author.Tests.{eqb-true, eqb-false}
use Rattle.sort_interner.proofs.Rows as law
use Rattle.sort_interner.proofs.same_rows.Goals as goal
use Rattle.sort_interner.proofs.same_rows.Goals.{then-kind_at, else-kind_at}

pub returns-then-part_at : goal.returns-then-part_at
returns-then-part_at c =
    elim c.if-kind_at.branch [
      | then-kind_at w ↦
          law.rows_same_by_args _ _ _ _ c.kind_at.ensures c.kind_at-2.ensures
          _ _ w.part_at.ensures w.part_at-then-kind_at.ensures
          w.if-kind_at.true (eqb-true _ _ (sym w.value-is ∙ c.if-part_at.true))
          _ _ c.run_at.ensures.entries c.run_at-then-part_at.ensures.entries _ c.same_run.ensures
      | else-kind_at w ↦ absurd (w.if-kind_at.false (eqb-true _ _ (sym w.value-is ∙ c.if-part_at.true)))
    ]

pub returns-else-part_at : goal.returns-else-part_at
returns-else-part_at c =
    c.if-part_at.false
    ∙ elim c.if-kind_at.branch [
      | then-kind_at w ↦
          law.rows_differ_by_part _ _ _ _ c.kind_at.ensures c.kind_at-2.ensures
          _ _ w.part_at.ensures w.part_at-then-kind_at.ensures (eqb-false _ _ (sym w.value-is ∙ c.if-part_at.false))
      | else-kind_at w ↦
          law.rows_differ_by_kind _ _ _ _ c.kind_at.ensures c.kind_at-2.ensures w.if-kind_at.false
    ]
