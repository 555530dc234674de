-- Kind and part decide where they differ, else the arguments. Assumes nothing.
use Rattle.std.proofs.Common.{refl, sym, ◌∙◌}
use borrow.Author.Tests.{eqb-true, eqb-false}
use Rattle.sort_interner.specs.Inner.Tests.{is_row}
use Rattle.sort_interner.proofs.Rows as law
use Rattle.sort_interner.proofs.is_row.Goals as goal
use Rattle.sort_interner.proofs.is_row.Goals.{then-kind_at-row, else-kind_at-row}

pub returns-then-part_at-row : goal.returns-then-part_at-row
unfolding is_row
returns-then-part_at-row c = elim c.if-kind_at-row.branch [
  | then-kind_at-row w ↦ law.rows_same_by_args _ _ _ _ c.kind_at.ensures refl _ _ w.part_at.ensures refl
      w.if-kind_at-row.true (eqb-true _ _ (sym w.value-is ∙ c.if-part_at-row.true)) _ _ c.run_at.ensures.entries refl
      _ c.has_args.ensures
  | else-kind_at-row w ↦ absurd (w.if-kind_at-row.false (eqb-true _ _ (sym w.value-is ∙ c.if-part_at-row.true)))
]

pub returns-else-part_at-row : goal.returns-else-part_at-row
unfolding is_row
returns-else-part_at-row c = c.if-part_at-row.false ∙ elim c.if-kind_at-row.branch [
  | then-kind_at-row w ↦ law.rows_differ_by_part _ _ _ _ c.kind_at.ensures refl _ _ w.part_at.ensures refl
      (eqb-false _ _ (sym w.value-is ∙ c.if-part_at-row.false))
  | else-kind_at-row w ↦ law.rows_differ_by_kind _ _ _ _ c.kind_at.ensures refl w.if-kind_at-row.false
]
