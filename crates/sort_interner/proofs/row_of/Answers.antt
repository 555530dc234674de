-- A container is found of its kind; past the other kinds is TypeVar. Assumes nothing.
use Rattle.std.proofs.Common.{arith, sym, ◌∙◌}
use Rattle.resolved_sort.proofs.Containers as law
use Rattle.sort_interner.proofs.row_of.Goals as goal

pub returns-in-Ok : goal.returns-in-Ok
returns-in-Ok c = law.row_of_container c.args.kind c.args.part c.args.run c.in-Ok.op (sym c.in-Ok.is ∙ c.try_from.ensures)

pub returns-in_default-kind : goal.returns-in_default-kind
returns-in_default-kind c =
    law.row_of_typevar c.args.kind c.args.part c.args.run _ (sym c.in_default.is ∙ c.try_from.ensures) (omega arith)
    (λ e. omega (arith, e)) (λ e. omega (arith, e))
