-- By the kind that the word is found to be, or by none. Assumes nothing.
use Rattle.std.proofs.Common.{◌∙◌}
use Rattle.solve_checks.specs.Inner.Calls.{call_for}
use Rattle.solve_checks.proofs.Fine as fine
use Rattle.solve_checks.proofs.Problem.target_fine.Goals as goal

pub returns-in_default : goal.returns-in_default
returns-in_default c = fine.no_kind (call_for c.args.self.now) c.args.kind c.args.sort.0 _ c.try_from.ensures _ c.in_default.is

pub returns-in-Op : goal.returns-in-Op
returns-in-Op c =
    c.listed.ensures
    ∙ fine.kind_decides (call_for c.args.self.now) c.args.kind c.args.sort.0 _ c.try_from.ensures _ c.in-Ok.is _ c.in-Op.is

pub returns-in-Variable : goal.returns-in-Variable
returns-in-Variable c =
    fine.no_sort_asked (call_for c.args.self.now) c.args.kind c.args.sort.0 _ c.try_from.ensures _ c.in-Ok.is c.in-Variable.is
