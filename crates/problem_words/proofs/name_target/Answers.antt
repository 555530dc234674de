-- By the kind. Assumes nothing.
use Rattle.problem_words.proofs.Said.{name_said}
use Rattle.problem_words.proofs.name_target.Goals as goal

pub returns-in-Variable : goal.returns-in-Variable
returns-in-Variable c = name_said c.args.kind c.args.sort _ c.try_from.ensures _ c.unwrap_or.ensures _ c.in-Variable.is

pub returns-in-Op : goal.returns-in-Op
returns-in-Op c = name_said c.args.kind c.args.sort _ c.try_from.ensures _ c.unwrap_or.ensures _ c.in-Op.is

pub returns-in-Builtin : goal.returns-in-Builtin
returns-in-Builtin c = name_said c.args.kind c.args.sort _ c.try_from.ensures _ c.unwrap_or.ensures _ c.in-Builtin.is
