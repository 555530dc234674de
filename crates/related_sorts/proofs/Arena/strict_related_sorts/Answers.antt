-- By the head at the end of the place. Assumes nothing.
use Rattle.std.proofs.Common.{◌∙◌}
use Rattle.related_sorts.proofs.Lent.{placed_there}
use Rattle.related_sorts.proofs.InArena as law
use Rattle.related_sorts.proofs.Arena.strict_related_sorts.Goals as goal

pub row-requires : goal.row-requires
row-requires c =
    placed_there c.args.self.now c.places.result c.places.ensures _
    (law.end_placed c.args.self.now _ c.requires.fine.0 c.args.up _ c.requires.fine.1 c.bindings.result c.bindings.ensures _ c.shallow_normalize-end.ensures)

pub related_function-requires-clause-fine : goal.related_function-requires-clause-fine
related_function-requires-clause-fine c = (
  c.requires.fine.0,
  law.end_placed c.args.self.now _ c.requires.fine.0 c.args.up _ c.requires.fine.1 c.bindings.result c.bindings.ensures _ c.shallow_normalize-end.ensures,
  c.requires.fine.2,
  law.function_at_end c.args.self.now _ c.requires.fine.0 c.args.up _ c.requires.fine.1 c.bindings.result c.bindings.ensures _ c.shallow_normalize-end.ensures
      c.places.result c.places.ensures (c.is_function.ensures _ c.row.ensures) c.if-is_function.true,
)

pub returns-then-is_function-clause-lists : goal.returns-then-is_function-clause-lists
returns-then-is_function-clause-lists c =
    c.related_function.ensures.lists
    ∙ law.end_answers c.args.self.now _ c.requires.fine.0 c.args.up _ c.requires.fine.1 c.bindings.result c.bindings.ensures _ c.shallow_normalize-end.ensures

pub related_head-requires-clause-fine : goal.related_head-requires-clause-fine
related_head-requires-clause-fine c = (
  c.requires.fine.0.nodes,
  law.end_placed c.args.self.now _ c.requires.fine.0 c.args.up _ c.requires.fine.1 c.bindings.result c.bindings.ensures _ c.shallow_normalize-end.ensures,
)

pub returns-clause-lists : goal.returns-clause-lists
returns-clause-lists c =
    c.related_head.ensures.lists
    ∙ law.head_at_end c.args.self.now _ c.requires.fine.0 c.args.up _ c.requires.fine.1 c.bindings.result c.bindings.ensures _ c.shallow_normalize-end.ensures
    c.places.result c.places.ensures (c.is_function.ensures _ c.row.ensures) c.if-is_function.false
