-- By the row of the sort. Assumes nothing.
use Rattle.std.proofs.Common.{◌∙◌}
use Rattle.related_sorts.proofs.Laws as laws
use Rattle.related_sorts.proofs.Ends as law
use Rattle.related_sorts.proofs.Arena.related_sort.Goals as goal

pub related_generic-requires-clause-fine : goal.related_generic-requires-clause-fine
related_generic-requires-clause-fine c = law.container_asked c.args.self.now.sorts.now c.args.self.now.nodes.now c.args.self.now.lengths c.requires.fine.0 c.args.up c.args.id.0 c.requires.fine.1 c.requires.fine.2 _ c.row.ensures _ _ c.in-Container.is

pub returns-in_err-related_generic-in-Container-clause-lists : goal.returns-in_err-related_generic-in-Container-clause-lists
returns-in_err-related_generic-in-Container-clause-lists c =
    laws.listed_err _ _ _ (laws.same_err _ _ c.from_residual.ensures)
    (laws.some_as _ _ _ c.in_err-related_generic-in-Container.was c.related_generic.ensures.lists ∙ law.container_related c.args.self.now.sorts.now c.args.self.now.nodes.now c.args.self.now.lengths c.requires.fine.0 c.args.up c.args.id.0 c.requires.fine.1 c.requires.fine.2 _ c.row.ensures _ _ c.in-Container.is)

pub returns-in-Primitive-clause-lists : goal.returns-in-Primitive-clause-lists
returns-in-Primitive-clause-lists c = law.numbers_related c.args.self.now.sorts.now c.args.self.now.nodes.now c.args.self.now.lengths c.requires.fine.0 c.args.up c.args.id.0 c.requires.fine.1 c.requires.fine.2 _ c.row.ensures _ c.in-Primitive.is c.related_numbers.result c.related_numbers.ensures

pub returns-in_ok-related_generic-in-Container-clause-lists : goal.returns-in_ok-related_generic-in-Container-clause-lists
returns-in_ok-related_generic-in-Container-clause-lists c =
    laws.some_as _ _ _ c.in_ok-related_generic-in-Container.was c.related_generic.ensures.lists ∙ law.container_related c.args.self.now.sorts.now c.args.self.now.nodes.now c.args.self.now.lengths c.requires.fine.0 c.args.up c.args.id.0 c.requires.fine.1 c.requires.fine.2 _ c.row.ensures _ _ c.in-Container.is

pub returns-in-Function-clause-lists : goal.returns-in-Function-clause-lists
returns-in-Function-clause-lists c = law.function_sort_passed c.args.self.now.sorts.now c.args.self.now.nodes.now c.args.self.now.lengths c.requires.fine.0 c.args.up c.args.id.0 c.requires.fine.1 c.requires.fine.2 _ c.row.ensures _ _ c.in-Function.is

pub returns-in-Unit-clause-lists : goal.returns-in-Unit-clause-lists
returns-in-Unit-clause-lists c = law.plain_has_none c.args.self.now.sorts.now c.args.self.now.nodes.now c.args.self.now.lengths c.requires.fine.0 c.args.up c.args.id.0 c.requires.fine.1 c.requires.fine.2 _ c.row.ensures c.of.result c.of.ensures c.in-Unit.is
