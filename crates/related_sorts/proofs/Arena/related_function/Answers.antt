-- What is found for the final range, and the functions over it. Assumes nothing.
use Rattle.std.proofs.Common.{arith, ◌∙◌}
use Rattle.related_sorts.proofs.Laws as laws
use Rattle.related_sorts.proofs.InArena as law
use Rattle.related_sorts.proofs.Arena.related_function.Goals as goal

pub returns-in_err-ranges-clause-lists : goal.returns-in_err-ranges-clause-lists
returns-in_err-ranges-clause-lists c =
    laws.listed_err _ _ _ (laws.same_err _ _ c.from_residual.ensures)
    (law.no_room_for_ranges c.args.self.now _ c.requires.fine.0 c.args.up c.requires.fine.2 _ c.requires.fine.3 c.bindings.result c.bindings.ensures _ _
    c.final_range-last.ensures _ _ c.related_head.ensures.lists
    c.in_err-ranges.was)

pub returns-in_default-clause-lists : goal.returns-in_default-clause-lists
returns-in_default-clause-lists c =
    law.no_ranges c.args.self.now _ c.requires.fine.0 c.args.up c.requires.fine.2 _ c.requires.fine.3 c.bindings.result c.bindings.ensures _ _
    c.final_range-last.ensures _ _ c.related_head.ensures.lists
    c.in_ok-ranges.was c.in_default.is

pub over_functions-requires-clause-fine : goal.over_functions-requires-clause-fine
over_functions-requires-clause-fine c =
    law.functions_stand c.args.self.now _ c.requires.fine.0 c.args.up c.requires.fine.2 _ c.requires.fine.3 c.bindings.result c.bindings.ensures _ _
    c.final_range-last.ensures _ _ c.related_head.ensures.lists
    c.in_ok-ranges.was c.in-Some.is (omega (arith, c.final_range-last.ensures.few))

pub returns-in_err-over_functions-clause-lists : goal.returns-in_err-over_functions-clause-lists
returns-in_err-over_functions-clause-lists c =
    laws.listed_err _ _ _ (laws.same_err _ _ c.from_residual-in_err-over_functions.ensures)
    (laws.some_as _ _ _ c.in_err-over_functions.was c.over_functions.ensures.lists
    ∙ law.functions_over_ranges c.args.self.now _ c.requires.fine.0 c.args.up c.requires.fine.2 _ c.requires.fine.3 c.bindings.result c.bindings.ensures _ _
    c.final_range-last.ensures _ _ c.related_head.ensures.lists
    c.in_ok-ranges.was c.in-Some.is (omega (arith, c.final_range-last.ensures.few)))

pub returns-clause-lists : goal.returns-clause-lists
returns-clause-lists c =
    laws.some_as _ _ _ c.in_ok-over_functions.was c.over_functions.ensures.lists
    ∙ law.functions_over_ranges c.args.self.now _ c.requires.fine.0 c.args.up c.requires.fine.2 _ c.requires.fine.3 c.bindings.result c.bindings.ensures _ _
    c.final_range-last.ensures _ _ c.related_head.ensures.lists
    c.in_ok-ranges.was c.in-Some.is (omega (arith, c.final_range-last.ensures.few))
