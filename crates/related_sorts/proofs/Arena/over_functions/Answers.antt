-- The last function first, and so outwards. Assumes nothing.
use Rattle.std.proofs.Common.{arith, refl, ◌∙◌}
use Rattle.related_sorts.proofs.Laws as laws
use Rattle.related_sorts.proofs.Ranges as law
use Rattle.related_sorts.proofs.Arena.over_functions.Goals as goal

pub over_function-requires-clause-fine : goal.over_function-requires-clause-fine
over_function-requires-clause-fine c = law.function_asked c.args.functions.now _ _ _ _ c.loop-i.invariant.2 c.loop-i-test.true

pub returns-in_err-over-clause-lists : goal.returns-in_err-over-clause-lists
returns-in_err-over-clause-lists c = laws.some_err _ _ _ (laws.same_err _ _ c.from_residual.ensures)
    (law.rise_ends c.args.functions.now _ _ _ _ c.loop-i.invariant.2 c.loop-i-test.true _ (laws.some_as _ _ _ c.in_err-over.was c.over_function.ensures.lists) _ _ refl)

pub loop-i-preserved : goal.loop-i-preserved
loop-i-preserved c = (
  (c.over_function.ensures.keeps.0 ∙ c.loop-i.invariant.0.0, c.over_function.ensures.keeps.1 ∙ c.loop-i.invariant.0.1, c.over_function.ensures.keeps.2 ∙ c.loop-i.invariant.0.2),
  c.in_ok-over.ensures.indexed,
  law.rise_goes_on c.args.functions.now _ _ _ _ c.loop-i.invariant.2 c.loop-i-test.true _ (laws.some_as _ _ _ c.in_ok-over.was c.over_function.ensures.lists),
)

pub returns-clause-lists : goal.returns-clause-lists
returns-clause-lists c = law.risen c.args.functions.now _ _ _ _ c.loop-i.invariant.2 (omega (arith, c.loop-i-test.false))
