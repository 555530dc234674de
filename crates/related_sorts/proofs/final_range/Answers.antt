-- From a function to the end of its range. Assumes nothing.
use Rattle.std.proofs.Common.{arith, length-set, refl, ◌∙◌}
use Rattle.infer_nodes.proofs.Passing.{ready_of}
use Rattle.related_sorts.proofs.Ranges as law
use Rattle.related_sorts.proofs.final_range.Goals as goal

pub loop-row-init : goal.loop-row-init
loop-row-init c = (law.begun _ _ _ _ (ready_of _ _ _ _ c.args.bindings.now.passed) c.args.id.0 c.requires.0 _ _ refl, refl, c.row-row.ensures)

pub bounds-functions-count : goal.bounds-functions-count
bounds-functions-count c = omega (arith, law.room _ _ _ _ (ready_of _ _ _ _ c.args.bindings.now.passed) c.args.id.0 c.requires.0 _ _ _ _ c.loop-row.invariant.0 (c.is_function.ensures _ c.loop-row.invariant.2) c.loop-row-test.true, c.loop-row.invariant.1, c.requires.1)

pub shallow_normalize-range-requires : goal.shallow_normalize-range-requires
shallow_normalize-range-requires c = law.range_there _ _ _ _ (ready_of _ _ _ _ c.args.bindings.now.passed) c.args.id.0 c.requires.0 _ _ _ _ c.loop-row.invariant.0 (c.is_function.ensures _ c.loop-row.invariant.2) c.loop-row-test.true _ (c.part_count-last.ensures _ c.loop-row.invariant.2) _ (c.part.ensures _ c.loop-row.invariant.2)

pub loop-row-smaller : goal.loop-row-smaller
loop-row-smaller c = law.next_lower _ _ _ _ (ready_of _ _ _ _ c.args.bindings.now.passed) c.args.id.0 c.requires.0 _ _ _ _ c.loop-row.invariant.0 (c.is_function.ensures _ c.loop-row.invariant.2) c.loop-row-test.true _ (c.part_count-last.ensures _ c.loop-row.invariant.2) _ (c.part.ensures _ c.loop-row.invariant.2) _ c.shallow_normalize-range.ensures

pub row-row-requires-in-loop-row : goal.row-row-requires-in-loop-row
row-row-requires-in-loop-row c = law.next_placed _ _ _ _ (ready_of _ _ _ _ c.args.bindings.now.passed) c.args.id.0 c.requires.0 _ _ _ _ c.loop-row.invariant.0 (c.is_function.ensures _ c.loop-row.invariant.2) c.loop-row-test.true _ (c.part_count-last.ensures _ c.loop-row.invariant.2) _ (c.part.ensures _ c.loop-row.invariant.2) _ c.shallow_normalize-range.ensures

pub loop-row-preserved : goal.loop-row-preserved
loop-row-preserved c = (
  law.one_further _ _ _ _ (ready_of _ _ _ _ c.args.bindings.now.passed) c.args.id.0 c.requires.0 _ _ _ _ c.loop-row.invariant.0 (c.is_function.ensures _ c.loop-row.invariant.2) c.loop-row-test.true _ (c.part_count-last.ensures _ c.loop-row.invariant.2) _ (c.part.ensures _ c.loop-row.invariant.2) _ c.shallow_normalize-range.ensures (omega (arith, c.loop-row.invariant.1, c.requires.1)) _ refl,
  length-set c.loop-row.functions c.loop-row.count _ ∙ c.loop-row.invariant.1,
  c.row-row-in-loop-row.ensures,
)
