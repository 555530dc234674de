-- A component more stores its word, from the front on. Assumes nothing.
use Rattle.std.proofs.Common.{arith, ◌∙◌}
use Rattle.search_state.specs.Inner.Memory.{best_measure_at}
use Rattle.words.specs.Words.{part}
use Rattle.words.proofs.Parts.{length_part}
use Rattle.solve_outputs.proofs.Over.{measure_ends, measure_goes_on, stored_is_over}
use Rattle.solve_outputs.proofs.write_measure.Goals as goal

pub loop-i-preserved : goal.loop-i-preserved
loop-i-preserved c =
    let a = c.args in
    let l = c.loop-i in
    measure_goes_on a.search.now.scratch.now a.measure.now a.search.now.sizes.components l.measure l.i l.invariant
    (omega (arith, c.requires, a.search.now.room)) c.loop-i-test.true _ _ c.word-component.ensures c.put.ensures

pub returns : goal.returns
returns c =
    let a = c.args in
    let l = c.loop-i in
    measure_ends a.search.now.scratch.now a.measure.now a.search.now.sizes.components l.measure l.i l.invariant (omega arith)
    ∙ stored_is_over (part best_measure_at a.search.now.sizes.components a.search.now.scratch.now) a.measure.now
    (omega (
      arith,
      c.requires,
      a.search.now.room,
      length_part best_measure_at a.search.now.sizes.components a.search.now.scratch.now
          (omega (arith, c.requires, a.search.now.room)),
    ))
