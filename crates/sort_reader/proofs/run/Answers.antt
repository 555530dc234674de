-- Each step by its law: what it takes from the stack and what it makes. Assumes nothing.
use Rattle.std.proofs.Common.{refl, arith, sym, ◌∙◌, ◌-◌, length, length-set, ap}
use Rattle.sort_reader.proofs.Ways as way
use Rattle.sort_reader.proofs.run.Goals.{in-Fixed, in-Container+in_ok-subsort-in-Container+in_ok-ok-in-Container}
use Rattle.sort_reader.proofs.run.Goals.{in-Function+in_ok-range-in-Function+in_ok-last-in-Function+in_ok-id-in-Function}
use Rattle.sort_reader.proofs.run.Goals as goal

pub loop-step-init : goal.loop-step-init
loop-step-init c = (refl, refl, c.requires.indexed, refl, way.starts _ _ _ _ c.requires.running)

pub returns-in_err-subsort-in-Container-clause-left : goal.returns-in_err-subsort-in-Container-clause-left
returns-in_err-subsort-in-Container-clause-left c =
    way.handed_on _ _ _ _ c.from_residual.ensures
    (way.container_missing _ _ _ _ _ _ _ c.loop-step.invariant.3 _ c.loop-step.invariant.4 c.loop-step-test.true _ c.from.ensures _ c.in-Container.is _ c.in_err-subsort-in-Container.ensures.top)

pub returns-in_err-ok-in-Container-clause-left : goal.returns-in_err-ok-in-Container-clause-left
returns-in_err-ok-in-Container-clause-left c =
    way.handed_on _ _ _ _ c.from_residual-in_err-ok-in-Container.ensures
    (way.container_has_no_room _ _ _ _ _ _ _ c.loop-step.invariant.3 _ c.loop-step.invariant.4 c.loop-step-test.true _ c.from.ensures _ c.in-Container.is _ _ c.in_ok-subsort-in-Container.ensures.top
    c.generic.new.self.words.now c.generic.new.self.counts (way.full_of _ c.generic.new.self.counts c.generic.result (sym c.ok.ensures.value ∙ c.in_err-ok-in-Container.was) ∙ c.generic.ensures.interned))

pub returns-in_err-range-in-Function-clause-left : goal.returns-in_err-range-in-Function-clause-left
returns-in_err-range-in-Function-clause-left c =
    way.handed_on _ _ _ _ c.from_residual-in_err-range-in-Function.ensures
    (way.range_missing _ _ _ _ _ _ _ c.loop-step.invariant.3 _ c.loop-step.invariant.4 c.loop-step-test.true _ c.from.ensures _ c.in-Function.is _ c.in_err-range-in-Function.ensures.top)

pub returns-in_err-last-in-Function-clause-left : goal.returns-in_err-last-in-Function-clause-left
returns-in_err-last-in-Function-clause-left c =
    way.handed_on _ _ _ _ c.from_residual-in_err-last-in-Function.ensures
    (way.arguments_missing _ _ _ _ _ _ _ c.loop-step.invariant.3 _ c.loop-step.invariant.4 c.loop-step-test.true _ c.from.ensures _ c.in-Function.is _ _ c.in_ok-range-in-Function.ensures.top
    c.in_err-last-in-Function.ensures)

pub function-requires-clause-fine : goal.function-requires-clause-fine
function-requires-clause-fine c =
    way.function_asked _ _ _ _ _ _ _ c.loop-step.invariant.3 _ c.loop-step.invariant.4 c.loop-step-test.true _ c.from.ensures _ c.in-Function.is _ _ c.in_ok-range-in-Function.ensures.top
    _ c.in_ok-range-in-Function.ensures.ids _ c.in_ok-last-in-Function.ensures.0 c.in_ok-last-in-Function.ensures.1

pub returns-in_err-id-in-Function-clause-left : goal.returns-in_err-id-in-Function-clause-left
returns-in_err-id-in-Function-clause-left c =
    way.handed_on _ _ _ _ c.from_residual-in_err-id-in-Function.ensures
    (way.function_has_no_room _ _ _ _ _ _ _ c.loop-step.invariant.3 _ c.loop-step.invariant.4 c.loop-step-test.true _ c.from.ensures _ c.in-Function.is _ _ c.in_ok-range-in-Function.ensures.top
    _ c.in_ok-range-in-Function.ensures.ids _ c.in_ok-last-in-Function.ensures.0 c.in_ok-last-in-Function.ensures.1
    c.function.new.self.words.now c.function.new.self.counts (way.full_of _ c.function.new.self.counts c.function.result (sym c.ok-in-Function.ensures.value ∙ c.in_err-id-in-Function.was) ∙ c.function.ensures.interned))

pub loop-step-preserved : goal.loop-step-preserved
loop-step-preserved c =
    elim c.match-from.branch [
      | in-Fixed w ↦ rw (w.sorts-is, w.stack-is) (
        c.loop-step.invariant.0,
        c.loop-step.invariant.1,
        c.loop-step.invariant.2,
        omega (arith, ap length w.push.ensures.ids, length-set c.loop-step.stack.ids c.loop-step.stack.depth w.in-Fixed.id, c.loop-step.invariant.3),
        way.going_as _ _ _ _ _ w.push.ensures.ids w.push.ensures.depth
            (way.fixed_pushed _ _ _ _ _ _ _ c.loop-step.invariant.3 _ c.loop-step.invariant.4 c.loop-step-test.true _ c.from.ensures _ w.in-Fixed.is),
      )
      | in-Container+in_ok-subsort-in-Container+in_ok-ok-in-Container w ↦ rw (w.sorts-is, w.stack-is) (
        w.generic.ensures.same_reference ∙ c.loop-step.invariant.0,
        w.generic.ensures.same_index ∙ c.loop-step.invariant.1,
        w.generic.ensures.indexed,
        omega (
          arith,
          ap length w.push-in-Container.ensures.ids,
          length-set w.pop.new.self.ids w.pop.new.self.depth w.in_ok-ok-in-Container.field-0,
          ap length w.pop.ensures.ids,
          c.loop-step.invariant.3,
        ),
        way.going_as _ _ _ _ _ w.push-in-Container.ensures.ids w.push-in-Container.ensures.depth
            (way.container_pushed _ _ _ _ _ _ _ c.loop-step.invariant.3 _ c.loop-step.invariant.4 c.loop-step-test.true _ c.from.ensures _ w.in-Container.is _ _ w.in_ok-subsort-in-Container.ensures.top
            w.generic.new.self.words.now _ w.generic.new.self.counts
            (way.made_of _ w.generic.new.self.counts w.generic.result (sym w.ok.ensures.value ∙ w.in_ok-ok-in-Container.was) ∙ w.generic.ensures.interned) _ w.pop.ensures.ids),
      )
      | in-Function+in_ok-range-in-Function+in_ok-last-in-Function+in_ok-id-in-Function w ↦ rw (w.sorts-is, w.stack-is) (
        w.function.ensures.same_reference ∙ c.loop-step.invariant.0,
        w.function.ensures.same_index ∙ c.loop-step.invariant.1,
        w.function.ensures.indexed,
        omega (
          arith,
          ap length w.push-in-Function.ensures.ids,
          length-set w.pop-in-Function.new.self.ids (w.pop-in-Function.new.self.depth - w.in-Function.count) w.in_ok-id-in-Function.id,
          ap length w.pop-in-Function.ensures.ids,
          c.loop-step.invariant.3,
        ),
        way.going_as _ _ _ _ _ w.push-in-Function.ensures.ids w.push-in-Function.ensures.depth
            (way.function_pushed _ _ _ _ _ _ _ c.loop-step.invariant.3 _ c.loop-step.invariant.4 c.loop-step-test.true _ c.from.ensures _ w.in-Function.is _ _ w.in_ok-range-in-Function.ensures.top
            _ w.pop-in-Function.ensures.ids _ w.in_ok-last-in-Function.ensures.0 w.in_ok-last-in-Function.ensures.1
            w.function.new.self.words.now _ w.function.new.self.counts
            (way.made_of _ w.function.new.self.counts w.function.result (sym w.ok-in-Function.ensures.value ∙ w.in_ok-id-in-Function.was) ∙ w.function.ensures.interned)),
      )
    ]

pub returns-clause-left : goal.returns-clause-left
returns-clause-left c =
    way.ends _ _ _ _ _ _ _ c.loop-step.invariant.3 _ c.loop-step.invariant.4 c.loop-step-test.false _ _ c.pop-2.ensures.top
