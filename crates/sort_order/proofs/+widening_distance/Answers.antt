-- Each answer is what the rows say of the two sorts, by a law, and each call falls by a law. Assumes nothing.
use Rattle.std.proofs.Common.{◌∙◌}
use Rattle.resolved_sort.proofs.RowsSay as say
use Rattle.sort_order.proofs.RowsRead as read
use Rattle.sort_order.proofs.Falls as falling
use Rattle.sort_order.proofs.Distances as law
use Rattle.sort_order.proofs.+widening_distance.Goals as goal

pub returns-then-eq : goal.returns-then-eq
returns-then-eq t c = law.distance_of_equals _ _ _ _ (say.numbers_same _ _ c.eq.ensures c.if-eq.true)

pub returns-in_err-head-in-Primitive-Primitive : goal.returns-in_err-head-in-Primitive-Primitive
returns-in_err-head-in-Primitive-Primitive t c =
    let r = c.requires in
    let i = c.in-Primitive-Primitive in
    c.from_residual.ensures ∙ law.no_distance_of_primitives _ _ (read.primitives c.args.sorts.now.checked r c.eq.ensures c.if-eq.false c.get.ensures c.get-2.ensures i.is-0 i.is-1)
    c.heads_distance.ensures c.in_err-head-in-Primitive-Primitive.was

pub returns-in_err-head-in-Container-Container : goal.returns-in_err-head-in-Container-Container
returns-in_err-head-in-Container-Container t c =
    let r = c.requires in
    let i = c.in-Container-Container in
    c.from_residual-in_err-head-in-Container-Container.ensures
    ∙ law.no_head_distance _ _ (read.containers c.args.sorts.now.checked r c.eq.ensures c.if-eq.false c.get.ensures c.get-2.ensures i.is-0 i.is-1)
    c.heads_distance-in-Container-Container.ensures c.in_err-head-in-Container-Container.was

pub widening_distance-requires : goal.widening_distance-requires
widening_distance-requires t c =
    let r = c.requires in
    let i = c.in-Container-Container in
    falling.parts_fall c.decreases r.0 r.1 (read.containers c.args.sorts.now.checked r c.eq.ensures c.if-eq.false c.get.ensures c.get-2.ensures i.is-0 i.is-1)

pub returns-in_err-part-in-Container-Container : goal.returns-in_err-part-in-Container-Container
returns-in_err-part-in-Container-Container t c =
    let r = c.requires in
    let i = c.in-Container-Container in
    c.from_residual-in_err-part-in-Container-Container.ensures
    ∙ law.no_part_distance _ _ (read.containers c.args.sorts.now.checked r c.eq.ensures c.if-eq.false c.get.ensures c.get-2.ensures i.is-0 i.is-1)
    c.widening_distance.ensures c.in_err-part-in-Container-Container.was

pub widening_distance-requires-in-loop-k : goal.widening_distance-requires-in-loop-k
widening_distance-requires-in-loop-k t c =
    let r = c.requires in
    let i = c.in-Function-Function in
    falling.arguments_fall c.decreases r.0 r.1 (read.functions c.args.sorts.now.checked r c.eq.ensures c.if-eq.false
    c.get.ensures c.get-2.ensures i.is-0 i.is-1 c.if-from_domain-to_domain.true) c.loop-k.k c.loop-k-test.true
    c.argument-from_arg.ensures c.argument-to_arg.ensures

pub returns-in_err-part-in-Function-Function : goal.returns-in_err-part-in-Function-Function
returns-in_err-part-in-Function-Function t c =
    let r = c.requires in
    let i = c.in-Function-Function in
    c.from_residual-in_err-part-in-Function-Function.ensures
    ∙ law.no_argument_distance _ _ (read.functions c.args.sorts.now.checked r c.eq.ensures c.if-eq.false
    c.get.ensures c.get-2.ensures i.is-0 i.is-1 c.if-from_domain-to_domain.true) _ c.loop-k.invariant c.loop-k-test.true
    c.argument-from_arg.ensures c.argument-to_arg.ensures c.widening_distance-in-loop-k.ensures
    c.in_err-part-in-Function-Function.was

pub loop-k-preserved : goal.loop-k-preserved
loop-k-preserved t c =
    law.steps_next _ _ _ _ _ _ _ c.loop-k.invariant c.loop-k-test.true
    c.argument-from_arg.ensures c.argument-to_arg.ensures c.widening_distance-in-loop-k.ensures
    c.in_ok-part-in-Function-Function.was
    (law.sums_stop _ _ _ c.saturating_add-interior.ensures c.saturating_add-in-loop-k.ensures)

pub widening_distance-requires-in-Function-Function : goal.widening_distance-requires-in-Function-Function
widening_distance-requires-in-Function-Function t c =
    let r = c.requires in
    let i = c.in-Function-Function in
    falling.ranges_fall c.decreases r.0 r.1 (read.functions c.args.sorts.now.checked r c.eq.ensures c.if-eq.false
    c.get.ensures c.get-2.ensures i.is-0 i.is-1 c.if-from_domain-to_domain.true)

pub returns-in_err-part-in-Function-Function-2 : goal.returns-in_err-part-in-Function-Function-2
returns-in_err-part-in-Function-Function-2 t c =
    let r = c.requires in
    let i = c.in-Function-Function in
    c.from_residual-in_err-part-in-Function-Function-2.ensures
    ∙ law.no_range_distance _ _ (read.functions c.args.sorts.now.checked r c.eq.ensures c.if-eq.false
    c.get.ensures c.get-2.ensures i.is-0 i.is-1 c.if-from_domain-to_domain.true)
    c.widening_distance-in-Function-Function.ensures c.in_err-part-in-Function-Function-2.was

pub returns-in_ok-head-in-Primitive-Primitive : goal.returns-in_ok-head-in-Primitive-Primitive
returns-in_ok-head-in-Primitive-Primitive t c =
    let r = c.requires in
    let i = c.in-Primitive-Primitive in
    law.distance_of_primitives _ _ (read.primitives c.args.sorts.now.checked r c.eq.ensures c.if-eq.false c.get.ensures c.get-2.ensures i.is-0 i.is-1)
    c.heads_distance.ensures c.in_ok-head-in-Primitive-Primitive.was

pub returns-in_ok-part-in-Container-Container : goal.returns-in_ok-part-in-Container-Container
returns-in_ok-part-in-Container-Container t c =
    let r = c.requires in
    let i = c.in-Container-Container in
    law.distance_of_containers _ _ (read.containers c.args.sorts.now.checked r c.eq.ensures c.if-eq.false c.get.ensures c.get-2.ensures i.is-0 i.is-1)
    c.heads_distance-in-Container-Container.ensures c.in_ok-head-in-Container-Container.was
    c.widening_distance.ensures c.in_ok-part-in-Container-Container.was (law.sum_stops _ _ c.saturating_add.ensures)

pub returns-in_ok-part-in-Function-Function-2 : goal.returns-in_ok-part-in-Function-Function-2
returns-in_ok-part-in-Function-Function-2 t c =
    let r = c.requires in
    let i = c.in-Function-Function in
    law.distance_of_functions _ _ (read.functions c.args.sorts.now.checked r c.eq.ensures c.if-eq.false
    c.get.ensures c.get-2.ensures i.is-0 i.is-1 c.if-from_domain-to_domain.true)
    _ c.loop-k.invariant c.loop-k-test.false
    c.widening_distance-in-Function-Function.ensures c.in_ok-part-in-Function-Function-2.was
    (law.sums_stop _ _ _ c.saturating_add-in-Function-Function-2.ensures c.saturating_add-in-Function-Function.ensures)

pub returns-in_default : goal.returns-in_default
returns-in_default t c =
    let r = c.requires in
    law.distance_of_unlike _ _ _ _ (read.unlike_primitive c.args.sorts.now.checked r c.eq.ensures c.if-eq.false c.get.ensures c.get-2.ensures c.in_default.is-0 c.in_default.not-Primitive-1)

pub returns-in_default-2 : goal.returns-in_default-2
returns-in_default-2 t c =
    let r = c.requires in
    law.distance_of_unlike _ _ _ _ (read.unlike_container c.args.sorts.now.checked r c.eq.ensures c.if-eq.false c.get.ensures c.get-2.ensures c.in_default.is-0 c.in_default.not-Container-1)

pub returns-in_default-3 : goal.returns-in_default-3
returns-in_default-3 t c =
    let r = c.requires in
    let i = c.in-Function-Function in
    law.distance_of_unlike _ _ _ _ (read.unlike_functions c.args.sorts.now.checked r c.eq.ensures c.if-eq.false
    c.get.ensures c.get-2.ensures i.is-0 i.is-1 c.if-from_domain-to_domain.false)

pub returns-in_default-4 : goal.returns-in_default-4
returns-in_default-4 t c =
    let r = c.requires in
    law.distance_of_unlike _ _ _ _ (read.unlike_function c.args.sorts.now.checked r c.eq.ensures c.if-eq.false c.get.ensures c.get-2.ensures c.in_default.is-0 c.in_default.not-Function-1)

pub returns-in_default-5 : goal.returns-in_default-5
returns-in_default-5 t c =
    let r = c.requires in
    law.distance_of_unlike _ _ _ _ (read.unlike_rest c.args.sorts.now.checked r c.eq.ensures c.if-eq.false c.get.ensures c.get-2.ensures
    c.in_default.not-Primitive-0 c.in_default.not-Container-0 c.in_default.not-Function-0)
