-- Each answer is what the rows say of the two sorts, by a law, and each call falls by a law. Assumes nothing.
use Rattle.resolved_sort.proofs.RowsSay as say
use Rattle.sort_order.proofs.RowsRead as read
use Rattle.sort_order.proofs.Falls as falling
use Rattle.sort_order.proofs.Orders as law
use Rattle.sort_order.proofs.+partial_cmp.Goals as goal

pub returns-then-eq : goal.returns-then-eq
returns-then-eq t c = law.ordering_of_equal _ _ _ _ (say.numbers_same _ _ c.eq.ensures c.if-eq.true)

pub partial_cmp-requires : goal.partial_cmp-requires
partial_cmp-requires t c =
    let s = c.args.sorts.now in
    let r = c.requires in
    let i = c.in-Container-Container in
    falling.parts_fall c.decreases r.0 r.1 (read.containers s.checked r c.eq.ensures c.if-eq.false
    c.get.ensures c.get-2.ensures i.is-0 i.is-1)

pub loop-k-init : goal.loop-k-init
loop-k-init t c = law.left_at_start _ _ _ _ _

pub partial_cmp-requires-in-loop-k : goal.partial_cmp-requires-in-loop-k
partial_cmp-requires-in-loop-k t c =
    let s = c.args.sorts.now in
    let r = c.requires in
    let i = c.in-Function-Function in
    falling.arguments_fall c.decreases r.0 r.1 (read.functions s.checked r c.eq.ensures c.if-eq.false
    c.get.ensures c.get-2.ensures i.is-0 i.is-1 c.if-lhs_domain-rhs_domain.true) c.loop-k.k c.loop-k-test.true
    c.argument-lhs_arg.ensures c.argument-rhs_arg.ensures

pub loop-k-preserved : goal.loop-k-preserved
loop-k-preserved t c =
    law.left_next _ _ _ _ _ _ _ c.loop-k.invariant c.loop-k-test.true
    c.argument-lhs_arg.ensures c.argument-rhs_arg.ensures c.partial_cmp-in-loop-k.ensures c.combine-ordering.ensures

pub partial_cmp-requires-in-Function-Function : goal.partial_cmp-requires-in-Function-Function
partial_cmp-requires-in-Function-Function t c =
    let s = c.args.sorts.now in
    let r = c.requires in
    let i = c.in-Function-Function in
    falling.ranges_fall c.decreases r.0 r.1 (read.functions s.checked r c.eq.ensures c.if-eq.false
    c.get.ensures c.get-2.ensures i.is-0 i.is-1 c.if-lhs_domain-rhs_domain.true)

pub returns-in-Primitive-Primitive : goal.returns-in-Primitive-Primitive
returns-in-Primitive-Primitive t c =
    let s = c.args.sorts.now in
    let r = c.requires in
    let i = c.in-Primitive-Primitive in
    law.ordering_of_primitive _ _ (read.primitives s.checked r c.eq.ensures c.if-eq.false c.get.ensures c.get-2.ensures i.is-0 i.is-1)
    c.heads_partial_cmp.ensures

pub returns-in-Container-Container : goal.returns-in-Container-Container
returns-in-Container-Container t c =
    let s = c.args.sorts.now in
    let r = c.requires in
    let i = c.in-Container-Container in
    law.ordering_of_containers _ _ (read.containers s.checked r c.eq.ensures c.if-eq.false c.get.ensures c.get-2.ensures i.is-0 i.is-1)
    c.heads_partial_cmp-in-Container-Container.ensures c.partial_cmp.ensures c.combine.ensures

pub returns-after-loop-k : goal.returns-after-loop-k
returns-after-loop-k t c =
    let s = c.args.sorts.now in
    let r = c.requires in
    let i = c.in-Function-Function in
    law.ordering_of_functions _ _ _ (read.functions s.checked r c.eq.ensures c.if-eq.false
    c.get.ensures c.get-2.ensures i.is-0 i.is-1 c.if-lhs_domain-rhs_domain.true)
    c.loop-k.invariant c.loop-k-test.false c.partial_cmp-in-Function-Function.ensures c.combine-in-Function-Function.ensures

pub returns-in_default : goal.returns-in_default
returns-in_default t c =
    let s = c.args.sorts.now in
    let r = c.requires in
    law.ordering_of_unlike _ _ _ _ (read.unlike_primitive s.checked r c.eq.ensures c.if-eq.false c.get.ensures c.get-2.ensures c.in_default.is-0 c.in_default.not-Primitive-1)

pub returns-in_default-2 : goal.returns-in_default-2
returns-in_default-2 t c =
    let s = c.args.sorts.now in
    let r = c.requires in
    law.ordering_of_unlike _ _ _ _ (read.unlike_container s.checked r c.eq.ensures c.if-eq.false c.get.ensures c.get-2.ensures c.in_default.is-0 c.in_default.not-Container-1)

pub returns-in_default-3 : goal.returns-in_default-3
returns-in_default-3 t c =
    let s = c.args.sorts.now in
    let r = c.requires in
    let i = c.in-Function-Function in
    law.ordering_of_unlike _ _ _ _ (read.unlike_functions s.checked r c.eq.ensures c.if-eq.false
    c.get.ensures c.get-2.ensures i.is-0 i.is-1 c.if-lhs_domain-rhs_domain.false)

pub returns-in_default-4 : goal.returns-in_default-4
returns-in_default-4 t c =
    let s = c.args.sorts.now in
    let r = c.requires in
    law.ordering_of_unlike _ _ _ _ (read.unlike_function s.checked r c.eq.ensures c.if-eq.false c.get.ensures c.get-2.ensures c.in_default.is-0 c.in_default.not-Function-1)

pub returns-in_default-5 : goal.returns-in_default-5
returns-in_default-5 t c =
    let s = c.args.sorts.now in
    let r = c.requires in
    law.ordering_of_unlike _ _ _ _ (read.unlike_rest s.checked r c.eq.ensures c.if-eq.false c.get.ensures c.get-2.ensures
    c.in_default.not-Primitive-0 c.in_default.not-Container-0 c.in_default.not-Function-0)
