-- Each answer is what the rows say of the two sorts, by a law, and the call falls by a law. Assumes nothing.
use Rattle.std.proofs.Common.{refl, ◌∙◌}
use Rattle.resolved_sort.proofs.RowsSay as say
use Rattle.sort_order.proofs.RowsRead as read
use Rattle.sort_order.proofs.Falls as falling
use Rattle.sort_order.proofs.Materializing as law
use Rattle.sort_order.proofs.+is_materializable.Goals as goal

pub returns-then-eq : goal.returns-then-eq
returns-then-eq t c =
    law.materializable_of_equal _ _ _ _ (say.numbers_same _ _ c.eq.ensures c.if-eq.true)

pub is_materializable-requires : goal.is_materializable-requires
is_materializable-requires t c =
    let s = c.args.sorts.now in
    let r = c.requires in
    let i = c.in-Function-Function in
    falling.ranges_fall c.decreases r.0 r.1 (read.functions s.checked r c.eq.ensures c.if-eq.false c.get.ensures c.get-2.ensures
    i.is-0 i.is-1 (law.counts_same _ _ _ c.same_arguments.ensures c.if-same_arguments.true))

pub returns-in-Primitive-Primitive : goal.returns-in-Primitive-Primitive
returns-in-Primitive-Primitive t c =
    let s = c.args.sorts.now in
    let r = c.requires in
    let i = c.in-Primitive-Primitive in
    law.materializable_of_primitive _ _ s.checked r.0 r.1 (say.numbers_differ _ _ c.eq.ensures c.if-eq.false)
    (read.primitives s.checked r c.eq.ensures c.if-eq.false c.get.ensures c.get-2.ensures i.is-0 i.is-1)
    c.heads_partial_cmp.ensures (law.less_tested _ _ c.eq-in-Primitive-Primitive.ensures refl refl refl)

pub returns-then-eq-2 : goal.returns-then-eq-2
returns-then-eq-2 t c =
    let s = c.args.sorts.now in
    let r = c.requires in
    let i = c.in-Container-Container in
    law.materializable_of_containers _ _ s.checked r.0 r.1 (say.numbers_differ _ _ c.eq.ensures c.if-eq.false)
    (read.containers s.checked r c.eq.ensures c.if-eq.false c.get.ensures c.get-2.ensures i.is-0 i.is-1)
    (say.numbers_same _ _ c.eq-in-Container-Container.ensures c.if-eq-2.true) c.heads_partial_cmp-then-eq-2.ensures (law.less_tested _ _ c.eq-then-eq-2.ensures refl refl refl)

pub returns-else-eq-2 : goal.returns-else-eq-2
returns-else-eq-2 t c =
    let s = c.args.sorts.now in
    let r = c.requires in
    let i = c.in-Container-Container in
    c.if-eq-2.false ∙ law.not_materializable_containers _ _ s.checked r.0 r.1 (say.numbers_differ _ _ c.eq.ensures c.if-eq.false)
    (read.containers s.checked r c.eq.ensures c.if-eq.false c.get.ensures c.get-2.ensures i.is-0 i.is-1)
    (say.numbers_differ _ _ c.eq-in-Container-Container.ensures c.if-eq-2.false)

pub returns-then-same_arguments : goal.returns-then-same_arguments
returns-then-same_arguments t c =
    let s = c.args.sorts.now in
    let r = c.requires in
    let i = c.in-Function-Function in
    let q = law.counts_same _ _ _ c.same_arguments.ensures c.if-same_arguments.true in
    law.materializable_of_functions _ _ s.checked r.0 r.1 (say.numbers_differ _ _ c.eq.ensures c.if-eq.false)
    (read.functions s.checked r c.eq.ensures c.if-eq.false c.get.ensures c.get-2.ensures
    i.is-0 i.is-1 q) (law.by_count _ _ _ c.same_arguments.ensures q) c.if-same_arguments.true c.is_materializable.ensures

pub returns-else-same_arguments : goal.returns-else-same_arguments
returns-else-same_arguments t c =
    let s = c.args.sorts.now in
    let r = c.requires in
    let i = c.in-Function-Function in
    c.if-same_arguments.false ∙ law.not_same_arguments _ _ s.checked r.0 r.1 (say.numbers_differ _ _ c.eq.ensures c.if-eq.false)
    c.get.ensures c.get-2.ensures i.is-0 i.is-1 c.same_arguments.ensures c.if-same_arguments.false

pub returns-in_default : goal.returns-in_default
returns-in_default t c =
    let s = c.args.sorts.now in
    let r = c.requires in
    law.materializable_of_unlike _ _ _ _ (read.unlike_primitive s.checked r c.eq.ensures c.if-eq.false c.get.ensures c.get-2.ensures c.in_default.is-0 c.in_default.not-Primitive-1)

pub returns-in_default-2 : goal.returns-in_default-2
returns-in_default-2 t c =
    let s = c.args.sorts.now in
    let r = c.requires in
    law.materializable_of_unlike _ _ _ _ (read.unlike_container s.checked r c.eq.ensures c.if-eq.false c.get.ensures c.get-2.ensures c.in_default.is-0 c.in_default.not-Container-1)

pub returns-in_default-3 : goal.returns-in_default-3
returns-in_default-3 t c =
    let s = c.args.sorts.now in
    let r = c.requires in
    law.materializable_of_unlike _ _ _ _ (read.unlike_function s.checked r c.eq.ensures c.if-eq.false c.get.ensures c.get-2.ensures c.in_default.is-0 c.in_default.not-Function-1)

pub returns-in_default-4 : goal.returns-in_default-4
returns-in_default-4 t c =
    let s = c.args.sorts.now in
    let r = c.requires in
    law.materializable_of_unlike _ _ _ _ (read.unlike_rest s.checked r c.eq.ensures c.if-eq.false c.get.ensures c.get-2.ensures
    c.in_default.not-Primitive-0 c.in_default.not-Container-0 c.in_default.not-Function-0)
