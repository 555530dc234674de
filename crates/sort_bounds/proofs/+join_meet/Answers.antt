-- Each answer is what the rows say of the two sorts and what the calls have left, by a law. Assumes nothing.
use Rattle.std.proofs.Common.{refl, ap, arith, ◌∙◌}
use Rattle.std.specs.Prelude.{Ok}
use Rattle.resolved_sort.proofs.RowsSay as say
use Rattle.sort_bounds.proofs.Ways as way
use Rattle.sort_bounds.proofs.+join_meet.Goals as goal

pub bound-returns-then-eq-clause-left : goal.bound-returns-then-eq-clause-left
bound-returns-then-eq-clause-left t c =
    let s = c.args.sorts.now in
    way.itself s.words.now s.counts c.args.up c.args.lhs c.args.rhs c.requires.asked (say.numbers_same _ _ c.eq.ensures c.if-eq.true)

pub bound-returns-in_default-farther-clause-left : goal.bound-returns-in_default-farther-clause-left
bound-returns-in_default-farther-clause-left t c =
    let s = c.args.sorts.now in
    let i = c.in-Container-Container in
    way.no_operator s.words.now s.counts c.args.up c.args.lhs c.args.rhs c.requires.asked
    c.eq.ensures c.if-eq.false c.get.ensures c.get-2.ensures i.is-0 i.is-1
    _ c.farther-in-Container-Container.ensures c.in_default-farther.is

pub bound-bound-requires : goal.bound-bound-requires
bound-bound-requires t c =
    let s = c.args.sorts.now in
    let i = c.in-Container-Container in
    let h = way.parts_asked s.words.now s.counts c.args.up c.args.lhs c.args.rhs c.requires.asked
    c.eq.ensures c.if-eq.false c.get.ensures c.get-2.ensures i.is-0 i.is-1 in
    (omega (arith, c.decreases, h.0), (h.1, c.requires.indexed))

pub bound-returns-in_err-subsort-in-Container-Container-clause-left : goal.bound-returns-in_err-subsort-in-Container-Container-clause-left
bound-returns-in_err-subsort-in-Container-Container-clause-left t c =
    let s = c.args.sorts.now in
    let i = c.in-Container-Container in
    way.err_left _ _ _ c.from_residual.ensures.0 ∙ way.part_ends s.words.now s.counts c.args.up c.args.lhs c.args.rhs c.requires.asked
    c.eq.ensures c.if-eq.false c.get.ensures c.get-2.ensures i.is-0 i.is-1
    _ c.farther-in-Container-Container.ensures _ c.in-Some.is
    _ _ _ c.bound.ensures.left c.in_err-subsort-in-Container-Container.was

pub bound-returns-in_err-subsort-in-Container-Container-clause-usable : goal.bound-returns-in_err-subsort-in-Container-Container-clause-usable
bound-returns-in_err-subsort-in-Container-Container-clause-usable t c =
    way.err_usable _ (way.at_err _ c.in_err-subsort-in-Container-Container.was c.bound.ensures.usable)

pub bound-returns-in_default-2-clause-left : goal.bound-returns-in_default-2-clause-left
bound-returns-in_default-2-clause-left t c =
    let s = c.args.sorts.now in
    let i = c.in-Container-Container in
    way.part_stops s.words.now s.counts c.args.up c.args.lhs c.args.rhs c.requires.asked
    c.eq.ensures c.if-eq.false c.get.ensures c.get-2.ensures i.is-0 i.is-1
    _ c.farther-in-Container-Container.ensures _ c.in-Some.is
    _ _ _ c.bound.ensures.left (c.in_ok-subsort-in-Container-Container.was ∙ ap Ok c.in_default-2.is)

pub bound-generic-requires-clause-fine : goal.bound-generic-requires-clause-fine
bound-generic-requires-clause-fine t c =
    let s = c.args.sorts.now in
    let i = c.in-Container-Container in
    way.generic_asked s.words.now s.counts c.args.up c.args.lhs c.args.rhs c.requires.asked
    c.eq.ensures c.if-eq.false c.get.ensures c.get-2.ensures i.is-0 i.is-1
    _ c.farther-in-Container-Container.ensures _ c.in-Some.is
    _ _ _ c.bound.ensures.left
    _ (c.in_ok-subsort-in-Container-Container.was ∙ ap Ok c.in-Some-2.is)

pub bound-returns-in_err-generic-in-Container-Container-clause-left : goal.bound-returns-in_err-generic-in-Container-Container-clause-left
bound-returns-in_err-generic-in-Container-Container-clause-left t c =
    let s = c.args.sorts.now in
    let i = c.in-Container-Container in
    way.err_left _ _ _ c.from_residual-in_err-generic-in-Container-Container.ensures.0
    ∙ (way.full_of c.generic.new.self.words.now c.generic.new.self.counts c.generic.result c.in_err-generic-in-Container-Container.was ∙ way.container_made s.words.now s.counts c.args.up c.args.lhs c.args.rhs c.requires.asked
    c.eq.ensures c.if-eq.false c.get.ensures c.get-2.ensures i.is-0 i.is-1
    _ c.farther-in-Container-Container.ensures _ c.in-Some.is
    _ _ _ c.bound.ensures.left
    _ (c.in_ok-subsort-in-Container-Container.was ∙ ap Ok c.in-Some-2.is) c.generic.new.self.words.now c.generic.new.self.counts c.generic.result c.generic.ensures.interned)

pub bound-returns-in_err-generic-in-Container-Container-clause-usable : goal.bound-returns-in_err-generic-in-Container-Container-clause-usable
bound-returns-in_err-generic-in-Container-Container-clause-usable t c =
    let s = c.args.sorts.now in
    let i = c.in-Container-Container in
    way.err_usable _ (way.usable_kept _ _ s.counts _ _
    (way.generic_asked s.words.now s.counts c.args.up c.args.lhs c.args.rhs c.requires.asked
    c.eq.ensures c.if-eq.false c.get.ensures c.get-2.ensures i.is-0 i.is-1
    _ c.farther-in-Container-Container.ensures _ c.in-Some.is
    _ _ _ c.bound.ensures.left
    _ (c.in_ok-subsort-in-Container-Container.was ∙ ap Ok c.in-Some-2.is)).0
    (way.part_more s.words.now s.counts c.args.up c.args.lhs c.args.rhs c.requires.asked
    c.eq.ensures c.if-eq.false c.get.ensures c.get-2.ensures i.is-0 i.is-1
    _ c.farther-in-Container-Container.ensures _ c.in-Some.is
    _ _ _ c.bound.ensures.left
    _ (c.in_ok-subsort-in-Container-Container.was ∙ ap Ok c.in-Some-2.is))
    (way.at_err _ c.in_err-generic-in-Container-Container.was c.generic.ensures.kept))

pub bound-loop-k-init : goal.bound-loop-k-init
bound-loop-k-init t c =
    let s = c.args.sorts.now in
    let i = c.in-Function-Function in (
      refl,
      refl,
      c.requires.indexed,
      way.grown_from_start s.words.now s.counts c.args.up c.args.lhs c.args.rhs c.requires.asked
          c.eq.ensures c.if-eq.false c.get.ensures c.get-2.ensures i.is-0 i.is-1 c.if-lhs_domain-rhs_domain.true,
    )

pub bound-against-requires : goal.bound-against-requires
bound-against-requires t c =
    let s = c.args.sorts.now in
    let i = c.in-Function-Function in
    let h = way.arguments_asked s.words.now s.counts c.args.up c.args.lhs c.args.rhs c.requires.asked
    c.eq.ensures c.if-eq.false c.get.ensures c.get-2.ensures i.is-0 i.is-1 c.if-lhs_domain-rhs_domain.true
    _ _ _ _ c.loop-k.invariant.3.going c.loop-k-test.true _ _ c.argument-lhs_arg.ensures c.argument-rhs_arg.ensures in
    (omega (arith, c.decreases, h.0), (h.1, c.loop-k.invariant.2))

pub bound-returns-in_err-arg-in-Function-Function-clause-left : goal.bound-returns-in_err-arg-in-Function-Function-clause-left
bound-returns-in_err-arg-in-Function-Function-clause-left t c =
    let s = c.args.sorts.now in
    let i = c.in-Function-Function in
    way.err_left _ _ _ c.from_residual-in_err-arg-in-Function-Function.ensures.0 ∙ way.arguments_end s.words.now s.counts c.args.up c.args.lhs c.args.rhs c.requires.asked
    c.eq.ensures c.if-eq.false c.get.ensures c.get-2.ensures i.is-0 i.is-1 c.if-lhs_domain-rhs_domain.true
    _ _ _ _ c.loop-k.invariant.3.going c.loop-k-test.true _ _ c.argument-lhs_arg.ensures c.argument-rhs_arg.ensures
    _ _ _ c.against.ensures.left
    c.in_err-arg-in-Function-Function.was

pub bound-returns-in_err-arg-in-Function-Function-clause-usable : goal.bound-returns-in_err-arg-in-Function-Function-clause-usable
bound-returns-in_err-arg-in-Function-Function-clause-usable t c =
    way.err_usable _ (way.usable_after _ _ _ _ c.loop-k.invariant.3.more (way.at_err _ c.in_err-arg-in-Function-Function.was c.against.ensures.usable))

pub bound-returns-in_default-3-clause-left : goal.bound-returns-in_default-3-clause-left
bound-returns-in_default-3-clause-left t c =
    let s = c.args.sorts.now in
    let i = c.in-Function-Function in
    way.arguments_stop s.words.now s.counts c.args.up c.args.lhs c.args.rhs c.requires.asked
    c.eq.ensures c.if-eq.false c.get.ensures c.get-2.ensures i.is-0 i.is-1 c.if-lhs_domain-rhs_domain.true
    _ _ _ _ c.loop-k.invariant.3.going c.loop-k-test.true _ _ c.argument-lhs_arg.ensures c.argument-rhs_arg.ensures
    _ _ _ c.against.ensures.left
    (c.in_ok-arg-in-Function-Function.was ∙ ap Ok c.in_default-3.is)

pub bound-bounds-domain-k : goal.bound-bounds-domain-k
bound-bounds-domain-k t c =
    let s = c.args.sorts.now in
    let i = c.in-Function-Function in
    way.below_sixteen s.words.now s.counts c.args.up c.args.lhs c.args.rhs c.requires.asked
    c.eq.ensures c.if-eq.false c.get.ensures c.get-2.ensures i.is-0 i.is-1 c.if-lhs_domain-rhs_domain.true
    _ _ _ _ c.loop-k.invariant.3.going c.loop-k-test.true _ _ c.argument-lhs_arg.ensures c.argument-rhs_arg.ensures

pub bound-loop-k-preserved : goal.bound-loop-k-preserved
bound-loop-k-preserved t c =
    let s = c.args.sorts.now in
    let i = c.in-Function-Function in (
      c.against.ensures.same_reference ∙ c.loop-k.invariant.0,
      c.against.ensures.same_index ∙ c.loop-k.invariant.1,
      c.against.ensures.indexed,
      way.grown_on s.words.now s.counts c.args.up c.args.lhs c.args.rhs c.requires.asked
          c.eq.ensures c.if-eq.false c.get.ensures c.get-2.ensures i.is-0 i.is-1 c.if-lhs_domain-rhs_domain.true
          _ _ _ _ c.loop-k.invariant.3.going c.loop-k-test.true _ _ c.argument-lhs_arg.ensures c.argument-rhs_arg.ensures
          _ _ _ c.against.ensures.left
          _ (c.in_ok-arg-in-Function-Function.was ∙ ap Ok c.in-Some-3.is) c.loop-k.invariant.3.more,
    )

pub bound-bound-requires-in-Function-Function : goal.bound-bound-requires-in-Function-Function
bound-bound-requires-in-Function-Function t c =
    let s = c.args.sorts.now in
    let i = c.in-Function-Function in
    let h = way.range_asked s.words.now s.counts c.args.up c.args.lhs c.args.rhs c.requires.asked
    c.eq.ensures c.if-eq.false c.get.ensures c.get-2.ensures i.is-0 i.is-1 c.if-lhs_domain-rhs_domain.true
    _ _ _ _ c.loop-k.invariant.3.going
    c.loop-k.auto.k-end c.loop-k-test.false in
    (omega (arith, c.decreases, h.0), (h.1, c.loop-k.invariant.2))

pub bound-returns-in_err-range-in-Function-Function-clause-left : goal.bound-returns-in_err-range-in-Function-Function-clause-left
bound-returns-in_err-range-in-Function-Function-clause-left t c =
    let s = c.args.sorts.now in
    let i = c.in-Function-Function in
    way.err_left _ _ _ c.from_residual-in_err-range-in-Function-Function.ensures.0 ∙ way.range_ends s.words.now s.counts c.args.up c.args.lhs c.args.rhs c.requires.asked
    c.eq.ensures c.if-eq.false c.get.ensures c.get-2.ensures i.is-0 i.is-1 c.if-lhs_domain-rhs_domain.true
    _ _ _ _ c.loop-k.invariant.3.going
    c.loop-k.auto.k-end c.loop-k-test.false _ _ _ c.bound-in-Function-Function.ensures.left
    c.in_err-range-in-Function-Function.was

pub bound-returns-in_err-range-in-Function-Function-clause-usable : goal.bound-returns-in_err-range-in-Function-Function-clause-usable
bound-returns-in_err-range-in-Function-Function-clause-usable t c =
    way.err_usable _ (way.usable_after _ _ _ _ c.loop-k.invariant.3.more
    (way.at_err _ c.in_err-range-in-Function-Function.was c.bound-in-Function-Function.ensures.usable))

pub bound-returns-in_default-4-clause-left : goal.bound-returns-in_default-4-clause-left
bound-returns-in_default-4-clause-left t c =
    let s = c.args.sorts.now in
    let i = c.in-Function-Function in
    way.range_stops s.words.now s.counts c.args.up c.args.lhs c.args.rhs c.requires.asked
    c.eq.ensures c.if-eq.false c.get.ensures c.get-2.ensures i.is-0 i.is-1 c.if-lhs_domain-rhs_domain.true
    _ _ _ _ c.loop-k.invariant.3.going
    c.loop-k.auto.k-end c.loop-k-test.false _ _ _ c.bound-in-Function-Function.ensures.left
    (c.in_ok-range-in-Function-Function.was ∙ ap Ok c.in_default-4.is)

pub bound-slice_bounds-domain-end : goal.bound-slice_bounds-domain-end
bound-slice_bounds-domain-end t c =
    let s = c.args.sorts.now in
    let i = c.in-Function-Function in
    way.domain_fits s.words.now s.counts c.args.up c.args.lhs c.args.rhs c.requires.asked
    c.eq.ensures c.if-eq.false c.get.ensures c.get-2.ensures i.is-0 i.is-1 c.if-lhs_domain-rhs_domain.true
    _ _ _ _ c.loop-k.invariant.3.going
    c.loop-k.auto.k-end c.loop-k-test.false

pub bound-slice_bounds-function-end : goal.bound-slice_bounds-function-end
bound-slice_bounds-function-end t c =
    let s = c.args.sorts.now in
    let i = c.in-Function-Function in
    way.domain_long s.words.now s.counts c.args.up c.args.lhs c.args.rhs c.requires.asked
    c.eq.ensures c.if-eq.false c.get.ensures c.get-2.ensures i.is-0 i.is-1 c.if-lhs_domain-rhs_domain.true
    _ _ _ _ c.loop-k.invariant.3.going
    c.loop-k.auto.k-end c.loop-k-test.false

pub bound-function-requires-clause-fine : goal.bound-function-requires-clause-fine
bound-function-requires-clause-fine t c =
    let s = c.args.sorts.now in
    let i = c.in-Function-Function in
    way.function_asked s.words.now s.counts c.args.up c.args.lhs c.args.rhs c.requires.asked
    c.eq.ensures c.if-eq.false c.get.ensures c.get-2.ensures i.is-0 i.is-1 c.if-lhs_domain-rhs_domain.true
    _ _ _ _ c.loop-k.invariant.3.going
    c.loop-k.auto.k-end c.loop-k-test.false _ _ _ c.bound-in-Function-Function.ensures.left
    _ (c.in_ok-range-in-Function-Function.was ∙ ap Ok c.in-Some-4.is)

pub bound-returns-in_err-function-in-Function-Function-clause-left : goal.bound-returns-in_err-function-in-Function-Function-clause-left
bound-returns-in_err-function-in-Function-Function-clause-left t c =
    let s = c.args.sorts.now in
    let i = c.in-Function-Function in
    way.err_left _ _ _ c.from_residual-in_err-function-in-Function-Function.ensures.0
    ∙ (way.full_of c.function.new.self.words.now c.function.new.self.counts c.function.result c.in_err-function-in-Function-Function.was ∙ way.function_made s.words.now s.counts c.args.up c.args.lhs c.args.rhs c.requires.asked
    c.eq.ensures c.if-eq.false c.get.ensures c.get-2.ensures i.is-0 i.is-1 c.if-lhs_domain-rhs_domain.true
    _ _ _ _ c.loop-k.invariant.3.going
    c.loop-k.auto.k-end c.loop-k-test.false _ _ _ c.bound-in-Function-Function.ensures.left
    _ (c.in_ok-range-in-Function-Function.was ∙ ap Ok c.in-Some-4.is) c.function.new.self.words.now c.function.new.self.counts c.function.result c.function.ensures.interned)

pub bound-returns-in_err-function-in-Function-Function-clause-usable : goal.bound-returns-in_err-function-in-Function-Function-clause-usable
bound-returns-in_err-function-in-Function-Function-clause-usable t c =
    let s = c.args.sorts.now in
    let i = c.in-Function-Function in
    way.err_usable _ (way.usable_kept _ _ s.counts _ _
    (way.function_asked s.words.now s.counts c.args.up c.args.lhs c.args.rhs c.requires.asked
    c.eq.ensures c.if-eq.false c.get.ensures c.get-2.ensures i.is-0 i.is-1 c.if-lhs_domain-rhs_domain.true
    _ _ _ _ c.loop-k.invariant.3.going
    c.loop-k.auto.k-end c.loop-k-test.false _ _ _ c.bound-in-Function-Function.ensures.left
    _ (c.in_ok-range-in-Function-Function.was ∙ ap Ok c.in-Some-4.is)).0
    (way.range_more s.words.now s.counts c.args.up c.args.lhs c.args.rhs c.requires.asked
    c.eq.ensures c.if-eq.false c.get.ensures c.get-2.ensures i.is-0 i.is-1 c.if-lhs_domain-rhs_domain.true
    _ _ _ _ c.loop-k.invariant.3.going
    c.loop-k.auto.k-end c.loop-k-test.false _ _ _ c.bound-in-Function-Function.ensures.left
    c.loop-k.invariant.3.more _ (c.in_ok-range-in-Function-Function.was ∙ ap Ok c.in-Some-4.is))
    (way.at_err _ c.in_err-function-in-Function-Function.was c.function.ensures.kept))

pub bound-returns-in-Primitive-Primitive-clause-left : goal.bound-returns-in-Primitive-Primitive-clause-left
bound-returns-in-Primitive-Primitive-clause-left t c =
    let s = c.args.sorts.now in
    let i = c.in-Primitive-Primitive in
    way.number s.words.now s.counts c.args.up c.args.lhs c.args.rhs c.requires.asked
    c.eq.ensures c.if-eq.false c.get.ensures c.get-2.ensures i.is-0 i.is-1 _ c.farther.ensures

pub bound-returns-in_ok-generic-in-Container-Container-clause-left : goal.bound-returns-in_ok-generic-in-Container-Container-clause-left
bound-returns-in_ok-generic-in-Container-Container-clause-left t c =
    let s = c.args.sorts.now in
    let i = c.in-Container-Container in
    way.made_of c.generic.new.self.words.now c.generic.new.self.counts c.generic.result c.in_ok-generic-in-Container-Container.was ∙ way.container_made s.words.now s.counts c.args.up c.args.lhs c.args.rhs c.requires.asked
    c.eq.ensures c.if-eq.false c.get.ensures c.get-2.ensures i.is-0 i.is-1
    _ c.farther-in-Container-Container.ensures _ c.in-Some.is
    _ _ _ c.bound.ensures.left
    _ (c.in_ok-subsort-in-Container-Container.was ∙ ap Ok c.in-Some-2.is) c.generic.new.self.words.now c.generic.new.self.counts c.generic.result c.generic.ensures.interned

pub bound-returns-in_ok-function-in-Function-Function-clause-left : goal.bound-returns-in_ok-function-in-Function-Function-clause-left
bound-returns-in_ok-function-in-Function-Function-clause-left t c =
    let s = c.args.sorts.now in
    let i = c.in-Function-Function in
    way.made_of c.function.new.self.words.now c.function.new.self.counts c.function.result c.in_ok-function-in-Function-Function.was ∙ way.function_made s.words.now s.counts c.args.up c.args.lhs c.args.rhs c.requires.asked
    c.eq.ensures c.if-eq.false c.get.ensures c.get-2.ensures i.is-0 i.is-1 c.if-lhs_domain-rhs_domain.true
    _ _ _ _ c.loop-k.invariant.3.going
    c.loop-k.auto.k-end c.loop-k-test.false _ _ _ c.bound-in-Function-Function.ensures.left
    _ (c.in_ok-range-in-Function-Function.was ∙ ap Ok c.in-Some-4.is) c.function.new.self.words.now c.function.new.self.counts c.function.result c.function.ensures.interned

pub bound-returns-in_default : goal.bound-returns-in_default
bound-returns-in_default t c =
    let s = c.args.sorts.now in
    record {
      same_reference = refl;
      same_index = refl;
      indexed = c.requires.indexed;
      usable = tt;
      left = way.other s.words.now s.counts c.args.up c.args.lhs c.args.rhs c.requires.asked
          c.eq.ensures c.if-eq.false
          (λ d. say.unlike_primitive c.requires.asked.checked c.requires.asked.lhs c.requires.asked.rhs d c.get.ensures c.get-2.ensures c.in_default.is-0 c.in_default.not-Primitive-1);
    }

pub bound-returns-in_default-6 : goal.bound-returns-in_default-6
bound-returns-in_default-6 t c =
    let s = c.args.sorts.now in
    record {
      same_reference = refl;
      same_index = refl;
      indexed = c.requires.indexed;
      usable = tt;
      left = way.other s.words.now s.counts c.args.up c.args.lhs c.args.rhs c.requires.asked
          c.eq.ensures c.if-eq.false
          (λ d. say.unlike_container c.requires.asked.checked c.requires.asked.lhs c.requires.asked.rhs d c.get.ensures c.get-2.ensures c.in_default.is-0 c.in_default.not-Container-1);
    }

pub bound-returns-in_default-7-clause-left : goal.bound-returns-in_default-7-clause-left
bound-returns-in_default-7-clause-left t c =
    let s = c.args.sorts.now in
    let i = c.in-Function-Function in
    way.other s.words.now s.counts c.args.up c.args.lhs c.args.rhs c.requires.asked
    c.eq.ensures c.if-eq.false
    (λ d. say.unlike_functions c.requires.asked.checked c.requires.asked.lhs c.requires.asked.rhs d c.get.ensures c.get-2.ensures i.is-0 i.is-1 c.if-lhs_domain-rhs_domain.false)

pub bound-returns-in_default-8 : goal.bound-returns-in_default-8
bound-returns-in_default-8 t c =
    let s = c.args.sorts.now in
    record {
      same_reference = refl;
      same_index = refl;
      indexed = c.requires.indexed;
      usable = tt;
      left = way.other s.words.now s.counts c.args.up c.args.lhs c.args.rhs c.requires.asked
          c.eq.ensures c.if-eq.false
          (λ d. say.unlike_function c.requires.asked.checked c.requires.asked.lhs c.requires.asked.rhs d c.get.ensures c.get-2.ensures c.in_default.is-0 c.in_default.not-Function-1);
    }

pub bound-returns-in_default-5-clause-left : goal.bound-returns-in_default-5-clause-left
bound-returns-in_default-5-clause-left t c =
    let s = c.args.sorts.now in
    way.other s.words.now s.counts c.args.up c.args.lhs c.args.rhs c.requires.asked
    c.eq.ensures c.if-eq.false
    (λ d. say.unlike_rest c.requires.asked.checked c.requires.asked.lhs c.requires.asked.rhs d c.get.ensures c.get-2.ensures
    c.in_default.not-Primitive-0 c.in_default.not-Container-0 c.in_default.not-Function-0)
