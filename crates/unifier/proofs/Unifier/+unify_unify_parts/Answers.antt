-- Both sides at their ends; by what stands there `unify` binds, says yes or no, or asks the parts: from the left, each under the bindings of those
-- before. Assumes nothing.
use Rattle.std.proofs.Common.{arith, refl, sym, ◌∙◌}
use Rattle.unifier.proofs.Bound.{end_there, equal, apart, can_try, placed_too, work_too, leaves_too}
use Rattle.unifier.proofs.Steps as law
use Rattle.unifier.proofs.Unifier.+unify_unify_parts.Goals as goal

pub unify-returns-then-eq-clause-leaves : goal.unify-returns-then-eq-clause-leaves
unify-returns-then-eq-clause-leaves t c = law.same_end _ _ _ _ _ _ c.requires.0 _ _ _ _ c.requires.1 c.requires.2 (end_there c.bindings.result c.args.self.now c.bindings.ensures _ _ c.shallow_normalize-l.ensures)
    (end_there c.bindings-2.result c.args.self.now c.bindings-2.ensures _ _ c.shallow_normalize-r.ensures) (equal _ _ _ c.eq.ensures c.if-eq.true)

pub unify-variable_at-requires : goal.unify-variable_at-requires
unify-variable_at-requires t c = law.left_end_placed _ _ _ _ _ _ c.requires.0 _ _ _ _ c.requires.1 c.requires.2 (end_there c.bindings.result c.args.self.now c.bindings.ensures _ _ c.shallow_normalize-l.ensures)
    (end_there c.bindings-2.result c.args.self.now c.bindings-2.ensures _ _ c.shallow_normalize-r.ensures)

pub unify-variable_at-requires-2 : goal.unify-variable_at-requires-2
unify-variable_at-requires-2 t c = law.right_end_placed _ _ _ _ _ _ c.requires.0 _ _ _ _ c.requires.1 c.requires.2 (end_there c.bindings.result c.args.self.now c.bindings.ensures _ _ c.shallow_normalize-l.ensures)
    (end_there c.bindings-2.result c.args.self.now c.bindings-2.ensures _ _ c.shallow_normalize-r.ensures)

pub unify-bind_variables-requires : goal.unify-bind_variables-requires
unify-bind_variables-requires t c = law.two_variables _ _ _ _ _ _ c.requires.0 _ _ _ _ c.requires.1 c.requires.2 (end_there c.bindings.result c.args.self.now c.bindings.ensures _ _ c.shallow_normalize-l.ensures)
    (end_there c.bindings-2.result c.args.self.now c.bindings-2.ensures _ _ c.shallow_normalize-r.ensures)
    (apart _ _ _ c.eq.ensures c.if-eq.false) _ (sym c.in-Some-Some.is-0 ∙ c.variable_at.ensures) _ (sym c.in-Some-Some.is-1 ∙ c.variable_at-2.ensures)

pub unify-bind-requires : goal.unify-bind-requires
unify-bind-requires t c = law.left_variable _ _ _ _ _ _ c.requires.0 _ _ _ _ c.requires.1 c.requires.2 (end_there c.bindings.result c.args.self.now c.bindings.ensures _ _ c.shallow_normalize-l.ensures)
    (end_there c.bindings-2.result c.args.self.now c.bindings-2.ensures _ _ c.shallow_normalize-r.ensures)
    (apart _ _ _ c.eq.ensures c.if-eq.false) _ (sym c.in-Some-None.is-0 ∙ c.variable_at.ensures) (sym c.in-Some-None.is-1 ∙ c.variable_at-2.ensures)

pub unify-bind-requires-in-None-Some : goal.unify-bind-requires-in-None-Some
unify-bind-requires-in-None-Some t c = law.right_variable _ _ _ _ _ _ c.requires.0 _ _ _ _ c.requires.1 c.requires.2 (end_there c.bindings.result c.args.self.now c.bindings.ensures _ _ c.shallow_normalize-l.ensures)
    (end_there c.bindings-2.result c.args.self.now c.bindings-2.ensures _ _ c.shallow_normalize-r.ensures)
    (apart _ _ _ c.eq.ensures c.if-eq.false) (sym c.in-None-Some.is-0 ∙ c.variable_at.ensures) _ (sym c.in-None-Some.is-1 ∙ c.variable_at-2.ensures)

pub unify-unify_parts-requires : goal.unify-unify_parts-requires
unify-unify_parts-requires t c = (
  omega (
    arith,
    c.decreases,
    law.left_end_rank _ _ _ _ _ _ c.requires.0 _ _ _ _ c.requires.1 c.requires.2 (end_there c.bindings.result c.args.self.now c.bindings.ensures _ _ c.shallow_normalize-l.ensures)
        (end_there c.bindings-2.result c.args.self.now c.bindings-2.ensures _ _ c.shallow_normalize-r.ensures),
  ),
  (
    c.requires.0,
    law.left_solid _ _ _ _ _ _ c.requires.0 _ _ _ _ c.requires.1 c.requires.2 (end_there c.bindings.result c.args.self.now c.bindings.ensures _ _ c.shallow_normalize-l.ensures)
        (end_there c.bindings-2.result c.args.self.now c.bindings-2.ensures _ _ c.shallow_normalize-r.ensures) (apart _ _ _ c.eq.ensures c.if-eq.false) (sym c.in-None-None.is-0 ∙ c.variable_at.ensures) (sym c.in-None-None.is-1 ∙ c.variable_at-2.ensures),
    law.right_solid _ _ _ _ _ _ c.requires.0 _ _ _ _ c.requires.1 c.requires.2 (end_there c.bindings.result c.args.self.now c.bindings.ensures _ _ c.shallow_normalize-l.ensures)
        (end_there c.bindings-2.result c.args.self.now c.bindings-2.ensures _ _ c.shallow_normalize-r.ensures) (apart _ _ _ c.eq.ensures c.if-eq.false) (sym c.in-None-None.is-0 ∙ c.variable_at.ensures) (sym c.in-None-None.is-1 ∙ c.variable_at-2.ensures),
  ),
)

pub unify-returns-in-Some-Some-clause-leaves : goal.unify-returns-in-Some-Some-clause-leaves
unify-returns-in-Some-Some-clause-leaves t c = law.variables_tried _ _ _ _ _ _ c.requires.0 _ _ _ _ c.requires.1 c.requires.2 (end_there c.bindings.result c.args.self.now c.bindings.ensures _ _ c.shallow_normalize-l.ensures)
    (end_there c.bindings-2.result c.args.self.now c.bindings-2.ensures _ _ c.shallow_normalize-r.ensures)
    (apart _ _ _ c.eq.ensures c.if-eq.false) _ (sym c.in-Some-Some.is-0 ∙ c.variable_at.ensures) _ (sym c.in-Some-Some.is-1 ∙ c.variable_at-2.ensures) _ _ _ _ c.bind_variables.ensures.leaves

pub unify-returns-in-Some-None-clause-leaves : goal.unify-returns-in-Some-None-clause-leaves
unify-returns-in-Some-None-clause-leaves t c = law.left_tried _ _ _ _ _ _ c.requires.0 _ _ _ _ c.requires.1 c.requires.2 (end_there c.bindings.result c.args.self.now c.bindings.ensures _ _ c.shallow_normalize-l.ensures)
    (end_there c.bindings-2.result c.args.self.now c.bindings-2.ensures _ _ c.shallow_normalize-r.ensures)
    (apart _ _ _ c.eq.ensures c.if-eq.false) _ (sym c.in-Some-None.is-0 ∙ c.variable_at.ensures) (sym c.in-Some-None.is-1 ∙ c.variable_at-2.ensures) _ _ _ _ c.bind.ensures.leaves

pub unify-returns-in-None-Some-clause-leaves : goal.unify-returns-in-None-Some-clause-leaves
unify-returns-in-None-Some-clause-leaves t c = law.right_tried _ _ _ _ _ _ c.requires.0 _ _ _ _ c.requires.1 c.requires.2 (end_there c.bindings.result c.args.self.now c.bindings.ensures _ _ c.shallow_normalize-l.ensures)
    (end_there c.bindings-2.result c.args.self.now c.bindings-2.ensures _ _ c.shallow_normalize-r.ensures)
    (apart _ _ _ c.eq.ensures c.if-eq.false) (sym c.in-None-Some.is-0 ∙ c.variable_at.ensures) _ (sym c.in-None-Some.is-1 ∙ c.variable_at-2.ensures) _ _ _ _ c.bind-in-None-Some.ensures.leaves

pub unify-returns-in-None-None-clause-leaves : goal.unify-returns-in-None-None-clause-leaves
unify-returns-in-None-None-clause-leaves t c = law.parts_tried _ _ _ _ _ _ c.requires.0 _ _ _ _ c.requires.1 c.requires.2 (end_there c.bindings.result c.args.self.now c.bindings.ensures _ _ c.shallow_normalize-l.ensures)
    (end_there c.bindings-2.result c.args.self.now c.bindings-2.ensures _ _ c.shallow_normalize-r.ensures)
    (apart _ _ _ c.eq.ensures c.if-eq.false) (sym c.in-None-None.is-0 ∙ c.variable_at.ensures) (sym c.in-None-None.is-1 ∙ c.variable_at-2.ensures) _ _ _ _ c.unify_parts.ensures.leaves

pub unify_parts-returns-then-not-same_head-clause-leaves : goal.unify_parts-returns-then-not-same_head-clause-leaves
unify_parts-returns-then-not-same_head-clause-leaves t c = law.other_heads _ _ _ _ _ _ c.requires.0 c.args.l.0 c.args.r.0 c.requires.1 c.requires.2 _ (c.if-not-same_head.ensures _ _ c.row-left.ensures c.row-right.ensures) refl

pub unify_parts-loop-i-init : goal.unify_parts-loop-i-init
unify_parts-loop-i-init t c = ((refl, refl, refl, refl, refl), law.parts_begin _ _ _ _ _ _ c.requires.0 c.args.l.0 c.args.r.0 c.requires.1 c.requires.2 _ (c.if-not-same_head.ensures _ _ c.row-left.ensures c.row-right.ensures) refl _ (c.part_count-i-end.ensures _ c.row-left.ensures))

pub unify_parts-unify-requires : goal.unify_parts-unify-requires
unify_parts-unify-requires t c = (
  omega (arith, c.decreases, work_too c.args.self.now.places c.loop-i.self.places c.loop-i.invariant.0.0 c.loop-i.self.binds.now c.loop-i.self.trail.now c.loop-i.self.count c.part-p.result.0, law.part_lower _ _ _ _ _ _ c.loop-i.invariant.1.trying _ _ _ _ _ _ _ _ c.loop-i.invariant.1 c.loop-i-test.true _ _ (c.part-p.ensures _ c.row-left.ensures) (c.part-q.ensures _ c.row-right.ensures)),
  (can_try c.args.self.now.places c.loop-i.self.places c.loop-i.invariant.0.0 c.loop-i.self.binds.now c.loop-i.self.trail.now c.loop-i.self.count c.loop-i.invariant.1.trying, placed_too c.args.self.now.places c.loop-i.self.places c.loop-i.invariant.0.0 c.loop-i.self.binds.now c.loop-i.self.trail.now c.loop-i.self.count _ (law.left_placed _ _ _ _ _ _ c.loop-i.invariant.1.trying _ _ _ _ _ _ _ _ c.loop-i.invariant.1 c.loop-i-test.true _ _ (c.part-p.ensures _ c.row-left.ensures) (c.part-q.ensures _ c.row-right.ensures)), placed_too c.args.self.now.places c.loop-i.self.places c.loop-i.invariant.0.0 c.loop-i.self.binds.now c.loop-i.self.trail.now c.loop-i.self.count _ (law.right_placed _ _ _ _ _ _ c.loop-i.invariant.1.trying _ _ _ _ _ _ _ _ c.loop-i.invariant.1 c.loop-i-test.true _ _ (c.part-p.ensures _ c.row-left.ensures) (c.part-q.ensures _ c.row-right.ensures))),
)

pub unify_parts-loop-i-preserved : goal.unify_parts-loop-i-preserved
unify_parts-loop-i-preserved t c = (
  (
    c.unify.ensures.keeps.0 ∙ c.loop-i.invariant.0.0,
    c.unify.ensures.keeps.1 ∙ c.loop-i.invariant.0.1,
    c.unify.ensures.keeps.2 ∙ c.loop-i.invariant.0.2,
    c.unify.ensures.keeps.3 ∙ c.loop-i.invariant.0.3,
    c.unify.ensures.keeps.4 ∙ c.loop-i.invariant.0.4,
  ),
  law.parts_go_on _ _ _ _ _ _ c.loop-i.invariant.1.trying _ _ _ _ _ _ _ _ c.loop-i.invariant.1 c.loop-i-test.true _ _ (c.part-p.ensures _ c.row-left.ensures) (c.part-q.ensures _ c.row-right.ensures) _ _ _ _ c.if-not-unify.false (leaves_too c.args.self.now.places c.loop-i.self.places c.loop-i.invariant.0.0 c.loop-i.self.binds.now c.loop-i.self.trail.now c.loop-i.self.count _ _ _ _ _ _ c.unify.ensures.leaves) c.unify.ensures.keeps.3 c.unify.ensures.keeps.4,
)

pub unify_parts-returns-then-not-unify-clause-leaves : goal.unify_parts-returns-then-not-unify-clause-leaves
unify_parts-returns-then-not-unify-clause-leaves t c =
    law.part_fails _ _ _ _ _ _ c.loop-i.invariant.1.trying _ _ _ _ _ _ _ _ c.loop-i.invariant.1 c.loop-i-test.true _ _ (c.part-p.ensures _ c.row-left.ensures) (c.part-q.ensures _ c.row-right.ensures) _ _ _ _ c.if-not-unify.true (leaves_too c.args.self.now.places c.loop-i.self.places c.loop-i.invariant.0.0 c.loop-i.self.binds.now c.loop-i.self.trail.now c.loop-i.self.count _ _ _ _ _ _ c.unify.ensures.leaves)

pub unify_parts-returns-clause-leaves : goal.unify_parts-returns-clause-leaves
unify_parts-returns-clause-leaves t c = law.all_parts _ _ _ _ _ _ c.loop-i.invariant.1.trying _ _ _ _ _ _ _ _ c.loop-i.invariant.1 c.loop-i-test.false
