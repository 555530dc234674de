-- A place at its end is a sort, a container of what its element is resolved to, a function of what its parts are resolved to, or a free variable.
-- Assumes nothing.
use Rattle.std.proofs.Common.{arith, refl, ◌∙◌}
use Rattle.infer_nodes.proofs.Apart as apart
use Rattle.resolver.proofs.Laws as law
use Rattle.resolver.proofs.Going as going
use Rattle.resolver.proofs.Resolver.+resolve_resolve_function.Goals as goal

pub resolve-resolve-requires : goal.resolve-resolve-requires
resolve-resolve-requires t c = (
  omega (arith, c.decreases, law.part_falls _ _ _ _ c.requires.ready.0.0 c.args.self.now.default c.requires.ready.0.1 _ _ c.requires.ready.1 c.end.ensures _ c.in-Node.ensures c.node.ensures _ _ c.in-Generic.is),
  ((c.requires.ready.0, law.part_placed _ _ _ _ c.requires.ready.0.0 c.args.self.now.default c.requires.ready.0.1 _ _ c.requires.ready.1 c.end.ensures _ c.in-Node.ensures c.node.ensures _ _ c.in-Generic.is), c.requires.indexed),
)

pub resolve-returns-in_err-subsort-in-Generic-clause-resolved : goal.resolve-returns-in_err-subsort-in-Generic-clause-resolved
resolve-returns-in_err-subsort-in-Generic-clause-resolved t c =
    law.left_err _ _ _ c.from_residual.ensures.0
    (law.container_ends _ _ _ _ c.requires.ready.0.0 c.args.self.now.default c.requires.ready.0.1 _ _ c.requires.ready.1 c.end.ensures _ c.in-Node.ensures c.node.ensures _ _ c.in-Generic.is _ _ (law.left_as _ _ _ _ c.in_err-subsort-in-Generic.was c.resolve.ensures.resolved) refl)

pub resolve-returns-in_default-clause-resolved : goal.resolve-returns-in_default-clause-resolved
resolve-returns-in_default-clause-resolved t c =
    law.container_stops _ _ _ _ c.requires.ready.0.0 c.args.self.now.default c.requires.ready.0.1 _ _ c.requires.ready.1 c.end.ensures _ c.in-Node.ensures c.node.ensures _ _ c.in-Generic.is _ _
    (law.found_as _ _ _ c.in_ok-subsort-in-Generic.was c.in_default.is c.resolve.ensures.resolved) _ refl

pub resolve-generic-requires-clause-fine : goal.resolve-generic-requires-clause-fine
resolve-generic-requires-clause-fine t c =
    law.container_asked _ _ _ _ c.requires.ready.0.0 c.args.self.now.default c.requires.ready.0.1 _ _ c.requires.ready.1 c.end.ensures _ c.in-Node.ensures c.node.ensures _ _ c.in-Generic.is _ _ (law.found_as _ _ _ c.in_ok-subsort-in-Generic.was c.in-Some.is c.resolve.ensures.resolved) _ _ refl

pub resolve-returns-in_err-generic-in-Generic-clause-resolved : goal.resolve-returns-in_err-generic-in-Generic-clause-resolved
resolve-returns-in_err-generic-in-Generic-clause-resolved t c =
    law.left_err _ _ _ c.from_residual-in_err-generic-in-Generic.ensures.0
    (law.container_made _ _ _ _ c.requires.ready.0.0 c.args.self.now.default c.requires.ready.0.1 _ _ c.requires.ready.1 c.end.ensures _ c.in-Node.ensures c.node.ensures _ _ c.in-Generic.is _ _ (law.found_as _ _ _ c.in_ok-subsort-in-Generic.was c.in-Some.is c.resolve.ensures.resolved) _ _ refl _ _
    (law.interned_as _ _ _ _ c.in_err-generic-in-Generic.was c.generic.ensures.interned))

pub resolve-returns-in_ok-generic-in-Generic-clause-resolved : goal.resolve-returns-in_ok-generic-in-Generic-clause-resolved
resolve-returns-in_ok-generic-in-Generic-clause-resolved t c =
    law.container_made _ _ _ _ c.requires.ready.0.0 c.args.self.now.default c.requires.ready.0.1 _ _ c.requires.ready.1 c.end.ensures _ c.in-Node.ensures c.node.ensures _ _ c.in-Generic.is _ _ (law.found_as _ _ _ c.in_ok-subsort-in-Generic.was c.in-Some.is c.resolve.ensures.resolved) _ _ refl _ _
    (law.interned_as _ _ _ _ c.in_ok-generic-in-Generic.was c.generic.ensures.interned)

pub resolve-resolve_function-requires : goal.resolve-resolve_function-requires
resolve-resolve_function-requires t c = (
  omega (arith, c.decreases, law.function_size _ _ _ _ c.requires.ready.0.0 c.args.self.now.default c.requires.ready.0.1 _ _ c.requires.ready.1 c.end.ensures _ c.in-Node.ensures c.node.ensures _ _ c.in-Function.is),
  ((c.requires.ready.0, law.domain_placed _ _ _ _ c.requires.ready.0.0 c.args.self.now.default c.requires.ready.0.1 _ _ c.requires.ready.1 c.end.ensures _ c.in-Node.ensures c.node.ensures _ _ c.in-Function.is, law.range_placed _ _ _ _ c.requires.ready.0.0 c.args.self.now.default c.requires.ready.0.1 _ _ c.requires.ready.1 c.end.ensures _ c.in-Node.ensures c.node.ensures _ _ c.in-Function.is), c.requires.indexed),
)

pub resolve-returns-in-Sort-clause-resolved : goal.resolve-returns-in-Sort-clause-resolved
resolve-returns-in-Sort-clause-resolved t c = let s = apart.is_sort_lem _ _ c.in-Sort.ensures _ refl in
    law.sort_found _ _ _ _ c.requires.ready.0.0 c.args.self.now.default c.requires.ready.0.1 _ _ c.requires.ready.1 c.end.ensures s.0 _ s.1 _ refl

pub resolve-returns-in-Function-clause-resolved : goal.resolve-returns-in-Function-clause-resolved
resolve-returns-in-Function-clause-resolved t c =
    c.resolve_function.ensures.resolved ∙ law.whole_function _ _ _ _ c.requires.ready.0.0 c.args.self.now.default c.requires.ready.0.1 _ _ c.requires.ready.1 c.end.ensures _ c.in-Node.ensures c.node.ensures _ _ c.in-Function.is

pub resolve-returns-in-Var-clause-resolved : goal.resolve-returns-in-Var-clause-resolved
resolve-returns-in-Var-clause-resolved t c =
    law.default_left_at _ _ c.args.self.now.default ∙ law.variable_answers _ _ _ _ c.requires.ready.0.0 c.args.self.now.default c.requires.ready.0.1 _ _ c.requires.ready.1 c.end.ensures _ c.in-Node.ensures c.node.ensures _ c.in-Var.is _ refl _ refl

pub resolve_function-loop-i-init : goal.resolve_function-loop-i-init
resolve_function-loop-i-init t c = (refl, refl, c.requires.indexed, going.start _ _ _ _ _ _ _ _ (c.requires.ready.0.0, c.requires.ready.0.1, c.requires.ready.1, c.requires.ready.2))

pub resolve_function-resolve-requires : goal.resolve_function-resolve-requires
resolve_function-resolve-requires t c = let r = going.argument_ready _ _ _ _ _ _ _ _ _ _ _ _ c.loop-i.invariant.3 c.loop-i-test.true _ c.argument-next.ensures in (
  omega (arith, c.decreases, going.argument_falls _ _ _ _ _ _ _ _ _ _ _ _ c.loop-i.invariant.3 c.loop-i-test.true _ c.argument-next.ensures),
  (((r.0, r.1), r.2), c.loop-i.invariant.2),
)

pub resolve_function-returns-in_err-id-clause-resolved : goal.resolve_function-returns-in_err-id-clause-resolved
resolve_function-returns-in_err-id-clause-resolved t c =
    law.left_err _ _ _ c.from_residual.ensures.0
    (going.argument_ends _ _ _ _ _ _ _ _ _ _ _ _ c.loop-i.invariant.3 c.loop-i-test.true _ c.argument-next.ensures _ _ (law.left_as _ _ _ _ c.in_err-id.was c.resolve.ensures.resolved) refl)

pub resolve_function-returns-in_default-clause-resolved : goal.resolve_function-returns-in_default-clause-resolved
resolve_function-returns-in_default-clause-resolved t c =
    going.argument_stops _ _ _ _ _ _ _ _ _ _ _ _ c.loop-i.invariant.3 c.loop-i-test.true _ c.argument-next.ensures _ _
    (law.found_as _ _ _ c.in_ok-id.was c.in_default.is c.resolve.ensures.resolved) _ refl

pub resolve_function-loop-i-preserved : goal.resolve_function-loop-i-preserved
resolve_function-loop-i-preserved t c = (
  c.resolve.ensures.same_reference ∙ c.loop-i.invariant.0,
  c.resolve.ensures.same_index ∙ c.loop-i.invariant.1,
  c.resolve.ensures.indexed,
  going.next _ _ _ _ _ _ _ _ _ _ _ _ c.loop-i.invariant.3 c.loop-i-test.true _ c.argument-next.ensures _ _ (law.found_as _ _ _ c.in_ok-id.was c.in-Some.is c.resolve.ensures.resolved) _ _ refl _ refl,
)

pub resolve_function-resolve-requires-2 : goal.resolve_function-resolve-requires-2
resolve_function-resolve-requires-2 t c = let r = going.range_ready _ _ _ _ _ _ _ _ _ _ _ _ c.loop-i.invariant.3 c.loop-i-test.false in (
  omega (arith, c.decreases, going.range_falls _ _ _ _ _ _ _ _ _ _ _ _ c.loop-i.invariant.3 c.loop-i-test.false),
  (((r.0, r.1), r.2), c.loop-i.invariant.2),
)

pub resolve_function-returns-in_err-range-clause-resolved : goal.resolve_function-returns-in_err-range-clause-resolved
resolve_function-returns-in_err-range-clause-resolved t c =
    law.left_err _ _ _ c.from_residual-in_err-range.ensures.0
    (going.range_ends _ _ _ _ _ _ _ _ _ _ _ _ c.loop-i.invariant.3 c.loop-i-test.false _ _ (law.left_as _ _ _ _ c.in_err-range.was c.resolve-2.ensures.resolved) refl)

pub resolve_function-returns-in_default-2-clause-resolved : goal.resolve_function-returns-in_default-2-clause-resolved
resolve_function-returns-in_default-2-clause-resolved t c =
    going.range_stops _ _ _ _ _ _ _ _ _ _ _ _ c.loop-i.invariant.3 c.loop-i-test.false _ _
    (law.found_as _ _ _ c.in_ok-range.was c.in_default-2.is c.resolve-2.ensures.resolved) _ refl

pub resolve_function-function-requires-clause-fine : goal.resolve_function-function-requires-clause-fine
resolve_function-function-requires-clause-fine t c = going.function_asked _ _ _ _ _ _ _ _ _ _ _ _ c.loop-i.invariant.3 c.loop-i-test.false _ _ (law.found_as _ _ _ c.in_ok-range.was c.in-Some-2.is c.resolve-2.ensures.resolved) _ _ refl

pub resolve_function-returns-in_err-function-clause-resolved : goal.resolve_function-returns-in_err-function-clause-resolved
resolve_function-returns-in_err-function-clause-resolved t c =
    law.left_err _ _ _ c.from_residual-in_err-function.ensures.0
    (going.function_made _ _ _ _ _ _ _ _ _ _ _ _ c.loop-i.invariant.3 c.loop-i-test.false _ _ (law.found_as _ _ _ c.in_ok-range.was c.in-Some-2.is c.resolve-2.ensures.resolved) _ _ refl _ _
    (law.interned_as _ _ _ _ c.in_err-function.was c.function.ensures.interned))

pub resolve_function-returns-clause-resolved : goal.resolve_function-returns-clause-resolved
resolve_function-returns-clause-resolved t c =
    going.function_made _ _ _ _ _ _ _ _ _ _ _ _ c.loop-i.invariant.3 c.loop-i-test.false _ _ (law.found_as _ _ _ c.in_ok-range.was c.in-Some-2.is c.resolve-2.ensures.resolved) _ _ refl _ _
    (law.interned_as _ _ _ _ c.in_ok-function.was c.function.ensures.interned)
