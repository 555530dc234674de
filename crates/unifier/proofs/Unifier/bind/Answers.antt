-- A variable that does not occur is bound to the place; else the answer is no. Assumes nothing.
use Rattle.unifier.proofs.Bound.{occurs_there}
use Rattle.unifier.proofs.Tries as law
use Rattle.unifier.proofs.Unifier.bind.Goals as goal

pub returns-then-occurs-clause-leaves : goal.returns-then-occurs-clause-leaves
returns-then-occurs-clause-leaves c = law.occurs_no _ _ _ _ _ _ c.requires.0 c.args.var.0 c.args.value.0 c.requires.1 c.requires.2 c.occurs.result (occurs_there c.bindings.result c.args.self.now c.bindings.ensures _ _ _ c.occurs.ensures) c.if-occurs.true

pub put_binding-requires : goal.put_binding-requires
put_binding-requires c = let r = law.room_to_bind _ _ _ _ _ _ c.requires.0 c.args.var.0 c.args.value.0 c.requires.1 c.requires.2 c.occurs.result (occurs_there c.bindings.result c.args.self.now c.bindings.ensures _ _ _ c.occurs.ensures) c.if-occurs.false in
    (r.0, r.1, c.requires.0.short)

pub returns-clause-leaves : goal.returns-clause-leaves
returns-clause-leaves c = let l = c.put_binding.ensures.leaves in
    law.bound_yes _ _ _ _ _ _ c.requires.0 c.args.var.0 c.args.value.0 c.requires.1 c.requires.2 c.occurs.result (occurs_there c.bindings.result c.args.self.now c.bindings.ensures _ _ _ c.occurs.ensures) c.if-occurs.false _ _ _ l.0 l.1 l.2
