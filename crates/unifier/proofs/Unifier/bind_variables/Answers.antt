-- Two free variables are one, or the left one is bound. Assumes nothing.
use Rattle.unifier.proofs.Bound.{equal, apart}
use Rattle.unifier.proofs.Tries as law
use Rattle.unifier.proofs.Unifier.bind_variables.Goals as goal

pub returns-then-eq-clause-leaves : goal.returns-then-eq-clause-leaves
returns-then-eq-clause-leaves c = law.one_variable _ _ _ _ _ _ c.requires.0 c.args.lhs.0 c.args.value.0 c.requires.1 c.requires.3 c.args.rhs.0 c.requires.2 c.requires.4 (equal _ _ _ c.eq.ensures c.if-eq.true)

pub put_binding-requires : goal.put_binding-requires
put_binding-requires c = let r = law.room_for_variable _ _ _ _ _ _ c.requires.0 c.args.lhs.0 c.args.value.0 c.requires.1 c.requires.3 c.args.rhs.0 c.requires.2 c.requires.4 (apart _ _ _ c.eq.ensures c.if-eq.false) in (r.0, r.1, c.requires.0.short)

pub returns-clause-leaves : goal.returns-clause-leaves
returns-clause-leaves c = let l = c.put_binding.ensures.leaves in law.variable_yes _ _ _ _ _ _ c.requires.0 c.args.lhs.0 c.args.value.0 c.requires.1 c.requires.3 c.args.rhs.0 c.requires.2 c.requires.4 (apart _ _ _ c.eq.ensures c.if-eq.false) _ _ _ l.0 l.1 l.2
