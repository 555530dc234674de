-- One pair of places, or one after the other. Assumes nothing.
use Rattle.search_steps.proofs.Trying as law
use Rattle.search_steps.proofs.unify_each.Goals as goal

pub returns-in-One-clause-leaves : goal.returns-in-One-clause-leaves
returns-in-One-clause-leaves c = law.one_made c.args.unifier.now c.args.pairs _ _ c.in-One.is c.unify.new.self _ c.unify.ensures.leaves

pub returns-then-not-unify-clause-leaves : goal.returns-then-not-unify-clause-leaves
returns-then-not-unify-clause-leaves c =
    law.first_not c.args.unifier.now c.args.pairs _ _ _ _ c.in-Two.is c.unify-in-Two.new.self c.unify-in-Two.ensures.keeps _
    c.unify-in-Two.ensures.leaves c.if-not-unify.true

pub returns-else-not-unify-clause-leaves : goal.returns-else-not-unify-clause-leaves
returns-else-not-unify-clause-leaves c =
    law.both_made c.args.unifier.now c.args.pairs _ _ _ _ c.in-Two.is c.unify-in-Two.new.self c.unify-in-Two.ensures.keeps _
    c.unify-in-Two.ensures.leaves c.if-not-unify.false c.unify-in-Two-2.new.self _ c.unify-in-Two-2.ensures.leaves
