-- After a no the try is undone. Assumes nothing.
use Rattle.std.proofs.Common.{rules}
use Rattle.search_steps.proofs.Trying as law
use Rattle.search_steps.proofs.unify_on.Goals as goal

pub returns-then-not-unify_each : goal.returns-then-not-unify_each
returns-then-not-unify_each c =
    let u = c.unify_each.new.unifier in
    let z = c.undo.new.self in
    law.leaves_moved z.binds.now _ (search rules) z.trail.now _ (search rules) _ _ _ _ _ _ _ _ _
    (law.undone_again _ _ _ _ _ _ _ c.requires.0.ready u.binds.now u.trail.now u.count (rw c.if-not-unify_each.true at c.unify_each.ensures.leaves)
    z.binds.now c.undo.ensures.leaves.0 z.trail.now c.undo.ensures.leaves.1)
