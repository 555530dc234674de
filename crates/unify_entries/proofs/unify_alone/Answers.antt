-- A yes leaves its bindings; after a no the trail is undone. Assumes nothing.
use Rattle.std.proofs.Common.{refl, rules, ◌∙◌}
use Rattle.unify_entries.proofs.Laws as law
use Rattle.unify_entries.proofs.unify_alone.Goals as goal

pub unify-requires : goal.unify-requires
unify-requires c = (law.trying c.args.places.sorts.now c.args.places.nodes.now c.args.binds.now c.args.places.lengths c.requires.0 _ refl, c.requires.1, c.requires.2)

pub returns-then-unify : goal.returns-then-unify
returns-then-unify c = law.words_left _ _ _ (search rules) (law.yes_leaves c.args.places.sorts.now c.args.places.nodes.now c.args.binds.now c.args.places.lengths c.requires.0 _ _ c.unify.new.self.binds.now c.unify.new.self.trail.now c.unify.new.self.count c.unify.result c.if-unify.true c.unify.ensures.leaves)

pub undo-requires : goal.undo-requires
undo-requires c = law.trail_long c.args.places.sorts.now c.args.places.nodes.now c.args.binds.now c.args.places.lengths c.requires.0 _ _ c.unify.new.self.binds.now c.unify.new.self.trail.now c.unify.new.self.count c.unify.result c.unify.ensures.leaves (c.unify.ensures.keeps.4 ∙ refl)

pub returns : goal.returns
returns c = law.words_left _ _ _ (search rules) (law.no_leaves c.args.places.sorts.now c.args.places.nodes.now c.args.binds.now c.args.places.lengths c.requires.0 _ _ c.unify.new.self.binds.now c.unify.new.self.trail.now c.unify.new.self.count c.unify.result c.unify.ensures.leaves c.if-unify.false c.undo.new.self.binds.now c.undo.ensures.leaves.0)
