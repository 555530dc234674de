-- Each test is the check of its number. Assumes nothing.
use Rattle.std.proofs.Common.{refl}
use Rattle.unify_entries.proofs.Laws as law
use Rattle.unify_entries.proofs.Lent.test_places.Goals as goal

pub returns-then-not-is_place : goal.returns-then-not-is_place
returns-then-not-is_place c = law.lhs_stray c.args.self.now.sorts.now c.args.self.now.sort_count c.args.self.now.nodes.now c.args.self.now.node_count c.args.lhs.0 c.args.rhs.0 _ c.if-not-is_place.ensures refl

pub returns-then-not-is_place-2 : goal.returns-then-not-is_place-2
returns-then-not-is_place-2 c = law.rhs_stray c.args.self.now.sorts.now c.args.self.now.sort_count c.args.self.now.nodes.now c.args.self.now.node_count c.args.lhs.0 c.args.rhs.0 _ _ c.if-not-is_place.ensures c.if-not-is_place-2.ensures refl refl

pub returns-then-self-lt-SORT_WORDS : goal.returns-then-self-lt-SORT_WORDS
returns-then-self-lt-SORT_WORDS c = law.sorts_short c.args.self.now.sorts.now c.args.self.now.sort_count c.args.self.now.nodes.now c.args.self.now.node_count c.args.lhs.0 c.args.rhs.0 _ _ c.if-not-is_place.ensures c.if-not-is_place-2.ensures refl refl c.if-self-lt-SORT_WORDS.true

pub returns-then-self-lt-NODE_WORDS : goal.returns-then-self-lt-NODE_WORDS
returns-then-self-lt-NODE_WORDS c = law.nodes_short c.args.self.now.sorts.now c.args.self.now.sort_count c.args.self.now.nodes.now c.args.self.now.node_count c.args.lhs.0 c.args.rhs.0 _ _ c.if-not-is_place.ensures c.if-not-is_place-2.ensures refl refl c.if-self-lt-SORT_WORDS.false c.if-self-lt-NODE_WORDS.true

pub returns : goal.returns
returns c = law.all_in_place c.args.self.now.sorts.now c.args.self.now.sort_count c.args.self.now.nodes.now c.args.self.now.node_count c.args.lhs.0 c.args.rhs.0 _ _ c.if-not-is_place.ensures c.if-not-is_place-2.ensures refl refl c.if-self-lt-SORT_WORDS.false c.if-self-lt-NODE_WORDS.false
