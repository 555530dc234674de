-- One more row where there is room. Assumes nothing.
use Rattle.std.proofs.Common.{ap, ◌∙◌}
use Rattle.std.proofs.lemmas.List.Edits.{sets}
use Rattle.std.proofs.Math.Seq.{take-length}
use Rattle.related_sorts.proofs.Laws as law
use Rattle.related_sorts.proofs.Arena.push.Goals as goal

pub returns-then-n-ge-NODE_NUMBERS-clause-pushed : goal.returns-then-n-ge-NODE_NUMBERS-clause-pushed
returns-then-n-ge-NODE_NUMBERS-clause-pushed c = law.no_row c.args.self.now.sorts.now c.args.self.now.nodes.now c.args.self.now.lengths c.args.kind c.args.part.0 c.args.arguments.now c.if-n-ge-NODE_NUMBERS.true

pub returns-then-e-count-gt-MAX_NODE_ENTRIES-clause-pushed : goal.returns-then-e-count-gt-MAX_NODE_ENTRIES-clause-pushed
returns-then-e-count-gt-MAX_NODE_ENTRIES-clause-pushed c = law.no_entries c.args.self.now.sorts.now c.args.self.now.nodes.now c.args.self.now.lengths c.args.kind c.args.part.0 c.args.arguments.now c.if-n-ge-NODE_NUMBERS.false c.if-e-count-gt-MAX_NODE_ENTRIES.true

pub returns-clause-pushed : goal.returns-clause-pushed
returns-clause-pushed c = law.node_made c.args.self.now.sorts.now c.args.self.now.nodes.now c.args.self.now.lengths c.args.kind c.args.part.0 c.args.arguments.now c.if-n-ge-NODE_NUMBERS.false c.if-e-count-gt-MAX_NODE_ENTRIES.false
    _ c.start_of.ensures _ _ c.put_row.ensures (c.copy.ensures ∙ ap (sets _ _) (take-length c.args.arguments.now))
