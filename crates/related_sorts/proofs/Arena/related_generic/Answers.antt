-- The related container is interned. Assumes nothing.
use Rattle.std.proofs.Common.{[], ◌∷◌, ap, rules, refl, ◌∙◌}
use Rattle.resolved_sort.specs.Entries.{At, Full}
use Rattle.related_sorts.proofs.Laws as law
use Rattle.related_sorts.proofs.Arena.related_generic.Goals as goal

pub returns-in_err-id-clause-lists : goal.returns-in_err-id-clause-lists
returns-in_err-id-clause-lists c = law.some_err _ _ _ (law.same_err _ _ c.from_residual.ensures)
    (law.room_moved _ _ _ _ (search rules) (law.no_room_for_sort c.args.up c.args.op c.related_container.result c.related_container.ensures _ c.in-Some.is c.args.subsort.0 c.args.self.now.sorts.now c.args.self.now.nodes.now c.args.self.now.lengths _ c.from-counts.ensures _ Full (law.interned_as _ _ _ _ c.in_err-id.was c.generic_over-id.ensures.interned) c.requires.fine.0 refl))

pub returns-clause-lists : goal.returns-clause-lists
returns-clause-lists c =
    law.sorts_moved _ _ _ _ _ (search rules) (law.container_interned c.args.up c.args.op c.related_container.result c.related_container.ensures _ c.in-Some.is c.args.subsort.0 c.args.self.now.sorts.now c.args.self.now.nodes.now c.args.self.now.lengths _ c.from-counts.ensures _ (At c.in_ok-id.id c.generic_over-id.result.1)
    (law.interned_as _ _ _ _ c.in_ok-id.was c.generic_over-id.ensures.interned) _ _ refl _ c.with_counts-self.ensures c.of-2.result
    (c.of-2.ensures ∙ ap (λ p. p ∷ []) c.from.ensures))
