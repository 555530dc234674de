-- By what interning answers. Assumes nothing.
use Rattle.search_steps.proofs.Laws as law
use Rattle.search_steps.proofs.intern_container.Goals as goal

pub returns-in-Ok-clause-interned : goal.returns-in-Ok-clause-interned
returns-in-Ok-clause-interned c =
    let a = c.args in
    law.container_found a.op a.element.0 a.sorts.now a.lengths _ c.from.ensures _ _ c.generic_over-id.result.0
    c.generic_over-id.ensures.interned _ c.in-Ok.is _ c.with_counts.ensures

pub returns-in-Err-clause-interned : goal.returns-in-Err-clause-interned
returns-in-Err-clause-interned c =
    let a = c.args in
    law.no_room_for_container a.op a.element.0 a.sorts.now a.lengths _ c.from.ensures _ _ c.generic_over-id.result.0
    c.generic_over-id.ensures.interned c.requires.fine.0 _ c.in-Err.is _
