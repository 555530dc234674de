-- By whether the left side has a list. Assumes nothing.
use Rattle.std.proofs.Common.{ap, ◌∙◌}
use Rattle.std.specs.Prelude.{Ok}
use Rattle.search_state.proofs.Solving.{not_some, same_error}
use Rattle.search_steps.proofs.Laws as law
use Rattle.search_steps.proofs.widenings_in.Goals as goal

pub returns-in_err-wider-clause-finds : goal.returns-in_err-wider-clause-finds
returns-in_err-wider-clause-finds c =
    let A = c.args.arena.now in
    rw (same_error _ _ c.from_residual.ensures)
    (law.wider_no_room A.sorts.now A.nodes.now c.args.binds.now A.lengths c.requires.ready.0 c.args.lhs.0 c.args.rhs.0 _ _ _
    c.strict_super_sorts.result c.strict_super_sorts.ensures.lists _ c.in_err-wider.was)

pub returns-in-Some-clause-finds : goal.returns-in-Some-clause-finds
returns-in-Some-clause-finds c =
    let A = c.args.arena.now in
    law.wider_tried A.sorts.now A.nodes.now c.args.binds.now A.lengths c.requires.ready.0 c.args.lhs.0 c.args.rhs.0 _ _ _
    c.strict_super_sorts.result c.strict_super_sorts.ensures.lists _ (c.in_ok-wider.was ∙ ap Ok c.in-Some.is) _ c.listed_tries.ensures

pub strict_sub_sorts-requires-clause-fine : goal.strict_sub_sorts-requires-clause-fine
strict_sub_sorts-requires-clause-fine c =
    let A = c.args.arena.now in
    law.right_asked A.sorts.now A.nodes.now c.args.binds.now A.lengths c.requires.ready.0 c.args.lhs.0 c.args.rhs.0 _ _ _
    c.strict_super_sorts.result c.strict_super_sorts.ensures.lists (c.in_ok-wider.was ∙ ap Ok (not_some _ c.in_default.not-Some))
    c.requires.ready.2 c.requires.ready.3

pub returns-in_err-narrower-clause-finds : goal.returns-in_err-narrower-clause-finds
returns-in_err-narrower-clause-finds c =
    let A = c.args.arena.now in
    rw (same_error _ _ c.from_residual-in_err-narrower.ensures)
    (law.narrower_no_room A.sorts.now A.nodes.now c.args.binds.now A.lengths c.requires.ready.0 c.args.lhs.0 c.args.rhs.0 _ _ _
    c.strict_super_sorts.result c.strict_super_sorts.ensures.lists (c.in_ok-wider.was ∙ ap Ok (not_some _ c.in_default.not-Some))
    _ _ _ c.strict_sub_sorts.result c.strict_sub_sorts.ensures.lists _ c.in_err-narrower.was)

pub returns-in_default-2-clause-finds : goal.returns-in_default-2-clause-finds
returns-in_default-2-clause-finds c =
    let A = c.args.arena.now in
    law.none_narrower A.sorts.now A.nodes.now c.args.binds.now A.lengths c.requires.ready.0 c.args.lhs.0 c.args.rhs.0 _ _ _
    c.strict_super_sorts.result c.strict_super_sorts.ensures.lists (c.in_ok-wider.was ∙ ap Ok (not_some _ c.in_default.not-Some))
    _ _ _ c.strict_sub_sorts.result c.strict_sub_sorts.ensures.lists (c.in_ok-narrower.was ∙ ap Ok (not_some _ c.in_default-2.not-Some))

pub returns-clause-finds : goal.returns-clause-finds
returns-clause-finds c =
    let A = c.args.arena.now in
    law.narrower_tried A.sorts.now A.nodes.now c.args.binds.now A.lengths c.requires.ready.0 c.args.lhs.0 c.args.rhs.0 _ _ _
    c.strict_super_sorts.result c.strict_super_sorts.ensures.lists (c.in_ok-wider.was ∙ ap Ok (not_some _ c.in_default.not-Some))
    _ _ _ c.strict_sub_sorts.result c.strict_sub_sorts.ensures.lists _ (c.in_ok-narrower.was ∙ ap Ok c.in-Some-2.is) _ c.listed_tries-2.ensures
