-- Each answer is a law of Heads. Assumes nothing.
use Rattle.std.proofs.Common.{arith}
use Rattle.resolved_sort.proofs.SortNumbers.{length_sort_numbers, get_d_sort_numbers}
use Rattle.search_join.proofs.Heads as law
use Rattle.search_join.proofs.Lists.{inside}
use Rattle.search_join.proofs.all_materializable.Goals as goal

pub is_materializable-requires : goal.is_materializable-requires
is_materializable-requires c =
    law.two_of_list c.args.sorts.now.words.now _ _ _ c.requires.0 c.requires.1 _ (inside c.args.ids.now c.loop-id-test.true) _ (get_d_sort_numbers c.args.ids.now c.loop-id.id-index)

pub returns-then-not-is_materializable : goal.returns-then-not-is_materializable
returns-then-not-is_materializable c =
    law.one_is_not c.args.sorts.now.words.now _ _ _ c.requires.0 c.requires.1 _ (inside c.args.ids.now c.loop-id-test.true) _ (get_d_sort_numbers c.args.ids.now c.loop-id.id-index) _
    c.is_materializable.ensures c.if-not-is_materializable.true

pub loop-id-preserved : goal.loop-id-preserved
loop-id-preserved c =
    law.one_more_is c.args.sorts.now.words.now _ _ _ c.requires.0 c.requires.1 _ (inside c.args.ids.now c.loop-id-test.true) _ (get_d_sort_numbers c.args.ids.now c.loop-id.id-index) _
    c.is_materializable.ensures c.if-not-is_materializable.false c.loop-id.invariant

pub returns : goal.returns
returns c =
    law.all_are c.args.sorts.now.words.now _ _ _ c.requires.0 c.requires.1 _ (omega (arith, c.loop-id-test.false, length_sort_numbers c.args.ids.now))
    c.loop-id.invariant
