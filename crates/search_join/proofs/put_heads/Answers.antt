-- Each step of the loop is a law of Heads. Assumes nothing.
use Rattle.std.proofs.Common.{arith, length, ◌≤◌}
use Rattle.resolved_sort.specs.Inner.Storage.{sort_numbers}
use Rattle.resolved_sort.proofs.SortNumbers.{length_sort_numbers, get_d_sort_numbers}
use Rattle.search_join.proofs.Heads as law
use Rattle.search_join.proofs.Lists.{inside}
use Rattle.search_join.proofs.put_heads.Goals as goal

pub head_distance-requires : goal.head_distance-requires
head_distance-requires c =
    law.two_of_list c.args.sorts.now.words.now _ _ _ c.requires.0 c.requires.1 _ (inside c.args.ids.now c.loop-i-test.true) _ (get_d_sort_numbers c.args.ids.now c.loop-i.i)

pub loop-i-preserved : goal.loop-i-preserved
loop-i-preserved c =
    law.heads_next _ _ _ _ _ _ _ _ c.loop-i.invariant (inside c.args.ids.now c.loop-i-test.true) _ (get_d_sort_numbers c.args.ids.now c.loop-i.i) _
    c.head_distance.ensures _ c.put.ensures

pub returns : goal.returns
returns c =
    let over : length (sort_numbers c.args.ids.now) ≤ c.loop-i.i = omega (arith, c.loop-i-test.false, length_sort_numbers c.args.ids.now) in
    law.heads_end _ _ _ _ _ _ _ _ c.loop-i.invariant over
