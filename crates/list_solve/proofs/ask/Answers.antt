-- The slices that are not told are copies of the parts of the list, lent as far as it tells. Assumes nothing.
use Rattle.std.proofs.Common.{arith}
use Rattle.list_call.proofs.Lists as list
use Rattle.list_solve.proofs.Alone as law
use Rattle.list_solve.proofs.ask.Goals as goal

pub slice_bounds-solve_list-end : goal.slice_bounds-solve_list-end
slice_bounds-solve_list-end c =
    list.front_length c.args.list.now 8192 12288 _ (omega arith) c.copied-nodes.ensures _ c.length_of-nodes_end.ensures.1

pub slice_bounds-solve_list-end-2 : goal.slice_bounds-solve_list-end-2
slice_bounds-solve_list-end-2 c =
    list.front_length c.args.list.now 20480 512 _ (omega arith) c.copied-binds.ensures _ c.length_of-binds_end.ensures.1

pub slice_bounds-solve_list-end-3 : goal.slice_bounds-solve_list-end-3
slice_bounds-solve_list-end-3 c =
    list.front_length c.args.list.now 29952 4096 _ (omega arith) c.copied-scratch.ensures _ c.length_of-scratch_end.ensures.1

pub slice_bounds-solve_list-end-4 : goal.slice_bounds-solve_list-end-4
slice_bounds-solve_list-end-4 c =
    list.front_length c.args.list.now 34048 2048 _ (omega arith) c.copied-index.ensures _ c.length_of-index_end.ensures.1

pub returns-clause-says : goal.returns-clause-says
returns-clause-says c =
    let ws = c.args.list.now in
    law.asked_alone ws _ _ _ _ _ _ _ _ _ c.given_in.ensures
    (list.front_lent ws 8192 12288 _ (omega arith) c.copied-nodes.ensures _ _ _ c.length_of-nodes_end.ensures.0 c.length_of-nodes_end.ensures.1)
    (list.rows_lent ws _ 20480 2 4 512 _
    (list.front_lent ws 20480 512 _ (omega arith) c.copied-binds.ensures _ _ _ c.length_of-binds_end.ensures.0 c.length_of-binds_end.ensures.1)
    c.rows_given-rows.ensures)
    (list.front_lent ws 29952 4096 _ (omega arith) c.copied-scratch.ensures _ _ _ c.length_of-scratch_end.ensures.0 c.length_of-scratch_end.ensures.1)
    (list.front_lent ws 34048 2048 _ (omega arith) c.copied-index.ensures _ _ _ c.length_of-index_end.ensures.0 c.length_of-index_end.ensures.1)
    _ _ _ _ _ _ _ _ _ c.solve_list.ensures.says
