-- An expression more stores the row of its choice, if it has one. Assumes nothing.
use Rattle.std.proofs.Common.{arith}
use Rattle.solve_outputs.proofs.Choosing.{rows_begin_in, rows_end_in, rows_go_on_in}
use Rattle.solve_outputs.proofs.write_choices.Goals as goal

pub loop-x-init : goal.loop-x-init
loop-x-init c =
    let s = c.args.search.now in
    rows_begin_in s.scratch.now c.args.choices.now s.lists.now s.sizes c.requires.0 s.room

pub loop-x-preserved : goal.loop-x-preserved
loop-x-preserved c =
    let s = c.args.search.now in
    let l = c.loop-x in
    rows_go_on_in s.scratch.now c.args.choices.now s.lists.now s.sizes c.requires.0 s.room c.requires.1 _ c.store_slots.ensures l.choices l.k l.x
    l.invariant (omega arith) _ c.word-slot.ensures c.write_choice-k.new.choices c.write_choice-k.result c.write_choice-k.ensures

pub returns : goal.returns
returns c =
    let s = c.args.search.now in
    let l = c.loop-x in
    rows_end_in s.scratch.now c.args.choices.now s.lists.now s.sizes c.requires.0 s.room c.requires.2 l.choices l.k l.x l.invariant (omega arith)
