-- A constraint more stores its slot. Assumes nothing.
use Rattle.std.proofs.Common.{arith}
use Rattle.solve_outputs.proofs.Choosing.{slots_begin, slots_end, slots_go_on}
use Rattle.solve_outputs.proofs.store_slots.Goals as goal

pub loop-i-init : goal.loop-i-init
loop-i-init c =
    let a = c.args in
    slots_begin a.slots.now a.search.now.lists.now a.search.now.sizes c.requires

pub loop-i-preserved : goal.loop-i-preserved
loop-i-preserved c =
    let a = c.args in
    let l = c.loop-i in
    slots_go_on a.slots.now a.search.now.lists.now a.search.now.sizes.constraints l.slots l.k l.i l.invariant (omega arith) _
    c.constraint_at.ensures c.store_slot-k.new.slots c.store_slot-k.result c.store_slot-k.ensures

pub returns : goal.returns
returns c =
    let a = c.args in
    let l = c.loop-i in
    slots_end a.slots.now a.search.now.lists.now a.search.now.sizes c.requires l.slots l.k l.i l.invariant (omega arith)
