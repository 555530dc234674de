-- A constraint more stores the name of its choice. Assumes nothing.
use Rattle.solve_outputs.proofs.Naming.{names_begin, names_end, names_enough, names_few, names_go_on}
use Rattle.solve_outputs.proofs.write_chosen_names.Goals as goal

pub loop-i-init : goal.loop-i-init
loop-i-init c =
    let a = c.args in
    names_begin a.search.now.scratch.now a.typing.now a.search.now.lists.now a.search.now.sizes c.requires

pub name_choice-k-requires : goal.name_choice-k-requires
name_choice-k-requires c =
    let a = c.args in
    let l = c.loop-i in (
      names_enough a.search.now.scratch.now a.typing.now a.search.now.lists.now a.search.now.sizes c.requires l.typing l.k l.i l.invariant
          c.loop-i-test.true _ c.constraint_at.ensures,
      names_few a.search.now.scratch.now a.typing.now a.search.now.lists.now a.search.now.sizes c.requires l.typing l.k l.i l.invariant,
    )

pub loop-i-preserved : goal.loop-i-preserved
loop-i-preserved c =
    let a = c.args in
    let l = c.loop-i in
    names_go_on a.search.now.scratch.now a.typing.now a.search.now.lists.now a.search.now.sizes c.requires l.typing l.k l.i l.invariant
    c.loop-i-test.true _ c.constraint_at.ensures c.name_choice-k.new.typing c.name_choice-k.result
    c.name_choice-k.ensures

pub returns : goal.returns
returns c =
    let a = c.args in
    let l = c.loop-i in
    names_end a.search.now.scratch.now a.typing.now a.search.now.lists.now a.search.now.sizes c.requires l.typing l.k l.i l.invariant c.loop-i-test.false
