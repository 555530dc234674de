-- By what is held; and the last line has room. Assumes nothing.
use Rattle.std.proofs.Common.{rules, sym, arith, ◌∙◌}
use lib.Seq.{length-take-le}
use Rattle.text_out.proofs.Outs as put
use Rattle.pair_input.specs.Held.{lines_of}
use Rattle.pair_input.proofs.Ways as law
use Rattle.pair_input.proofs.finish.Goals.{in-First-eq0, in-First, in-Second-default-eq0, in-Second}
use Rattle.pair_input.proofs.finish.Goals as goal

pub slice_bounds-put_line-end : goal.slice_bounds-put_line-end
slice_bounds-put_line-end c = sym (length-take-le _ c.args.memory.now (omega (arith, law.first_few _ _ 0 c.requires.0 _ c.in-First.is, c.requires.0.long)))

pub slice_bounds-put_line-end-in-Second-default-eq0 : goal.slice_bounds-put_line-end-in-Second-default-eq0
slice_bounds-put_line-end-in-Second-default-eq0 c =
    sym (length-take-le _ c.args.memory.now (omega (arith, law.both_inside _ _ 0 c.requires.0 _ _ c.in-Second-default-eq0.is)))

pub put_held-requires : goal.put_held-requires
put_held-requires c = law.both_inside _ _ 0 c.requires.0 _ _ c.in-Second.is

pub returns : goal.returns
returns c =
    put.left_whole _ _ (omega (arith, c.requires.1, law.end_output (lines_of c.args.memory.now c.args.held)))
    (elim c.match-held.branch [
      | in-First-eq0 w ↦ w.to-is ∙ law.none_left _ _ c.requires.0 _ _ w.in-First-eq0.is (sym w.in-First-eq0.field-0-is ∙ w.in-First-eq0.field-0-test)
      | in-First w ↦ w.to-is ∙ law.one_left _ _ c.requires.0 _ _ w.in-First.is (rw w.in-First.is at w.in-First.first-test.1) w.put_line.ensures
      | in-Second-default-eq0 w ↦ w.to-is ∙ law.single_left _ _ c.requires.0 _ _ _ w.in-Second-default-eq0.is (sym w.in-Second-default-eq0.field-1-is ∙ w.in-Second-default-eq0.field-1-test) w.put_line-in-Second-default-eq0.ensures
      | in-Second w ↦ w.to-is ∙ law.pair_left _ _ c.requires.0 _ _ _ w.in-Second.is (rw w.in-Second.is at w.in-Second.second-test.1) w.put_held.ensures
    ])
    (search rules)
